-- Some weight does not fit its kind's range, as `any` finds.
use Rattle.std.proofs.Common.{not, ◌∙◌, rules, tests}
use Rattle.std.proofs.lemmas.Iterator.{YieldsList-from_slice}
use Rattle.std.proofs.lemmas.Iterator.Search.{any_from_yields_List}
use Rattle.kinds.specs.Kinds.{meant, weight_fits}
use Rattle.columns.proofs.Paired.{some_of}
use Rattle.weight_check.proofs.unfit.Goals as goal

pub returns : goal.returns
returns c = let ws = c.args.weights.now in
    any_from_yields_List (λ w. not (weight_fits (meant c.args.kind) w)) _ _ _ c.any.ensures.ran (YieldsList-from_slice ws cc) (λ x b q k. search (rules, tests))
    ∙ some_of (λ w. not (weight_fits (meant c.args.kind) w)) ws
