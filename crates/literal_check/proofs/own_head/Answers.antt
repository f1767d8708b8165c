-- A literal's size is its atom.
use Rattle.std.proofs.Common.{eqb, nat_abs, ◌∙◌, rules, tests}
use Rattle.std.proofs.lemmas.Iterator.{YieldsList-from_slice}
use Rattle.std.proofs.lemmas.Iterator.Search.{any_from_yields_List}
use Rattle.columns.proofs.Paired.{some_size}
use Rattle.literal_check.proofs.own_head.Goals as goal

pub returns : goal.returns
returns c = let ls = c.args.literals.now in
    any_from_yields_List (λ x. eqb (nat_abs x) c.args.head) _ _ _ c.any.ensures.ran (YieldsList-from_slice ls cc) (λ x b q k. search (rules, tests))
    ∙ some_size (λ a. eqb a c.args.head) ls
