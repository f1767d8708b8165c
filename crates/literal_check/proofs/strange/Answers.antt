-- The head is looked at first, then the literals; a literal's size is its atom.
use Rattle.std.proofs.Common.{◌||◌, nat_abs, ◌∙◌, sym, ap, rules, tests}
use Rattle.std.proofs.lemmas.Iterator.{YieldsList-from_slice}
use Rattle.std.proofs.lemmas.Iterator.Search.{any_from_yields_List}
use Rattle.columns.specs.Refusals.{outside}
use Rattle.columns.specs.Indexed.{no_literal}
use Rattle.columns.proofs.Paired.{some_size}
use Rattle.literal_check.proofs.strange.Goals as goal

pub returns-else-outside : goal.returns-else-outside
returns-else-outside c = let ls = c.args.literals.now in
    any_from_yields_List (λ x. outside c.args.n (nat_abs x)) _ _ _ c.any.ensures.ran (YieldsList-from_slice ls cc) (λ x b q k. search (rules, tests))
    ∙ some_size (outside c.args.n) ls ∙ ap (λ b. b || no_literal c.args.n ls) (sym c.if-outside.false ∙ c.outside.ensures)
