-- Each literal up to the first of no atom has one (`Passing`).
use Rattle.std.proofs.Common.{◌≡◌, true, false, arith, rules}
use Rattle.std.proofs.Math.Seq.{take_all}
use Rattle.std.proofs.lemmas.Iterator.{cases_from_all, YieldsList-from_slice}
use Rattle.literals.specs.Inner.Literals.{unknown}
use Rattle.candidates.proofs.Passing.{told_all, unknown_by}
use Rattle.candidates.proofs.all_known.Goals as goal

pub returns : goal.returns
returns c =
    told_all c.all.result c.args.n c.args.literals.now
    (cases_from_all _ _ _ (λ l. unknown c.args.n l ≡ false) (λ l. unknown c.args.n l ≡ true) c.all.ensures.ran
    (YieldsList-from_slice c.args.literals.now (grind (arith, take_all))) (λ x q k. search (rules, unknown_by)) (λ x q k. search (rules, unknown_by)))
