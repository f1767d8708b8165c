-- The entries passed are whole, apart and stamped, and `product` is their product.
use Rattle.entries_check.proofs.Entries.{Passed}
use Rattle.entries_check.proofs.entries_ok.Given as goal

abbrev pub invariant-loop-i : goal.invariant-loop-i
invariant-loop-i l = Passed l.area l.n l.base l.at l.old l.i l.seen l.product
