-- The rows passed have right reasons.
use Rattle.std.proofs.Common.{ℕ, ◌<◌}
use Rattle.area.specs.Whole.{Reasoned}
use Rattle.reason_check.proofs.reasons_ok.Given as goal

abbrev pub invariant-loop-i : goal.invariant-loop-i
invariant-loop-i l = (k : ℕ) → k < l.i → Reasoned l.area l.sizes.atoms l.sizes.sentences k
