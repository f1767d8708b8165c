-- The value words of the atoms passed are right.
use Rattle.std.proofs.Common.{ℕ, ◌<◌, ◌≤◌}
use Rattle.trail_check.specs.Inner.Places.{ValueOk}
use Rattle.trail_check.proofs.Trail.values_ok.Given as goal

abbrev pub invariant-loop-atom : goal.invariant-loop-atom
invariant-loop-atom l = (a : ℕ) → a < l.atom → 1 ≤ a → ValueOk l.self.area.now l.self.n l.self.len a
