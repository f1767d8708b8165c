-- The places passed are right.
use Rattle.std.proofs.Common.{ℕ, ◌<◌}
use Rattle.trail_check.specs.Inner.Places.{RowOk}
use Rattle.trail_check.proofs.Trail.places_ok.Given as goal

abbrev pub invariant-loop-i : goal.invariant-loop-i
invariant-loop-i l = (k : ℕ) → k < l.i → RowOk l.self.area.now l.self.n k
