-- No atom of the entries passed is touched.
use Rattle.std.proofs.Common.{◌≡◌, ℕ, ◌<◌, ◌/◌}
use Rattle.area.specs.Layout.{word, literal_in}
use Rattle.refresh.proofs.touches.Given as goal

abbrev pub invariant-loop-i : goal.invariant-loop-i
invariant-loop-i l = (j : ℕ) → j < l.i → word l.touched (literal_in l.area l.start j / 2) ≡ 0
