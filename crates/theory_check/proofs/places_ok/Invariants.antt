-- The sentences passed stand at their places, and `before` is how many entries they were written with.
use Rattle.std.proofs.Common.{◌≡◌, ℕ, ◌*◌, ◌<◌, ◌≤◌}
use Rattle.area.specs.Layout.{entries_before}
use Rattle.theory_check.specs.Theory.{PlaceOk}
use Rattle.theory_check.proofs.places_ok.Given as goal

abbrev pub invariant-loop-s : goal.invariant-loop-s
invariant-loop-s l = record {
  sum : l.before ≡ entries_before l.area l.sizes.atoms l.s;
  small : l.before ≤ 4096 * l.s;
  placed : (k : ℕ) → k < l.s → PlaceOk l.lim l.area l.sizes.atoms k;
}
