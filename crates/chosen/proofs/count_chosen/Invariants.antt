-- As many as were found so far are the chosen literals of the positions passed.
use Rattle.std.proofs.Common.{◌≡◌, ◌≤◌, length}
use Rattle.chosen.specs.Inner.Chosen.{chosen_literals}
use Rattle.chosen.proofs.count_chosen.Given as goal

abbrev pub invariant-loop-i : goal.invariant-loop-i
invariant-loop-i l = (l.found ≤ l.i) × (l.found ≡ length (chosen_literals l.trail.area.now l.trail.n l.marks l.i))
