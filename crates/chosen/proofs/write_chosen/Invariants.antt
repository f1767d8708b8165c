-- The chosen literals of the positions passed stand at the front of the list, and the rest of it is as it was.
use Rattle.std.proofs.Common.{◌≡◌, length}
use Rattle.chosen.specs.Inner.Chosen.{chosen_literals}
use Rattle.chosen.proofs.Chosen.{Written}
use Rattle.chosen.proofs.write_chosen.Given as goal

abbrev pub invariant-loop-i : goal.invariant-loop-i
invariant-loop-i l = (l.at ≡ length (chosen_literals l.trail.area.now l.trail.n l.marks l.i)) × Written l.trail.area.now l.trail.n l.marks l.i l.initial.list l.list
