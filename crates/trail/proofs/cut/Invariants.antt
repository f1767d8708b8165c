-- `Cutting` holds at the head of the loop: the rows from `last` on are off.
use Rattle.area.specs.Layout.{level_of}
use Rattle.trail.proofs.Cutting.{Cutting}
use Rattle.trail.proofs.cut.Given as goal

abbrev pub invariant-loop-last : goal.invariant-loop-last
invariant-loop-last l = Cutting l.initial.area l.area l.n l.len (level_of l.initial.area) l.k l.last l.touched
