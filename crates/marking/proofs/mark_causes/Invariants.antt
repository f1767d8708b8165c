-- The places before `place` are handled.
use Rattle.marking.proofs.Naming.{Naming}
use Rattle.marking.proofs.mark_causes.Given as goal

abbrev pub invariant-loop-place : goal.invariant-loop-place
invariant-loop-place l = Naming l.area l.fn.sizes.atoms l.fn.sizes.sentences l.s l.limit l.initial.marks l.place l.marks
