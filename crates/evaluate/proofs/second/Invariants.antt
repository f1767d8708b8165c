-- From `best` and `next` on, the contributions from entry i on leave the whole second best.
use Rattle.evaluate.proofs.Loops.{Seconds}
use Rattle.evaluate.proofs.second.Given as goal

abbrev pub invariant-loop-i : goal.invariant-loop-i
invariant-loop-i l = Seconds l.up l.area l.start l.count l.n l.i l.best l.next
