-- Folding the contributions from entry i on, from `least` and from `greatest`, comes to the whole folds, and does not wrap.
use Rattle.extremes.proofs.Loops.{Foldings}
use Rattle.extremes.proofs.folds.Given as goal

abbrev pub invariant-loop-i : goal.invariant-loop-i
invariant-loop-i g l = Foldings g.K.Aggregate.kind l.area l.start l.count l.n l.first l.i l.both.least l.both.greatest
