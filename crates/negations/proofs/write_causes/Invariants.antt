-- Those before a place are written, and those from it on make up the rest.
use Rattle.negations.proofs.Loops.{Writing}
use Rattle.negations.proofs.write_causes.Given as goal

abbrev pub invariant-loop-place : goal.invariant-loop-place
invariant-loop-place l = Writing l.sentence.area.now l.sentence.sizes.atoms l.sentence.sizes.sentences l.sentence.base l.limit l.start l.initial.list l.place l.at l.list
