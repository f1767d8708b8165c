-- Those found before a place and those from it on make up all.
use Rattle.std.proofs.Common.{◌≤◌}
use Rattle.negations.proofs.Loops.{Counted}
use Rattle.negations.proofs.count_causes.Given as goal

abbrev pub invariant-loop-place : goal.invariant-loop-place
invariant-loop-place l = (l.found ≤ l.place) × Counted l.sentence.area.now l.sentence.sizes.atoms l.sentence.sizes.sentences l.sentence.base l.limit l.place l.found
