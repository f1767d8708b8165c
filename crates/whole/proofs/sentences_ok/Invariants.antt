-- The sentences passed are right over every trail that the values show, and no stamp is above their number.
use Rattle.whole.proofs.CheckSentences.{Passed}
use Rattle.whole.proofs.sentences_ok.Given as goal

abbrev pub invariant-loop-s : goal.invariant-loop-s
invariant-loop-s l = Passed l.lim l.area l.sizes.atoms l.sizes.sentences l.s l.seen
