-- The sentences passed are refreshed, and the words of the others are as they were.
use Rattle.refresh.specs.Inner.Refresh.{RefreshedTo}
use Rattle.refresh.proofs.refresh.Given as goal

abbrev pub invariant-loop-s : goal.invariant-loop-s
invariant-loop-s l = RefreshedTo l.fn.area l.area l.sizes.atoms l.sizes.sentences l.touched l.s
