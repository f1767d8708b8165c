-- The sentences passed are cleared, and every other word is as it was.
use Rattle.derive.specs.Inner.Settle.{Settled}
use Rattle.derive.proofs.settle.Given as goal

abbrev pub invariant-loop-s : goal.invariant-loop-s
invariant-loop-s l = Settled l.initial.area l.area l.sizes.atoms l.s
