-- The first k heads are given.
use Rattle.listing_heads.specs.Heads.{HeadsGiven}
use Rattle.listing_heads.proofs.give_heads.Given as goal

abbrev pub invariant-loop-k : goal.invariant-loop-k
invariant-loop-k l = HeadsGiven l.fn.area l.area l.variables l.k l.current
