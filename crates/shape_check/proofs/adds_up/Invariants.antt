-- What is left and the sum so far are the total.
use Rattle.std.proofs.Common.{◌≡◌, ◌+◌}
use Rattle.decide.specs.Below.{sum_first}
use Rattle.shape_check.proofs.adds_up.Given as goal

abbrev pub invariant-loop-count : goal.invariant-loop-count
invariant-loop-count l = l.left + sum_first l.counts l.count-index ≡ l.total
