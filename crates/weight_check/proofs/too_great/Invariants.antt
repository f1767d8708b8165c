-- The product so far is at most the limit.
use Rattle.std.proofs.Common.{◌≡◌, ◌≤◌, nat_abs}
use Rattle.types.specs.Limits.{bound_limit}
use Rattle.decide.specs.Below.{product_below}
use Rattle.columns.specs.Indexed.{nth}
use Rattle.weight_check.proofs.too_great.Given as goal

abbrev pub invariant-loop-weight : goal.invariant-loop-weight
invariant-loop-weight l = record {
  product_is : l.product ≡ product_below l.weight-index (λ k. nat_abs (nth l.weights k));
  low : l.product ≤ bound_limit;
}
