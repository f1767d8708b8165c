-- What fits a kind's range is a weight that the meaning takes, of a product at least 1, and no larger than the limit.
use Prim.Native.Nat.{ℕ, ◌≤◌}
use lib.IntN.{ℤ, pos, negsuc, neg_ℤ, nat_abs}
use lib.Signed.{le_z}
use lib.Dec.{T}
use Rattle.types.specs.Limits.{weight_limit}
use Rattle.numbers.proofs.Integers.{ints, neg_parts, near}
use Rattle.meaning.specs.Meaning.{Kind, sum, product, count, maximum, minimum, weighable}
use Rattle.meaning.proofs.Verdicts.{and_first, and_second}
use Rattle.kinds.specs.Kinds.{between, weight_fits}

pub fits_weighable : (k : Kind) (w : ℤ) → T (weight_fits k w) → T (weighable k w)
fits_weighable k w = elim k as (λ k. T (weight_fits k w) → T (weighable k w)) [
  | sum ↦ λ t. tt
  | product ↦ and_first (le_z (pos 1) w) (le_z w (pos weight_limit))
  | count ↦ λ t. tt
  | maximum ↦ λ t. tt
  | minimum ↦ λ t. tt
]

pub between_size : (least greatest w : ℤ) (m : ℕ) → T (le_z (neg_ℤ (pos m)) least) → T (le_z greatest (pos m)) → T (between least greatest w) → nat_abs w ≤ m
between_size least greatest w m l g t =
    let a : T (le_z least w) = and_first (le_z least w) (le_z w greatest) t in
    let b : T (le_z w greatest) = and_second (le_z least w) (le_z w greatest) t in
    near w m (omega (ints, neg_parts (pos m))) (omega (ints, neg_parts (pos m)))

pub fits_size : (k : Kind) (w : ℤ) → T (weight_fits k w) → nat_abs w ≤ 1000000000
fits_size sum w t = between_size (negsuc 999999999) (pos 1000000000) w 1000000000 tt tt t
fits_size product w t = between_size (pos 1) (pos 1000000000) w 1000000000 tt tt t
fits_size count w t = between_size (pos 1) (pos 1) w 1000000000 tt tt t
fits_size maximum w t = between_size (negsuc 999999999) (pos 1000000000) w 1000000000 tt tt t
fits_size minimum w t = between_size (negsuc 999999999) (pos 1000000000) w 1000000000 tt tt t
