-- A product that would pass its limit stays past it, since no weight of a product is below 1.
use mathlib.Core.Path.{◌≡◌, sym, ap₂, ◌∙◌}
use mathlib.Core.Bool.{true, false, not}
use mathlib.Core.List.{List}
use Prim.Native.Nat.{ℕ, ◌≤◌, ◌<◌, ◌/◌, ◌+◌, ◌*◌}
use native.Mathlib.Omega.{arith}
use native.Mathlib.Nat.{le-div_iff_mul-le, div-lt_iff_lt-mul}
use borrow.Author.Tests.{lt-ltb}
use lib.ListN.{length}
use lib.IntN.{ℤ, nat_abs}
use Rattle.types.specs.Limits.{bound_limit}
use Rattle.decide.specs.Below.{product_below}
use Rattle.decide.proofs.Below.{product_step, product_grows, none_has}
use Rattle.meaning.specs.Meaning.{product}
use Rattle.kinds.specs.Kinds.{weight_fits}
use Rattle.columns.specs.Indexed.{nth, unfit_weights, product_above}
use Rattle.columns.proofs.Clauses.{product_weight}

-- the product of the first i weights is x, and w is the size of weight i
module _ (ws : List ℤ) (i x w : ℕ) (fit : unfit_weights product ws ≡ false) (l : i < length ws) (x_is : x ≡ product_below i (λ k. nat_abs (nth ws k)))
    (w_is : w ≡ nat_abs (nth ws i)) where
  at_least_one : (j : ℕ) → j < length ws → 1 ≤ nat_abs (nth ws j)
  at_least_one j h = (product_weight (nth ws j) (none_has j (length ws) (λ k. not (weight_fits product (nth ws k))) fit h)).0

  pub positive : 1 ≤ w
  positive = omega (arith, at_least_one i l)

  pub next : x * w ≡ product_below (i + 1) (λ k. nat_abs (nth ws k))
  next = ap₂ {A = ℕ} {B = ℕ} (λ a b. a * b) x_is w_is ∙ sym (product_step i (λ k. nat_abs (nth ws k)))

  pub passed : bound_limit / w < x → true ≡ product_above ws
  passed h =
      let g : bound_limit < x * w = (div-lt_iff_lt-mul positive).0 h in
      sym (lt-ltb bound_limit (product_below (length ws) (λ k. nat_abs (nth ws k)))
      (omega (arith, next, product_grows (λ k. nat_abs (nth ws k)) (i + 1) (length ws) (omega arith) at_least_one)))

  pub within : x ≤ bound_limit / w → x * w ≤ bound_limit
  within h = (le-div_iff_mul-le positive).0 h
