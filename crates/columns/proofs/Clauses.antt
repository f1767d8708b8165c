-- The clauses of the tests, one at a time: what makes each true or false. A chain of disjunctions is false just where each of its tests is.
use mathlib.Core.Path.{◌≡◌, refl}
use mathlib.Core.Bool.{Bool, false, not, ◌||◌}
use mathlib.Core.List.{List, [], ◌∷◌}
use Prim.Native.Nat.{ℕ, ◌≤◌}
use native.Mathlib.Omega.{arith}
use lib.Dec.{T, ltb, eqb}
use lib.IntN.{ℤ, pos, negsuc, nat_abs}
use lib.Signed.{le_z}
use borrow.Author.Tests.{le-ltb, ne_eqb, eqb-false, ltb-false, not-false}
use Rattle.numbers.proofs.Integers.{ints}
use Rattle.decide.proofs.Below.{left_false, right_false}
use Rattle.meaning.specs.Meaning.{product, Each}
use Rattle.meaning.proofs.Orders.{T_true}
use Rattle.kinds.specs.Kinds.{weight_fits}
use Rattle.kinds.proofs.Weights.{fits_weighable}
use Rattle.columns.specs.Refusals.{outside}

-- ---- chains of disjunctions

abbrev chain : Bool → List Bool → Bool
chain a [] = a
chain a (b ∷ bs) = chain (a || b) bs

pub none_holds : (a : Bool) (bs : List Bool) → chain a bs ≡ false → (a ≡ false) × Each (λ b. b ≡ false) bs
none_holds a [] e = (e, tt)
none_holds a (b ∷ bs) e = let h = none_holds (a || b) bs e in (left_false a b h.0, (right_false a b h.0, h.1))

-- ---- atoms are 1 to n

module _ (n a : ℕ) where
  pub an_atom : (a ≡ 0 → ⊥) → a ≤ n → outside n a ≡ false
  an_atom e h = rw (ne_eqb a 0 e, le-ltb n a h)

  pub is_atom : outside n a ≡ false → (1 ≤ a) × (a ≤ n)
  is_atom e =
      let p : a ≡ 0 → ⊥ = eqb-false a 0 (left_false (eqb a 0) (ltb n a) e) in
      (omega arith, ltb-false n a (right_false (eqb a 0) (ltb n a) e))

-- ---- a weight of a product is at least 1

pub product_weight : (w : ℤ) → not (weight_fits product w) ≡ false → (1 ≤ nat_abs w) × (w ≡ pos (nat_abs w))
product_weight (pos n) e = let h : T (le_z (pos 1) (pos n)) = fits_weighable product (pos n) (T_true (not-false (weight_fits product (pos n)) e)) in (omega ints, refl)
product_weight (negsuc n) e = absurd (T_true (not-false (weight_fits product (negsuc n)) e))
