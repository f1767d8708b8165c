-- Whatever is put on, a value stays between the extremes: of two folds, one down and one up, whose values agree where both are set, the
-- lower one is the lesser, entry by entry. So where the comparison has its truth at the other extreme too, no entry can take it away.
use mathlib.Core.Path.{◌≡◌, sym, ap}
use mathlib.Core.Bool.{Bool, true, false, not, cond}
use mathlib.Core.Logic.{◌⊎◌, inl, inr, ⊎_elim}
use mathlib.Core.List.{List, [], ◌∷◌}
use Prim.Native.Nat.{ℕ, ◌-◌, ◌/◌, ◌%◌, ◌≤◌, min, max}
use native.Mathlib.Omega.{arith}
use native.Mathlib.Nat.{mul-le-mul}
use lib.Dec.{eqb, leb}
use borrow.Author.Tests.{leb-true, leb-false, le-leb, lt-leb, not-true}
use Rattle.numbers.specs.Words.{half}
use Rattle.kinds.specs.declared.Kind.{Kind}
use Rattle.kinds.specs.declared.Kind.TheVariants.{Sum, Product, Count, Max, Min}
use Rattle.extremes.specs.Inner.Words.{empty_word, combined, reach_word, contributions, folded, extreme_word, start_word}
use Rattle.extremes.proofs.Values.{reach_one}
use Rattle.evaluate.specs.Inner.Words.{keeps}

combined_mono : (k : Kind) (a b x y : ℕ) → a ≤ b → x ≤ y → combined k a x ≤ combined k b y
combined_mono Sum a b x y h g = omega arith
combined_mono Product a b x y h g =
    let p : a - half ≤ b - half = omega arith in
    let q : x - half ≤ y - half = omega arith in
    omega (arith, mul-le-mul p q)
combined_mono Count a b x y h g = omega arith
combined_mono Max a b x y h g = omega arith
combined_mono Min a b x y h g = omega arith

-- one of the two values is open, or they are the same
abbrev pub Agreeing : ℕ → ℕ → Type 0
Agreeing x y = (x ≡ 0) ⊎ (y ≡ 0) ⊎ (x ≡ y)

reach_mono : (empty w l x y : ℕ) → Agreeing x y → reach_word false empty w l x ≤ reach_word true empty w l y
reach_mono empty w l x y (inl e) = rw e (⊎_elim (λ q. omega arith) (λ q. omega arith) (reach_one true empty w l y))
reach_mono empty w l x y (inr (inl e)) = rw e (⊎_elim (λ q. omega arith) (λ q. omega arith) (reach_one false empty w l x))
reach_mono empty w l x y (inr (inr e)) = rw e (pick (eqb y 0) (cond (eqb (y % 2) (l % 2)) empty w))
  where
    pick : (b : Bool) (z : ℕ) → cond b (min w empty) z ≤ cond b (max w empty) z
    pick true z = omega arith
    pick false z = omega arith

module _ (k : Kind) (x y : ℕ → ℕ) (agree : (a : ℕ) → Agreeing (x a) (y a)) where
  folded_mono : (a b : ℕ) (words : List ℕ) → a ≤ b → folded k a (contributions k false x words) ≤ folded k b (contributions k true y words)
  unfolding folded contributions
  folded_mono a b [] h = h
  folded_mono a b (w ∷ []) h = h
  folded_mono a b (w ∷ l ∷ rest) h =
      folded_mono (combined k a (reach_word false (empty_word k) w l (x (l / 2)))) (combined k b (reach_word true (empty_word k) w l (y (l / 2)))) rest
      (combined_mono k a b (reach_word false (empty_word k) w l (x (l / 2))) (reach_word true (empty_word k) w l (y (l / 2))) h (reach_mono (empty_word k) w l (x (l / 2)) (y (l / 2)) (agree (l / 2))))

agreeing_sym : (x y : ℕ) → Agreeing x y → Agreeing y x
agreeing_sym x y (inl e) = inr (inl e)
agreeing_sym x y (inr (inl e)) = inl e
agreeing_sym x y (inr (inr e)) = inr (inr (sym e))

pub range_keeps : (k : Kind) (u : Bool) (limit c : ℕ) (v v' : ℕ → ℕ) (words : List ℕ) → ((a : ℕ) → Agreeing (v a) (v' a))
    → keeps u limit (extreme_word k (not u) v c words) ≡ true → not (keeps u limit (extreme_word k u v' c words)) ≡ false
range_keeps k true limit c v v' words agree h =
    let within : extreme_word k false v c words ≤ extreme_word k true v' c words = folded_mono k v v' agree (start_word k c) (start_word k c) words (omega arith) in
    ap not (le-leb limit (extreme_word k true v' c words) (omega (arith, leb-true limit (extreme_word k false v c words) h)))
range_keeps k false limit c v v' words agree h =
    let within : extreme_word k false v' c words ≤ extreme_word k true v c words = folded_mono k v' v (λ a. agreeing_sym (v a) (v' a) (agree a))
    (start_word k c) (start_word k c) words (omega arith) in
    ap (λ b. not (not b)) (lt-leb limit (extreme_word k false v' c words) (omega (arith, leb-false limit (extreme_word k true v c words) (not-true (leb limit (extreme_word k true v c words)) h))))
