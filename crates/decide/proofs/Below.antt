-- The laws of tests, sums and products over the numbers below k: none so far and one more, as loops need them. A disjunction is false
-- just where both of its sides are, and a product does not fall where its factors are at least 1.
use mathlib.Core.Path.{◌≡◌, refl, sym, ap, ◌∙◌}
use mathlib.Core.Bool.{Bool, true, false, ◌||◌}
use mathlib.Core.List.{List}
use mathlib.Core.Logic.{⊎_elim}
use Prim.Native.Nat.{ℕ, zero, suc, ◌+◌, ◌*◌, ◌-◌, ◌<◌, ◌≤◌}
use native.Mathlib.Omega.{arith}
use native.Mathlib.Numerals.{add-one}
use native.Mathlib.Nat.{eq-or-lt_of_le, le-mul_of_pos_right, mul_assoc}
use lib.ListN.{get_or}
use Rattle.decide.specs.Below.{some_below, sum_first, product_below}

-- ---- disjunctions

pub neither : (a b : Bool) → a ≡ false → b ≡ false → (a || b) ≡ false
neither a b e f = rw (e, f)

pub or_left : (a b : Bool) → a ≡ true → (a || b) ≡ true
or_left a b e = rw e

pub or_right : (a b : Bool) → b ≡ true → (a || b) ≡ true
or_right true b e = refl
or_right false b e = e

pub left_false : (a b : Bool) → (a || b) ≡ false → a ≡ false
left_false true b e = cc
left_false false b e = refl

pub right_false : (a b : Bool) → (a || b) ≡ false → b ≡ false
right_false true b e = cc
right_false false b e = e

-- ---- tests

pub some_none : (p : ℕ → Bool) → some_below 0 p ≡ false
unfolding some_below
some_none p = ap {A = Bool} (λ b. b) refl

pub some_step : (k : ℕ) (p : ℕ → Bool) → some_below (k + 1) p ≡ (some_below k p || p k)
unfolding some_below
some_step k p = ap {A = ℕ} (λ n. some_below n p) (add-one k)

pub some_more : (k : ℕ) (p : ℕ → Bool) → some_below k p ≡ false → p k ≡ false → some_below (k + 1) p ≡ false
some_more k p e f = some_step k p ∙ neither (some_below k p) (p k) e f

pub some_here : (i k : ℕ) (p : ℕ → Bool) → i < k → p i ≡ true → some_below k p ≡ true
unfolding some_below
some_here i zero p h e = let b : ⊥ = omega arith in absurd b
some_here i (suc k) p h e =
    ⊎_elim {A = i ≡ k} {B = i < k}
    (λ (q : i ≡ k). or_right (some_below k p) (p k) (ap {A = ℕ} p (sym q) ∙ e))
    (λ (q : i < k). or_left (some_below k p) (p k) (some_here i k p q e))
    (eq-or-lt_of_le (omega arith))

-- where none is found, none has it
pub none_has : (i k : ℕ) (p : ℕ → Bool) → some_below k p ≡ false → i < k → p i ≡ false
unfolding some_below
none_has i zero p e h = let b : ⊥ = omega arith in absurd b
none_has i (suc k) p e h =
    ⊎_elim {A = i ≡ k} {B = i < k}
    (λ (q : i ≡ k). ap {A = ℕ} p q ∙ right_false (some_below k p) (p k) e)
    (λ (q : i < k). none_has i k p (left_false (some_below k p) (p k) e) q)
    (eq-or-lt_of_le (omega arith))

pub none_of : (k : ℕ) (p : ℕ → Bool) → ((i : ℕ) → i < k → p i ≡ false) → some_below k p ≡ false
unfolding some_below
none_of zero p h = refl
none_of (suc k) p h = neither (some_below k p) (p k) (none_of k p (λ i l. h i (omega arith))) (h k (omega arith))

-- ---- what does not fall from one number to the next

pub rises : (f : ℕ → ℕ) (k m : ℕ) → k ≤ m → ((i : ℕ) → i < m → f i ≤ f (i + 1)) → f k ≤ f m
rises f k m l h = let e : k + (m - k) ≡ m = omega arith in omega (arith, by (m - k) (λ i t. h i (omega arith)), ap {A = ℕ} f e)
  where
    by : (d : ℕ) → ((i : ℕ) → i < k + d → f i ≤ f (i + 1)) → f k ≤ f (k + d)
    by zero h = let e : k + 0 ≡ k = omega arith in omega (arith, ap {A = ℕ} f e)
    by (suc d) h = let e : k + suc d ≡ k + d + 1 = omega arith in
        omega (arith, by d (λ i t. h i (omega arith)), h (k + d) (omega arith), ap {A = ℕ} f e)

-- ---- sums

pub sum_none : (l : List ℕ) → sum_first l 0 ≡ 0
unfolding sum_first
sum_none l = ap {A = ℕ} (λ n. n) refl

pub sum_step : (l : List ℕ) (k : ℕ) → sum_first l (k + 1) ≡ sum_first l k + get_or l k 0
unfolding sum_first
sum_step l k = ap {A = ℕ} (sum_first l) (add-one k)

pub sum_upto : (l : List ℕ) (k m : ℕ) → k ≤ m → sum_first l k ≤ sum_first l m
sum_upto l k m h = rises (sum_first l) k m h (λ i t. omega (arith, sum_step l i))

-- ---- products

pub product_none : (f : ℕ → ℕ) → product_below 0 f ≡ 1
unfolding product_below
product_none f = ap {A = ℕ} (λ n. n) refl

pub product_step : (k : ℕ) (f : ℕ → ℕ) → product_below (k + 1) f ≡ product_below k f * f k
unfolding product_below
product_step k f = ap {A = ℕ} (λ n. product_below n f) (add-one k)

pub product_front : (k : ℕ) (f : ℕ → ℕ) → product_below (suc k) f ≡ f 0 * product_below k (λ i. f (suc i))
unfolding product_below
product_front zero f = omega arith
product_front (suc k) f = ap {A = ℕ} (λ x. x * f (suc k)) (product_front k f) ∙ mul_assoc (f 0) (product_below k (λ i. f (suc i))) (f (suc k))

pub product_grows : (f : ℕ → ℕ) (k m : ℕ) → k ≤ m → ((j : ℕ) → j < m → 1 ≤ f j) → product_below k f ≤ product_below m f
product_grows f k m l h =
    rises (λ n. product_below n f) k m l (λ i t. omega (arith, product_step i f, le-mul_of_pos_right (product_below i f) (h i t)))
