-- Words stand for values: the order of words is the values' order, and each kind's combination of words is the combination of the values,
-- where it does not wrap.
use mathlib.Core.Path.{◌≡◌, refl, sym, ◌∙◌, ap}
use mathlib.Core.Bool.{Bool, true, false, cond}
use mathlib.Core.Logic.{◌⊎◌, inl, inr, ⊎_elim}
use Prim.Native.Nat.{ℕ, ◌+◌, ◌-◌, ◌*◌, ◌%◌, ◌≤◌, ◌<◌}
use native.Mathlib.Omega.{arith}
use native.Mathlib.Nat.{mul-pos}
use lib.Dec.{eqb}
use lib.IntN.{◌+ℤ◌, ◌*ℤ◌}
use Rattle.numbers.specs.Extended.{Direction, up, down, at}
use Rattle.numbers.specs.Words.{half, top, unword}
use Rattle.numbers.proofs.Words.{Representable, cases, unbias_sum, unbias_product, unword_at, unword_word, unword_max, unword_min}
use Rattle.meaning.specs.Meaning.{empty}
use Rattle.meaning.specs.Meaning as m
use Rattle.meaning.specs.Computed.{both, combine, further_of}
use Rattle.kinds.specs.declared.Kind.{Kind}
use Rattle.kinds.specs.declared.Kind.TheVariants.{Sum, Product, Count, Max, Min}
use Rattle.extremes.specs.Inner.Words.{meant, empty_word, combined, furthest_word, nearest_word, reach_word}
use Rattle.extremes.specs.Inner.Room.{Steps}

-- a kind of the code for each
pub coded : (k : m.Kind) → (c : Kind) × (meant c ≡ k)
coded m.sum = (Sum, refl)
coded m.product = (Product, refl)
coded m.count = (Count, refl)
coded m.maximum = (Max, refl)
coded m.minimum = (Min, refl)

abbrev pub direction : Bool → Direction
direction true = up
direction false = down

pub unword_furthest : (u : Bool) (a b : ℕ) → unword (furthest_word u a b) ≡ further_of (direction u) (unword a) (unword b)
unword_furthest true a b = unword_max a b
unword_furthest false a b = unword_min a b

-- the furthest of two is one of the two, and the nearest the other
pub sides : (u : Bool) (a b : ℕ) → ((furthest_word u a b ≡ a) × (nearest_word u a b ≡ b)) ⊎ ((furthest_word u a b ≡ b) × (nearest_word u a b ≡ a))
sides true a b = ⊎_elim (λ (h : b ≤ a). inl (omega arith, omega arith)) (λ (h : a < b). inr (omega arith, omega arith)) (cases a b)
sides false a b = ⊎_elim (λ (h : b ≤ a). inr (omega arith, omega arith)) (λ (h : a < b). inl (omega arith, omega arith)) (cases a b)

-- ---- the words that a kind computes with

abbrev pub In : Kind → ℕ → Type 0
In Sum w = (0 < w) × (w < top)
In Product w = (half < w) × (w < top)
In Count w = (0 < w) × (w < top)
In Max w = w ≤ top
In Min w = w ≤ top

pub in_top : (k : Kind) (w : ℕ) → In k w → w ≤ top
in_top k w = elim k as (λ k. In k w → w ≤ top) [ Sum ↦ λ h. omega arith | Product ↦ λ h. omega arith | Count ↦ λ h. omega arith | Max ↦ λ h. h | Min ↦ λ h. h ]

pub in_empty : (k : Kind) → In k (empty_word k)
in_empty k = elim k as (λ k. In k (empty_word k))
    [ Sum ↦ (omega arith, omega arith) | Product ↦ (omega arith, omega arith) | Count ↦ (omega arith, omega arith) | Max ↦ omega arith | Min ↦ omega arith ]

pub unword_empty : (k : Kind) → unword (empty_word k) ≡ empty (meant k)
unword_empty k = unword_word (empty (meant k)) (elim k as (λ k. Representable (empty (meant k))) [ Sum ↦ omega arith | Product ↦ omega arith | Count ↦ omega arith | Max ↦ tt | Min ↦ tt ])

-- an entry contributes its weight or the empty value
pub reach_one : (u : Bool) (empty w l x : ℕ) → (reach_word u empty w l x ≡ w) ⊎ (reach_word u empty w l x ≡ empty)
reach_one u empty w l x = go (eqb x 0) (eqb (x % 2) (l % 2)) (⊎_elim (λ e. inl e.0) (λ e. inr e.0) (sides u w empty))
  where
    go : (a b : Bool) → (furthest_word u w empty ≡ w) ⊎ (furthest_word u w empty ≡ empty)
        → (cond a (furthest_word u w empty) (cond b empty w) ≡ w) ⊎ (cond a (furthest_word u w empty) (cond b empty w) ≡ empty)
    go true b h = h
    go false true h = inr refl
    go false false h = inl refl

-- ---- combinations

pub combined_in : (k : Kind) (a x : ℕ) → In k a → In k x → Steps k a x → In k (combined k a x)
combined_in Sum a x p q s = (omega arith, omega arith)
combined_in Product a x p q s =
    let m : 0 < a - half = omega arith in
    let l : 0 < x - half = omega arith in
    (omega (arith, mul-pos m l), omega arith)
combined_in Count a x p q s = (omega arith, omega arith)
combined_in Max a x p q s = omega arith
combined_in Min a x p q s = omega arith

sum_means : (a x : ℕ) → In Sum a → In Sum x → Steps Sum a x → unword (a + x - half) ≡ both ◌+ℤ◌ (unword a) (unword x)
sum_means a x p q s =
    unword_at (a + x - half) (omega arith) (omega arith) ∙ ap at (unbias_sum a x (omega arith))
    ∙ sym (rw (unword_at a p.0 p.1, unword_at x q.0 q.1))

product_means : (a x : ℕ) → In Product a → In Product x → Steps Product a x → unword (half + (a - half) * (x - half)) ≡ both ◌*ℤ◌ (unword a) (unword x)
product_means a x p q s =
    let pa : 0 < a = omega arith in
    let px : 0 < x = omega arith in
    unword_at (half + (a - half) * (x - half)) (omega arith) (omega arith)
    ∙ ap at (unbias_product a x s.0 s.1)
    ∙ sym (rw (unword_at a pa p.1, unword_at x px q.1))

pub combined_means : (k : Kind) (a x : ℕ) → In k a → In k x → Steps k a x → unword (combined k a x) ≡ combine (meant k) (unword a) (unword x)
combined_means Sum a x p q s = sum_means a x p q s
combined_means Product a x p q s = product_means a x p q s
combined_means Count a x p q s = sum_means a x p q s
combined_means Max a x p q s = unword_max a x
combined_means Min a x p q s = unword_min a x
