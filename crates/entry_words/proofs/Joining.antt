-- The word that joins two weights: no sum, difference or product in it wraps, and it stands for the joined weight, by the kind.
use mathlib.Core.Path.{◌≡◌, refl, sym, ap, ◌∙◌}
use mathlib.Core.Bool.{true, cond}
use mathlib.Core.Logic.{◌⊎◌, ⊎_elim}
use Prim.Native.Nat.{ℕ, ◌+◌, ◌-◌, ◌*◌, ◌≤◌, ◌<◌, max, min}
use lib.IntN.{ℤ, pos, nat_abs, ◌+ℤ◌}
use lib.Signed.{le_z}
use lib.Dec.{T, leb→le}
use borrow.Author.Tests.{le-leb, lt-leb}
use native.Mathlib.Omega.{arith}
use Rattle.numbers.specs.Words.{half, unbias}
use Rattle.numbers.proofs.Integers.{ints, size_parts}
use Rattle.numbers.proofs.Words.{cases, unbias_parts, unbias_sum, unbias_natural, unbias_product, unbias_leb}
use Rattle.meaning.specs.Meaning.{Kind, sum, product, count, maximum, minimum, mixes}
use Rattle.meaning.specs.Merge.{joined}
use Rattle.meaning.proofs.Orders.{T_true}
use Rattle.kinds.specs.declared.Kind as code
use Rattle.kinds.specs.declared.Kind.TheVariants.{Sum, Count}
use Rattle.kinds.specs.Kinds.{meant}
use Rattle.entry_words.specs.Inner.Entries.{Joinable}

-- ---- sums and counts

pub mixing : (k : code.Kind) → (k ≡ Sum) ⊎ (k ≡ Count) → mixes (meant k) ≡ true
mixing k h = ⊎_elim (λ (e : k ≡ Sum). rw e) (λ (e : k ≡ Count). rw e) h

small : (k : Kind) (v w : ℤ) → T (mixes k) → Joinable k v w → (nat_abs v ≤ 4096000000000) × (nat_abs w ≤ 1000000000)
small k v w = elim k as (λ k. T (mixes k) → Joinable k v w → (nat_abs v ≤ 4096000000000) × (nat_abs w ≤ 1000000000)) [ sum ↦ λ m j. j | product ↦ λ m j. absurd m | count ↦ λ m j. j | maximum ↦ λ m j. absurd m | minimum ↦ λ m j. absurd m ]

pub record SumFits (x y : ℕ) : Type 0 where
  pub low : half ≤ x + y
  pub high : x + y < 18446744073709551616

pub sum_fits : (kind : Kind) (x y : ℕ) → mixes kind ≡ true → Joinable kind (unbias x) (unbias y) → SumFits x y
sum_fits kind x y m j =
    let s = small kind (unbias x) (unbias y) (T_true m) j in
    let p = s.0 in let q = s.1 in
    record {
      low = omega (ints, unbias_parts x, unbias_parts y, size_parts (unbias x), size_parts (unbias y));
      high = omega (ints, unbias_parts x, unbias_parts y, size_parts (unbias x), size_parts (unbias y));
    }

pub joined_sum : (k : Kind) (v w : ℤ) → T (mixes k) → joined k v w ≡ v +ℤ w
joined_sum k v w = elim k as (λ k. T (mixes k) → joined k v w ≡ v +ℤ w) [ sum ↦ λ m. refl | product ↦ absurd | count ↦ λ m. refl | maximum ↦ absurd | minimum ↦ absurd ]

pub sum_joins : (kind : Kind) (x y : ℕ) → mixes kind ≡ true → Joinable kind (unbias x) (unbias y) → unbias (x + y - half) ≡ joined kind (unbias x) (unbias y)
sum_joins kind x y m j = unbias_sum x y (sum_fits kind x y m j).low ∙ sym (joined_sum kind (unbias x) (unbias y) (T_true m))

-- ---- products

pub record ProductFits (x y : ℕ) : Type 0 where
  pub left : half ≤ x
  pub right : half ≤ y
  pub high : (x - half) * (y - half) ≤ 1000000000000000000

pub product_fits : (k : Kind) (x y : ℕ) → k ≡ product → Joinable k (unbias x) (unbias y) → ProductFits x y
product_fits k x y e j =
    let h : Joinable product (unbias x) (unbias y) = rw e at j in
    let a = h.0 in let b = h.1 in
    let left : half ≤ x = omega (ints, unbias_parts x) in
    let right : half ≤ y = omega (ints, unbias_parts y) in
    let c : T (le_z (pos ((x - half) * (y - half))) (pos 1000000000000000000)) = rw (unbias_natural x left, unbias_natural y right) at h.2 in
    record { left = left; right = right; high = leb→le ((x - half) * (y - half)) 1000000000000000000 c }

pub product_joins : (k : Kind) (x y : ℕ) → k ≡ product → Joinable k (unbias x) (unbias y) → unbias (half + (x - half) * (y - half)) ≡ joined k (unbias x) (unbias y)
product_joins k x y e j = let p = product_fits k x y e j in unbias_product x y p.left p.right ∙ ap (λ k. joined k (unbias x) (unbias y)) (sym e)

-- ---- maximum and minimum

first_more : (x y : ℕ) (u v : ℤ) → x ≤ y → cond (le_z (unbias x) (unbias y)) u v ≡ u
first_more x y u v h = rw (unbias_leb x y, le-leb x y h)

second_more : (x y : ℕ) (u v : ℤ) → y < x → cond (le_z (unbias x) (unbias y)) u v ≡ v
second_more x y u v h = rw (unbias_leb x y, lt-leb x y h)

pub most_joins : (k : Kind) (x y r : ℕ) → k ≡ maximum → r ≡ max x y → unbias r ≡ joined k (unbias x) (unbias y)
most_joins k x y r e m = rw e (⊎_elim (λ (h : x ≤ y). ap unbias (omega arith) ∙ sym (first_more x y (unbias y) (unbias x) h))
    (λ (h : y < x). ap unbias (omega arith) ∙ sym (second_more x y (unbias y) (unbias x) h)) (cases y x))

pub least_joins : (k : Kind) (x y r : ℕ) → k ≡ minimum → r ≡ min x y → unbias r ≡ joined k (unbias x) (unbias y)
least_joins k x y r e m = rw e (⊎_elim (λ (h : x ≤ y). ap unbias (omega arith) ∙ sym (first_more x y (unbias x) (unbias y) h))
    (λ (h : y < x). ap unbias (omega arith) ∙ sym (second_more x y (unbias x) (unbias y) h)) (cases y x))
