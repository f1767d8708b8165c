-- No weight that is joined leaves the words: in sums and counts each entry adds at most 10^9 to a weight, and a product of some weights is
-- at most the product of all, since none is below 1.
use mathlib.Core.Path.{◌≡◌, refl, sym, ap, ◌∙◌}
use mathlib.Core.List.{List, [], ◌∷◌, ◌++◌}
use Prim.Native.Nat.{ℕ, ◌*◌, ◌≤◌}
use native.Mathlib.Omega.{arith}
use lib.IntN.{ℤ, pos, negsuc, nat_abs, ◌*ℤ◌, *ℤ_comm, one, *ℤ-one}
use lib.ListN.{length}
use lib.Signed.{le_z}
use lib.Dec.{T}
use Rattle.numbers.proofs.Integers.{ints, neg_size, le_z_refl, le_z_trans, product_mono, *ℤ_assoc}
use Rattle.meaning.specs.Meaning.{Entry, Kind, sum, product, count, maximum, minimum, members, mixes, multiplied, Each}
use Rattle.meaning.specs.Merge.{turned_by, freed_by, turned, collect}
use Rattle.meaning.proofs.Gather.{each_map}
use Rattle.meaning.proofs.Members.{each, each_both}
use Rattle.meaning.proofs.MergingValue.{merge_product}
use Rattle.kinds.specs.Kinds.{weight_fits}
use Rattle.kinds.proofs.Weights.{fits_weighable, fits_size}
use Rattle.area.specs.Whole.{weights_of}
use Rattle.columns.proofs.MergedSizes.{Positive, collect_positive, multiplied_positive}
use Rattle.entry_words.specs.Inner.Entries.{positive, freed, Joinable}

-- ---- of one weight

turned_by_size : (w l : ℤ) → nat_abs (turned_by w l).weight ≡ nat_abs w
turned_by_size w l = elim l as (λ l. nat_abs (turned_by w l).weight ≡ nat_abs w) [ pos a ↦ refl | negsuc a ↦ neg_size w ]

pub turn_size : (k : Kind) (e : Entry) → nat_abs (positive k e).weight ≡ nat_abs e.weight
turn_size k e = let t = turned_by_size e.weight e.literal in elim k as (λ k. nat_abs (positive k e).weight ≡ nat_abs e.weight) [ sum ↦ t | product ↦ refl | count ↦ t | maximum ↦ refl | minimum ↦ refl ]

freed_by_size : (w l : ℤ) → nat_abs (freed_by w l) ≤ nat_abs w
freed_by_size w l = elim l as (λ l. nat_abs (freed_by w l) ≤ nat_abs w) [ pos a ↦ omega arith | negsuc a ↦ omega arith ]

pub freed_size : (k : Kind) (e : Entry) → nat_abs (freed k e) ≤ nat_abs e.weight
freed_size k e = let f = freed_by_size e.weight e.literal in elim k as (λ k. nat_abs (freed k e) ≤ nat_abs e.weight) [ sum ↦ f | product ↦ omega arith | count ↦ f | maximum ↦ omega arith | minimum ↦ omega arith ]

-- ---- products

natural : (w : ℤ) → T (le_z (pos 1) w) → T (le_z (pos 0) w)
natural w h = omega ints

times_one : (w : ℤ) → w *ℤ pos 1 ≡ w
unfolding one
times_one w = *ℤ-one w

-- a factor of at least 1 takes nothing away
pub factor : (v w : ℤ) → T (le_z (pos 1) v) → T (le_z (pos 1) w) → T (le_z v (v *ℤ w))
factor v w h g = rw (times_one v) at (product_mono v v (pos 1) w (natural v h) tt (le_z_refl v) g)

-- each is at most the product of all
each_factor : (xs : List Entry) → Each Positive xs → Each (λ x. T (le_z x.weight (multiplied (weights_of xs)))) xs
each_factor [] h = tt
each_factor (x ∷ xs) h =
    let m = multiplied (weights_of xs) in
    let o = multiplied_positive xs h.1 in (
      factor x.weight m h.0 o,
      each_map (λ y. T (le_z y.weight m)) (λ y. T (le_z y.weight (x.weight *ℤ m))) xs
          (λ y p. le_z_trans y.weight m (x.weight *ℤ m) p (rw (*ℤ_comm x.weight m) (factor m x.weight o h.0))) (each_factor xs h.1),
    )

pub multiplied_append : (es fs : List Entry) → multiplied (weights_of (es ++ fs)) ≡ multiplied (weights_of es) *ℤ multiplied (weights_of fs)
multiplied_append [] fs = sym (*ℤ_comm (pos 1) (multiplied (weights_of fs)) ∙ times_one (multiplied (weights_of fs)))
multiplied_append (e ∷ es) fs = ap (λ m. e.weight *ℤ m) (multiplied_append es fs) ∙ sym (*ℤ_assoc e.weight (multiplied (weights_of es)) (multiplied (weights_of fs)))

product_joinable : (es : List Entry) (e : Entry) → Each (λ x. T (weight_fits product x.weight)) es → T (weight_fits product e.weight)
    → T (le_z (multiplied (weights_of (es ++ (e ∷ [])))) (pos 1000000000000000000))
    → Each (λ x. Joinable product x.weight e.weight) (collect product [] es)
product_joinable es e h g t =
    let xs = collect product [] es in
    let ones : Each Positive xs = collect_positive es (each_map (λ x. T (weight_fits product x.weight)) Positive es (λ x p. fits_weighable product x.weight p) h) in
    let w = fits_weighable product e.weight g in
    let m = multiplied (weights_of xs) in
    let all : m *ℤ e.weight ≡ multiplied (weights_of (es ++ (e ∷ []))) = ap (λ v. v *ℤ e.weight) (merge_product es)
    ∙ ap (λ v. multiplied (weights_of es) *ℤ v) (sym (times_one e.weight)) ∙ sym (multiplied_append es (e ∷ [])) in
    each_map (λ x. Positive x × T (le_z x.weight m)) (λ x. Joinable product x.weight e.weight) xs (λ x p. (
      p.0,
      w,
      le_z_trans (x.weight *ℤ e.weight) (m *ℤ e.weight) (pos 1000000000000000000)
          (product_mono x.weight m e.weight e.weight (natural x.weight p.0) (natural e.weight w) p.1 (le_z_refl e.weight))
          (rw all t),
    ))
    (each_both Positive (λ x. T (le_z x.weight m)) xs ones (each_factor xs ones))

-- ---- all kinds

sum_joinable : (xs : List Entry) (n : ℕ) (w : ℤ) → n ≤ 4096 → Each (λ x. nat_abs x.weight ≤ 1000000000 * n) xs → nat_abs w ≤ 1000000000
    → Each (λ x. (nat_abs x.weight ≤ 4096000000000) × (nat_abs w ≤ 1000000000)) xs
sum_joinable xs n w f h g =
    each_map (λ x. nat_abs x.weight ≤ 1000000000 * n) (λ x. (nat_abs x.weight ≤ 4096000000000) × (nat_abs w ≤ 1000000000)) xs (λ x p. (omega arith, g)) h

pub all_joinable : (k : Kind) (es : List Entry) (e : Entry) (xs : List Entry) → xs ≡ collect k [] (turned k (members k es)) → length es ≤ 4096
    → (T (mixes k) → Each (λ x. nat_abs x.weight ≤ 1000000000 * length es) xs)
    → Each (λ x. T (weight_fits k x.weight)) es → T (weight_fits k e.weight)
    → (k ≡ product → T (le_z (multiplied (weights_of (es ++ (e ∷ [])))) (pos 1000000000000000000)))
    → Each (λ x. Joinable k x.weight (positive k e).weight) xs
all_joinable sum es e xs is f small h g t = sum_joinable xs (length es) (positive sum e).weight f (small tt) (omega (arith, turn_size sum e, fits_size sum e.weight g))
all_joinable product es e xs is f small h g t = rw is (product_joinable es e h g (t refl))
all_joinable count es e xs is f small h g t = sum_joinable xs (length es) (positive count e).weight f (small tt) (omega (arith, turn_size count e, fits_size count e.weight g))
all_joinable maximum es e xs is f small h g t = each (λ x. Unit {0}) (λ x. tt) xs
all_joinable minimum es e xs is f small h g t = each (λ x. Unit {0}) (λ x. tt) xs
