-- How large merged weights and constants get. Adding one entry to another adds at most its own size, so that a merged sum's weights and
-- constant are at most the greatest size times the written entries; a factor of a product is at most the product; max and min keep one of
-- the written weights.
use mathlib.Core.Path.{◌≡◌}
use mathlib.Core.Bool.{Bool, true, false, cond}
use mathlib.Core.List.{List, [], ◌∷◌}
use Prim.Native.Nat.{ℕ, suc, ◌+◌, ◌*◌, ◌≤◌}
use native.Mathlib.Omega.{arith}
use native.Mathlib.Nat.{le-mul_of_pos_right, mul_comm}
use lib.IntN.{ℤ, pos, negsuc, nat_abs, ◌+ℤ◌, ◌*ℤ◌}
use lib.ListN.{length}
use lib.Dec.{T, leb→le, le→leb}
use lib.Signed.{le_z}
use Rattle.numbers.proofs.Integers.{sum_size, neg_size, product_mono}
use Rattle.meaning.specs.Meaning.{Entry, Kind, product, maximum, minimum, same, once, ones, multiplied, Each}
use Rattle.meaning.specs.Merge.{turned_by, freed_by, turned_all, freed_all, joined, put, collect, nonzero}
use Rattle.meaning.proofs.Gather.{each_map}
use Rattle.meaning.proofs.Members.{eq→same, join, once_each, collect_each}
use Rattle.area.specs.Whole.{weights_of}

abbrev pub Small : ℕ → Entry → Type 0
Small m e = nat_abs e.weight ≤ m

-- ---- sums and counts

abbrev pub Adds : Kind → Type 0
Adds k = (v w : ℤ) → joined k v w ≡ v +ℤ w

module _ (k : Kind) (adds : Adds k) where
  join_size : (m d : ℕ) (x e : Entry) → Small m x → Small d e → Small (m + d) (join k x e)
  join_size m d x e p q = rw (adds x.weight e.weight) (omega (arith, sum_size x.weight e.weight))

  pub put_size : (m d : ℕ) (xs : List Entry) (e : Entry) → Each (Small m) xs → Small d e → Each (Small (m + d)) (put k xs e)
  unfolding put
  put_size m d [] e h p = (omega arith, tt)
  put_size m d (x ∷ xs) e h p =
      let q : nat_abs x.weight ≤ m = h.0 in
      elim (same x.literal e.literal) as (λ b. Each (Small (m + d)) (cond b (join k x e ∷ xs) (x ∷ put k xs e))) [
        | true ↦ (join_size m d x e q p, each_map (Small m) (Small (m + d)) xs (λ y q. omega arith) h.1)
        | false ↦ (omega arith, put_size m d xs e h.1 p)
      ]

  turned_by_size : (d : ℕ) (w l : ℤ) → nat_abs w ≤ d → Small d (turned_by w l)
  turned_by_size d w (pos a) h = h
  turned_by_size d w (negsuc a) h = omega (arith, neg_size w)

  -- each of the entries adds at most d
  pub collect_size : (m d : ℕ) (xs es : List Entry) → Each (Small m) xs → Each (Small d) es → Each (Small (m + d * length es)) (collect k xs (turned_all es))
  unfolding collect turned_all
  collect_size m d xs [] h p = each_map (Small m) (Small (m + d * 0)) xs (λ y q. omega arith) h
  collect_size m d xs (e ∷ es) h p =
      let t = turned_by e.weight e.literal in
      each_map (Small (m + d + d * length es)) (Small (m + d * suc (length es))) (collect k (put k xs t) (turned_all es)) (λ y q. omega arith)
      (collect_size (m + d) d (put k xs t) es (put_size m d xs t h (turned_by_size d e.weight e.literal p.0)) p.1)

freed_by_size : (d : ℕ) (w l : ℤ) → nat_abs w ≤ d → nat_abs (freed_by w l) ≤ d
freed_by_size d w (pos a) h = omega arith
freed_by_size d w (negsuc a) h = h

pub freed_size : (d : ℕ) (es : List Entry) → Each (Small d) es → nat_abs (freed_all es) ≤ d * length es
unfolding freed_all
freed_size d [] h = omega arith
freed_size d (e ∷ es) h =
    omega (arith, sum_size (freed_by e.weight e.literal) (freed_all es), freed_by_size d e.weight e.literal h.0, freed_size d es h.1)

pub once_size : (d : ℕ) (es : List Entry) → 1 ≤ d → Each (Small d) (once (ones es))
once_size d es l = once_each (Small d) (ones es) (elim es as (λ es. Each (Small d) (ones es)) [ [] ↦ tt | ◌∷◌ e (es → h) ↦ (omega arith, h) ])

pub nonzero_weights : (es : List Entry) → Each (λ e. ¬ (e.weight ≡ pos 0)) (nonzero es)
unfolding nonzero
nonzero_weights [] = tt
nonzero_weights (e ∷ es) =
    elim (same e.weight (pos 0)) as (λ b. (e.weight ≡ pos 0 → T b) → Each (λ e. ¬ (e.weight ≡ pos 0)) (cond b (nonzero es) (e ∷ nonzero es)))
    [ true ↦ λ f. nonzero_weights es | false ↦ λ f. (f, nonzero_weights es) ] (eq→same e.weight (pos 0))

-- ---- products

abbrev pub Positive : Entry → Type 0
Positive e = T (le_z (pos 1) e.weight)

pub product_positive : (v w : ℤ) → T (le_z (pos 1) v) → T (le_z (pos 1) w) → T (le_z (pos 1) (v *ℤ w))
product_positive v w p q = product_mono (pos 1) v (pos 1) w tt tt p q

pub collect_positive : (es : List Entry) → Each Positive es → Each Positive (collect product [] es)
collect_positive es h = collect_each Positive product (λ x e p q. product_positive x.weight e.weight p q) [] es tt h

pub multiplied_positive : (es : List Entry) → Each Positive es → T (le_z (pos 1) (multiplied (weights_of es)))
multiplied_positive [] h = tt
multiplied_positive (e ∷ es) h = product_positive e.weight (multiplied (weights_of es)) h.0 (multiplied_positive es h.1)

-- a product of two is at least each of them
factors : (v w : ℤ) (m : ℕ) → T (le_z (pos 1) v) → T (le_z (pos 1) w) → T (le_z (v *ℤ w) (pos m)) → (nat_abs v ≤ m) × T (le_z w (pos m))
factors (pos a) (pos b) m p q t =
    let l : a * b ≤ m = leb→le (a * b) m t in
    let x : 1 ≤ a = leb→le 1 a p in
    let y : 1 ≤ b = leb→le 1 b q in
    (omega (arith, le-mul_of_pos_right a y), le→leb b m (omega (arith, le-mul_of_pos_right b x, mul_comm a b)))
factors (pos a) (negsuc b) m p q t = absurd q
factors (negsuc a) w m p q t = absurd p

pub factor_size : (m : ℕ) (es : List Entry) → Each Positive es → T (le_z (multiplied (weights_of es)) (pos m)) → Each (Small m) es
factor_size m [] h t = tt
factor_size m (e ∷ es) h t =
    let f = factors e.weight (multiplied (weights_of es)) m h.0 (multiplied_positive es h.1) t in
    (f.0, factor_size m es h.1 f.1)

-- ---- max and min

abbrev pub Keeps : Kind → Type 0
Keeps k = (m : ℕ) (v w : ℤ) → nat_abs v ≤ m → nat_abs w ≤ m → nat_abs (joined k v w) ≤ m

kept_one : (b : Bool) (m : ℕ) (v w : ℤ) → nat_abs v ≤ m → nat_abs w ≤ m → nat_abs (cond b v w) ≤ m
kept_one b m v w p q = elim b as (λ b. nat_abs (cond b v w) ≤ m) [ true ↦ p | false ↦ q ]

pub maximum_keeps : Keeps maximum
maximum_keeps m v w p q = kept_one (le_z v w) m w v q p

pub minimum_keeps : Keeps minimum
minimum_keeps m v w p q = kept_one (le_z v w) m v w p q

pub collect_kept : (k : Kind) → Keeps k → (m : ℕ) (es : List Entry) → Each (Small m) es → Each (Small m) (collect k [] es)
collect_kept k keeps m es h = collect_each (Small m) k (λ x e p q. keeps m x.weight e.weight p q) [] es tt h
