-- What the atom of every written entry has, the atom of every merged entry has: members, turned entries and joined entries have atoms of
-- entries that were there.
use mathlib.Core.Path.{◌≡◌}
use mathlib.Core.Bool.{Bool, true, false, cond}
use mathlib.Core.List.{List, [], ◌∷◌}
use Prim.Native.Nat.{ℕ}
use lib.IntN.{ℤ, pos, negsuc}
use lib.Signed.{le_z}
use lib.Dec.{T}
use Rattle.numbers.proofs.Integers.{ints}
use Rattle.meaning.specs.Meaning.{atom, Entry, entry_atom, Kind, sum, product, count, maximum, minimum, same, without, once, ones, members, Each}
use Rattle.meaning.specs.Merge.{turned_by, turned_all, turned, joined, put, collect, nonzero, kept, merge, entry_atoms}

-- ---- the test for one literal, and the entry that joins two of one

pub same→eq : (l m : ℤ) → T (same l m) → l ≡ m
same→eq l m = elim (le_z l m) as (λ b. (T b → T (le_z l m)) → T (cond b (le_z m l) false) → l ≡ m)
    [ true ↦ λ h t. let a : T (le_z l m) = h tt in omega ints | false ↦ λ h t. absurd t ] (λ h. h)

pub eq→same : (l m : ℤ) → l ≡ m → T (same l m)
eq→same l m e = elim (le_z l m) as (λ b. T b → T (le_z m l) → T (cond b (le_z m l) false)) [ true ↦ λ t u. u | false ↦ λ t u. t ] (omega ints) (omega ints)

abbrev pub join : Kind → Entry → Entry → Entry
join k x e = record { weight = joined k x.weight e.weight; literal = x.literal }

-- ---- each

module _ {A : Type 0} (P : A → Type 0) where
  pub each : ((x : A) → P x) → (xs : List A) → Each P xs
  each f [] = tt
  each f (x ∷ xs) = (f x, each f xs)

  pub each_both : (Q : A → Type 0) (xs : List A) → Each P xs → Each Q xs → Each (λ x. P x × Q x) xs
  each_both Q [] p q = tt
  each_both Q (x ∷ xs) p q = ((p.0, q.0), each_both Q xs p.1 q.1)

  -- where a test drops or keeps the head
  each_cond : (b : Bool) (x : A) (xs : List A) → P x → Each P xs → Each P (cond b xs (x ∷ xs))
  each_cond b x xs p ps = elim b as (λ b. Each P (cond b xs (x ∷ xs))) [ true ↦ ps | false ↦ (p, ps) ]

-- ---- steps of the merge that drop entries, and the one that joins two

module _ (P : Entry → Type 0) where
  without_each : (l : ℤ) (es : List Entry) → Each P es → Each P (without l es)
  without_each l [] h = tt
  without_each l (e ∷ es) h = each_cond P (same l e.literal) e (without l es) h.0 (without_each l es h.1)

  pub once_each : (es : List Entry) → Each P es → Each P (once es)
  once_each [] h = tt
  once_each (e ∷ es) h = (h.0, without_each e.literal (once es) (once_each es h.1))

  pub nonzero_each : (es : List Entry) → Each P es → Each P (nonzero es)
  unfolding nonzero
  nonzero_each [] h = tt
  nonzero_each (e ∷ es) h = each_cond P (same e.weight (pos 0)) e (nonzero es) h.0 (nonzero_each es h.1)

  kept_each : (k : Kind) (es : List Entry) → Each P es → Each P (kept k es)
  kept_each k es h = elim k as (λ k. Each P (kept k es)) [ sum ↦ nonzero_each es h | product ↦ h | count ↦ nonzero_each es h | maximum ↦ h | minimum ↦ h ]

  module _ (k : Kind) (joins : (x e : Entry) → P x → P e → P (join k x e)) where
    pub put_each : (xs : List Entry) (e : Entry) → Each P xs → P e → Each P (put k xs e)
    unfolding put
    put_each [] e h p = (p, tt)
    put_each (x ∷ xs) e h p = elim (same x.literal e.literal) as (λ b. Each P (cond b (join k x e ∷ xs) (x ∷ put k xs e)))
        [ true ↦ (joins x e h.0 p, h.1) | false ↦ (h.0, put_each xs e h.1 p) ]

    pub collect_each : (xs es : List Entry) → Each P xs → Each P es → Each P (collect k xs es)
    unfolding collect
    collect_each xs [] h p = h
    collect_each xs (e ∷ es) h p = collect_each (put k xs e) es (put_each xs e h p.0) p.1

-- ---- members

module _ (P : ℤ → Type 0) where
  ones_each : (es : List Entry) → Each (λ e. P e.literal) es → Each (λ e. P e.literal) (ones es)
  ones_each [] h = tt
  ones_each (e ∷ es) h = (h.0, ones_each es h.1)

  -- what the literal of every written entry has, the literal of every member has
  pub members_each : (k : Kind) (es : List Entry) → Each (λ e. P e.literal) es → Each (λ e. P e.literal) (members k es)
  members_each k es h = elim k as (λ k. Each (λ e. P e.literal) (members k es)) [ sum ↦ h | product ↦ h | count ↦ once_each (λ e. P e.literal) (ones es) (ones_each es h) | maximum ↦ h | minimum ↦ h ]

-- ---- the merge

module _ (P : ℕ → Type 0) where
  turned_by_has : (w l : ℤ) → P (atom l) → P (entry_atom (turned_by w l))
  turned_by_has w l = elim l as (λ l. P (atom l) → P (entry_atom (turned_by w l))) [ pos a ↦ λ p. p | negsuc a ↦ λ p. p ]

  turned_all_each : (es : List Entry) → Each (λ e. P (entry_atom e)) es → Each (λ e. P (entry_atom e)) (turned_all es)
  unfolding turned_all
  turned_all_each [] h = tt
  turned_all_each (e ∷ es) h = (turned_by_has e.weight e.literal h.0, turned_all_each es h.1)

  turned_each : (k : Kind) (es : List Entry) → Each (λ e. P (entry_atom e)) es → Each (λ e. P (entry_atom e)) (turned k es)
  turned_each k es h = elim k as (λ k. Each (λ e. P (entry_atom e)) (turned k es)) [ sum ↦ turned_all_each es h | product ↦ h | count ↦ turned_all_each es h | maximum ↦ h | minimum ↦ h ]

  pub merge_each : (k : Kind) (es : List Entry) → Each (λ e. P (entry_atom e)) es → Each (λ e. P (entry_atom e)) (merge k es).entries
  merge_each k es h = kept_each (λ e. P (entry_atom e)) k (collect k [] (turned k (members k es)))
      (collect_each (λ e. P (entry_atom e)) k (λ x e p q. p) [] (turned k (members k es)) tt
      (turned_each k (members k es) (members_each (λ l. P (atom l)) k es h)))

  pub places_each : (es : List Entry) → Each (λ e. P (entry_atom e)) es → Each P (entry_atoms es)
  places_each [] h = tt
  places_each (e ∷ es) h = (h.0, places_each es h.1)

  pub merge_places : (k : Kind) (es : List Entry) → Each (λ e. P (entry_atom e)) es → Each P (entry_atoms (merge k es).entries)
  merge_places k es h = places_each (merge k es).entries (merge_each k es h)
