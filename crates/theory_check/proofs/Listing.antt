-- The entries of a sentence by number: the list read off its words is the list of the entries 0 to k-1, so that what holds of the list
-- holds of each number and back.
use mathlib.Core.Path.{◌≡◌, refl, sym, ap, ap₂, ◌∙◌}
use mathlib.Core.List.{List, [], ◌∷◌}
use Prim.Native.Nat.{ℕ, zero, suc, ◌+◌, ◌*◌, ◌<◌, ◌≤◌}
use native.Mathlib.Omega.{arith}
use lib.ListN.{length, get_or}
use lib.Seq.{slice, slice_empty, slice-cons}
use lib.IntN.{ℤ, pos, ◌*ℤ◌}
use Rattle.decide.specs.Below.{product_below}
use Rattle.decide.proofs.Below.{product_front}
use Rattle.meaning.specs.Meaning.{Entry, entry_atom, Each, multiplied}
use Rattle.meaning.specs.Merge.{entry_atoms}
use Rattle.area.specs.Layout.{word, entry_of, entries_of, entry_words}
use Rattle.area.specs.Whole.{DistinctAtoms, weights_of}
use Rattle.entries_check.specs.Inner.Entries.{stored_entry}

-- f 0, .., f (k - 1)
abbrev pub listed : ℕ → (ℕ → Entry) → List Entry
listed zero f = []
listed (suc k) f = f 0 ∷ listed k (λ i. f (suc i))

listed_same : (k : ℕ) (f g : ℕ → Entry) → ((i : ℕ) → f i ≡ g i) → listed k f ≡ listed k g
listed_same zero f g h = refl
listed_same (suc k) f g h = ap₂ {A = Entry} {B = List Entry} (λ e es. e ∷ es) (h 0) (listed_same k (λ i. f (suc i)) (λ i. g (suc i)) (λ i. h (suc i)))

moved : (w : List ℕ) (i j k l : ℕ) → i ≡ k → j ≡ l → entry_of (word w i) (word w j) ≡ entry_of (word w k) (word w l)
moved w i j k l p q = ap₂ {A = ℕ} {B = ℕ} (λ a b. entry_of (word w a) (word w b)) p q

pub entries_listed : (w : List ℕ) (at k : ℕ) → at + 2 * k ≤ length w → entries_of (entry_words w at k) ≡ listed k (stored_entry w at)
unfolding entries_of
entries_listed w at zero h = let e : at + 2 * 0 ≡ at = omega arith in
    ap {A = ℕ} (λ n. entries_of (slice at n w)) e ∙ ap {A = List ℕ} entries_of (slice_empty at w)
entries_listed w at (suc k) h = let e : slice at (at + 2 * suc k) w ≡ word w at ∷ word w (suc at) ∷ slice (suc (suc at)) (at + 2 * suc k) w =
    slice-cons at (at + 2 * suc k) w 0 (omega arith) h
    ∙ ap {A = List ℕ} (λ l. word w at ∷ l) (slice-cons (suc at) (at + 2 * suc k) w 0 (omega arith) h) in
    let q : at + 2 * suc k ≡ suc (suc at) + 2 * k = omega arith in
    let rest : entries_of (slice (suc (suc at)) (at + 2 * suc k) w) ≡ listed k (λ i. stored_entry w at (suc i)) =
    ap {A = ℕ} (λ n. entries_of (slice (suc (suc at)) n w)) q ∙ entries_listed w (suc (suc at)) k (omega arith)
    ∙ listed_same k (stored_entry w (suc (suc at))) (λ i. stored_entry w at (suc i))
    (λ i. moved w (suc (suc at) + 2 * i) (suc (suc at) + 2 * i + 1) (at + 2 * suc i) (at + 2 * suc i + 1) (omega arith) (omega arith)) in
    ap {A = List ℕ} entries_of e
    ∙ ap₂ {A = Entry} {B = List Entry} (λ a es. a ∷ es) (moved w at (suc at) (at + 2 * 0) (at + 2 * 0 + 1) (omega arith) (omega arith)) rest

listed_length : (k : ℕ) (f : ℕ → Entry) → length (listed k f) ≡ k
listed_length zero f = refl
listed_length (suc k) f = ap {A = ℕ} suc (listed_length k (λ i. f (suc i)))

listed_is : (k : ℕ) (f : ℕ → Entry) (i : ℕ) (d : Entry) → i < k → get_or (listed k f) i d ≡ f i
listed_is zero f i d h = let b : ⊥ = omega arith in absurd b
listed_is (suc k) f zero d h = refl
listed_is (suc k) f (suc i) d h = listed_is k (λ j. f (suc j)) i d (omega arith)

pub entries_length : (w : List ℕ) (at k : ℕ) → at + 2 * k ≤ length w → length (entries_of (entry_words w at k)) ≡ k
entries_length w at k h = ap {A = List Entry} length (entries_listed w at k h) ∙ listed_length k (stored_entry w at)

-- entry i of the list is that of words at + 2i and at + 2i + 1, whatever stands for an entry past the end
pub entry_is : (w : List ℕ) (at k i : ℕ) (d : Entry) → at + 2 * k ≤ length w → i < k → get_or (entries_of (entry_words w at k)) i d ≡ stored_entry w at i
entry_is w at k i d h l = ap {A = List Entry} (λ es. get_or es i d) (entries_listed w at k h) ∙ listed_is k (stored_entry w at) i d l

-- ---- what holds of each

module _ (P : Entry → Type 0) where
  pub each_by : (k : ℕ) (f : ℕ → Entry) → Each P (listed k f) → (i : ℕ) → i < k → P (f i)
  each_by zero f e i l = let b : ⊥ = omega arith in absurd b
  each_by (suc k) f e zero l = e.0
  each_by (suc k) f e (suc i) l = each_by k (λ j. f (suc j)) e.1 i (omega arith)

  pub by_each : (k : ℕ) (f : ℕ → Entry) → ((i : ℕ) → i < k → P (f i)) → Each P (listed k f)
  by_each zero f h = tt
  by_each (suc k) f h = (h 0 (omega arith), by_each k (λ j. f (suc j)) (λ i l. h (suc i) (omega arith)))

-- no two numbers have one atom
abbrev pub Apart : ℕ → (ℕ → Entry) → Type 0
Apart k f = (i j : ℕ) → i < k → j < k → entry_atom (f i) ≡ entry_atom (f j) → i ≡ j

pub once_by : (k : ℕ) (f : ℕ → Entry) → DistinctAtoms (listed k f) → Apart k f
once_by zero f o i j l m e = let b : ⊥ = omega arith in absurd b
once_by (suc k) f o zero zero l m e = refl
once_by (suc k) f o zero (suc j) l m e = absurd (each_by (λ x. ¬ (entry_atom x ≡ entry_atom (f 0))) k (λ i. f (suc i)) o.0 j (omega arith) (sym e))
once_by (suc k) f o (suc i) zero l m e = absurd (each_by (λ x. ¬ (entry_atom x ≡ entry_atom (f 0))) k (λ i. f (suc i)) o.0 i (omega arith) e)
once_by (suc k) f o (suc i) (suc j) l m e = ap {A = ℕ} suc (once_by k (λ i. f (suc i)) o.1 i j (omega arith) (omega arith) e)

pub by_once : (k : ℕ) (f : ℕ → Entry) → Apart k f → DistinctAtoms (listed k f)
by_once zero f h = tt
by_once (suc k) f h = (
  by_each (λ x. ¬ (entry_atom x ≡ entry_atom (f 0))) k (λ i. f (suc i)) (λ i l e. let n = h (suc i) 0 (omega arith) (omega arith) e in omega arith),
  by_once k (λ i. f (suc i)) (λ i j l m e. let n = h (suc i) (suc j) (omega arith) (omega arith) e in omega arith),
)

-- ---- the product of all weights

pub multiplied_listed : (k : ℕ) (f : ℕ → Entry) (g : ℕ → ℕ) → ((i : ℕ) → i < k → (f i).weight ≡ pos (g i))
    → multiplied (weights_of (listed k f)) ≡ pos (product_below k g)
unfolding product_below
multiplied_listed zero f g h = refl
multiplied_listed (suc k) f g h =
    ap₂ {A = ℤ} {B = ℤ} (λ a b. a *ℤ b) (h 0 (omega arith)) (multiplied_listed k (λ i. f (suc i)) (λ i. g (suc i)) (λ i l. h (suc i) (omega arith)))
    ∙ ap {A = ℕ} pos (sym (product_front k g))

-- ---- the atoms

pub places_in : (k : ℕ) (f : ℕ → Entry) (i : ℕ) → i < k → get_or (entry_atoms (listed k f)) i 0 ≡ entry_atom (f i)
places_in zero f i h = let b : ⊥ = omega arith in absurd b
places_in (suc k) f zero h = refl
places_in (suc k) f (suc i) h = places_in k (λ j. f (suc j)) i (omega arith)

pub places_past : (k : ℕ) (f : ℕ → Entry) (i : ℕ) → k ≤ i → get_or (entry_atoms (listed k f)) i 0 ≡ 0
places_past zero f i h = refl
places_past (suc k) f zero h = let b : ⊥ = omega arith in absurd b
places_past (suc k) f (suc i) h = places_past k (λ j. f (suc j)) i (omega arith)
