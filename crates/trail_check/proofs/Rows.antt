-- The rows of a work area: what holds of each place holds of each row and back, and an atom that stands once is
-- at one place. Rows stand newest first, so that the rows before a row are those behind it.
use mathlib.Core.Path.{◌≡◌, refl, sym, ◌∙◌, ap, ap₂, subst}
use mathlib.Core.Logic.{⊎_elim}
use mathlib.Core.List.{List, ◌∷◌}
use Prim.Native.Nat.{ℕ, zero, suc, ◌-◌, ◌/◌, ◌%◌, ◌<◌, ◌≤◌}
use native.Mathlib.Omega.{arith}
use native.Mathlib.Nat.{eq-or-lt_of_le}
use lib.ListN.{length}
use Rattle.numbers.specs.Words.{literal_of}
use Rattle.numbers.proofs.Words.{cases}
use Rattle.meaning.specs.Meaning.{atom, Each}
pub use Rattle.meaning.proofs.Trails.{atom_half as atom_of}
use Rattle.book.specs.Rows.{Row, a_row}
use Rattle.area.specs.Layout.{literal_at, cause_at, row_at, rows_from}
use Rattle.area.specs.Whole.{AtomsOnce}

pub rows_length : (w : List ℕ) (n k : ℕ) → length (rows_from w n k) ≡ k
unfolding rows_from
rows_length w n zero = refl
rows_length w n (suc k) = ap suc (rows_length w n k)

pub rows_last : (w : List ℕ) (n k : ℕ) → 0 < k → rows_from w n k ≡ row_at w n (k - 1) ∷ rows_from w n (k - 1)
unfolding rows_from
rows_last w n zero h = let b : ⊥ = omega arith in absurd b
rows_last w n (suc k) h = let e : k ≡ suc k - 1 = omega arith in ap (λ j. row_at w n j ∷ rows_from w n j) e

-- rows are made of their words alone
pub rows_kept : (w w' : List ℕ) (n k : ℕ) → ((i : ℕ) → i < k → literal_at w' n i ≡ literal_at w n i) → ((i : ℕ) → i < k → cause_at w' n i ≡ cause_at w n i)
    → rows_from w' n k ≡ rows_from w n k
unfolding rows_from
rows_kept w w' n zero l m = refl
rows_kept w w' n (suc k) l m = ap₂ {A = Row} {B = List Row} ◌∷◌
    (ap₂ {A = ℕ} {B = ℕ} (λ x y. a_row (literal_of x) (y % 65536) (y / 65536 % 65536)) (l k (omega arith)) (m k (omega arith)))
    (rows_kept w w' n k (λ i h. l i (omega arith)) (λ i h. m i (omega arith)))

module _ (P : Row → Type 0) (w : List ℕ) (n : ℕ) where
  pub each_row : (k : ℕ) → ((i : ℕ) → i < k → P (row_at w n i)) → Each P (rows_from w n k)
  unfolding rows_from
  each_row zero h = tt
  each_row (suc k) h = (h k (omega arith), each_row k (λ i l. h i (omega arith)))

  pub row_of_each : (k i : ℕ) → i < k → Each P (rows_from w n k) → P (row_at w n i)
  unfolding rows_from
  row_of_each zero i l h = let b : ⊥ = omega arith in absurd b
  row_of_each (suc k) i l h = ⊎_elim {A = i ≡ k} {B = i < k}
      (λ (e : i ≡ k). subst (λ j. P (row_at w n j)) (sym e) h.0)
      (λ (q : i < k). row_of_each k i q h.1) (eq-or-lt_of_le (omega arith))

-- ---- atoms

module _ (w : List ℕ) (n : ℕ) where
  -- the rows up to place i
  up_to_place : (k i : ℕ) → i < k → AtomsOnce n (rows_from w n k) → AtomsOnce n (rows_from w n (suc i))
  unfolding rows_from
  up_to_place zero i l h = let b : ⊥ = omega arith in absurd b
  up_to_place (suc k) i l h = ⊎_elim {A = i ≡ k} {B = i < k}
      (λ (e : i ≡ k). subst (λ j. AtomsOnce n (rows_from w n (suc j))) (sym e) h)
      (λ (q : i < k). up_to_place k i q h.1) (eq-or-lt_of_le (omega arith))

  pub atom_low : (k i : ℕ) → i < k → AtomsOnce n (rows_from w n k) → 1 ≤ literal_at w n i / 2
  unfolding rows_from
  atom_low k i l h = let q = (up_to_place k i l h).0.0 in omega (arith, q, atom_of (literal_at w n i))

  pub atom_high : (k i : ℕ) → i < k → AtomsOnce n (rows_from w n k) → literal_at w n i / 2 ≤ n
  unfolding rows_from
  atom_high k i l h = let q = (up_to_place k i l h).0.1 in omega (arith, q, atom_of (literal_at w n i))

  earlier_other : (k i j : ℕ) → i < j → j < k → AtomsOnce n (rows_from w n k) → ¬ (literal_at w n i / 2 ≡ literal_at w n j / 2)
  unfolding rows_from
  earlier_other k i j l m h e = row_of_each (λ x. ¬ (atom x.literal ≡ atom (row_at w n j).literal)) w n j i l (up_to_place k j m h).0.2
      (atom_of (literal_at w n i) ∙ e ∙ sym (atom_of (literal_at w n j)))

  -- an atom stands at one place
  pub place_unique : (k i j : ℕ) → i < k → j < k → AtomsOnce n (rows_from w n k) → literal_at w n i / 2 ≡ literal_at w n j / 2 → i ≡ j
  place_unique k i j l m h e = ⊎_elim
      (λ (q : j ≤ i). ⊎_elim
      (λ (p : i ≤ j). omega arith)
      (λ (p : j < i). absurd (earlier_other k j i p l h (sym e))) (cases j i))
      (λ (q : i < j). absurd (earlier_other k i j q m h e)) (cases i j)

  -- places whose atoms differ have rows whose atoms differ
  pub atoms_once : (k : ℕ) → ((i : ℕ) → i < k → 1 ≤ literal_at w n i / 2) → ((i : ℕ) → i < k → literal_at w n i / 2 ≤ n)
      → ((i j : ℕ) → i < k → j < k → literal_at w n i / 2 ≡ literal_at w n j / 2 → i ≡ j) → AtomsOnce n (rows_from w n k)
  unfolding rows_from
  atoms_once zero low high once = tt
  atoms_once (suc k) low high once = (
    (
      omega (arith, low k (omega arith), atom_of (literal_at w n k)),
      omega (arith, high k (omega arith), atom_of (literal_at w n k)),
      each_row (λ x. ¬ (atom x.literal ≡ atom (row_at w n k).literal)) w n k other,
    ),
    atoms_once k (λ i l. low i (omega arith)) (λ i l. high i (omega arith)) (λ i j l m. once i j (omega arith) (omega arith)),
  )
    where
      other : (i : ℕ) → i < k → ¬ (atom (row_at w n i).literal ≡ atom (row_at w n k).literal)
      other i l e = let q : i ≡ k = once i k (omega arith) (omega arith) (sym (atom_of (literal_at w n i)) ∙ e ∙ atom_of (literal_at w n k)) in
          let b : ⊥ = omega arith in absurd b
