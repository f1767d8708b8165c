-- The clauses tested index by index hold exactly where the trail's words are those of its rows: a value word that is not 0 and a place
-- of the trail that name each other leave no room for a second place of the atom.
use mathlib.Core.Path.{◌≡◌, refl, sym, ◌∙◌, ap}
use mathlib.Core.Logic.{⊎_elim}
use mathlib.Core.List.{List}
use Prim.Native.Nat.{ℕ, ◌+◌, ◌-◌, ◌*◌, ◌/◌, ◌%◌, ◌<◌, ◌≤◌}
use native.Mathlib.Omega.{arith}
use Rattle.numbers.proofs.Words.{cases}
use Rattle.area.specs.Layout.{word, value_at, literal_at, rows_from, value_word}
use Rattle.area.specs.Whole.{AtomsOnce, Rising}
use Rattle.area.proofs.Words.{blank_from}
use Rattle.trail_check.specs.Trail.{TrailOk}
use Rattle.trail_check.specs.Inner.Places.{ValueOk, RowOk}
use Rattle.trail_check.proofs.Rows.{atom_low, atom_high, place_unique, atoms_once}
use Rattle.trail_check.proofs.Values.{Found, here, nowhere, found}

module _ (w : List ℕ) (n len : ℕ) (places : (i : ℕ) → i < len → RowOk w n i) where
  -- two places of one atom would both be where its value word points
  places_differ : (i j : ℕ) → i < len → j < len → literal_at w n i / 2 ≡ literal_at w n j / 2 → i ≡ j
  places_differ i j l m e = let p = (places i l).value in let q = (places j m).value in omega (arith, p, q, ap {A = ℕ} (value_at w n) e)

  once_by_places : AtomsOnce n (rows_from w n len)
  once_by_places = atoms_once w n len (λ i l. (places i l).low) (λ i l. (places i l).high) places_differ

  values_by_places : ((a : ℕ) → 1 ≤ a → a ≤ n → ValueOk w n len a) → (a : ℕ) → 1 ≤ a → a ≤ n → value_at w n a ≡ value_word (rows_from w n len) a
  values_by_places values a low high = go (found w n a low len)
    where
      go : Found w n len a → value_at w n a ≡ value_word (rows_from w n len) a
      go (here i l e v) = ap {A = ℕ} (value_at w n) (sym e) ∙ (places i l).value ∙ sym v
      go (nowhere off v) = ⊎_elim
          (λ (p : value_at w n a ≤ 0). omega arith)
          (λ (p : 0 < value_at w n a). let q = (values a low high).same p in
          absurd (off ((value_at w n a - 1) / 2) ((values a low high).within p) (omega arith)))
          (cases 0 (value_at w n a))

-- the trail's words, as they are tested
pub record Tested (w : List ℕ) (n len level : ℕ) : Type 0 where
  pub front : (i : ℕ) → 1 ≤ i → i < n → word w i ≡ 0
  pub values : (a : ℕ) → 1 ≤ a → a ≤ n → ValueOk w n len a
  pub places : (i : ℕ) → i < len → RowOk w n i
  pub rising : Rising level (rows_from w n len)
  pub literals : (i : ℕ) → 2 * n + len ≤ i → i < 3 * n → word w i ≡ 0
  pub marks : (i : ℕ) → 3 * n + len ≤ i → i < 4 * n → word w i ≡ 0

pub by_tests : (w : List ℕ) (n len level : ℕ) → Tested w n len level → TrailOk w n len level
by_tests w n len level t = record {
  atoms = once_by_places w n len t.places;
  values = values_by_places w n len t.places t.values;
  rising = t.rising;
  front = t.front;
  literals = λ i l m. t.literals (2 * n + i) (omega arith) (omega arith);
  marks = λ i l m. t.marks (3 * n + i) (omega arith) (omega arith);
}

module _ (w : List ℕ) (n len level : ℕ) (ok : TrailOk w n len level) where
  place_of_ok : (i : ℕ) → i < len → RowOk w n i
  place_of_ok i l = record { low = low; high = high; value = ok.values (literal_at w n i / 2) low high ∙ go (found w n (literal_at w n i / 2) low len) }
    where
      low : 1 ≤ literal_at w n i / 2
      low = atom_low w n len i l ok.atoms

      high : literal_at w n i / 2 ≤ n
      high = atom_high w n len i l ok.atoms

      go : Found w n len (literal_at w n i / 2) → value_word (rows_from w n len) (literal_at w n i / 2) ≡ 1 + 2 * i + literal_at w n i % 2
      go (here j m e v) = v ∙ ap {A = ℕ} (λ k. 1 + 2 * k + literal_at w n k % 2) (place_unique w n len j i m l ok.atoms e)
      go (nowhere off v) = absurd (off i l refl)

  value_of_ok : (a : ℕ) → 1 ≤ a → a ≤ n → ValueOk w n len a
  value_of_ok a low high = go (found w n a low len)
    where
      go : Found w n len a → ValueOk w n len a
      go (here j m e v) = let x : value_at w n a ≡ 1 + 2 * j + literal_at w n j % 2 = ok.values a low high ∙ v in
          let q : (value_at w n a - 1) / 2 ≡ j = omega arith in
          record { within = λ _. omega arith; same = λ _. ap {A = ℕ} (literal_at w n) q ∙ omega arith }
      go (nowhere off v) = let x : value_at w n a ≡ 0 = ok.values a low high ∙ v in omega arith

  literals_of_ok : (j : ℕ) → 2 * n + len ≤ j → j < 3 * n → word w j ≡ 0
  literals_of_ok j l m = blank_from w (2 * n) len n ok.literals j l (omega arith)

  marks_of_ok : (j : ℕ) → 3 * n + len ≤ j → j < 4 * n → word w j ≡ 0
  marks_of_ok j l m = blank_from w (3 * n) len n ok.marks j l (omega arith)

pub to_tests : (w : List ℕ) (n len level : ℕ) → TrailOk w n len level → Tested w n len level
to_tests w n len level ok = record {
  front = ok.front;
  values = value_of_ok w n len level ok;
  places = place_of_ok w n len level ok;
  rising = ok.rising;
  literals = literals_of_ok w n len level ok;
  marks = marks_of_ok w n len level ok;
}

pub ruleset tested = (by_tests, to_tests)
