-- The words of an area between word 0 and its need are determined by its rows, its sentences and their marks: those of the trail, and
-- those of each sentence; and every word behind the trail is in some sentence's record or room.
use mathlib.Core.Path.{◌≡◌, sym, ◌∙◌, ap}
use mathlib.Core.Logic.{⊎_elim}
use mathlib.Core.List.{List}
use Prim.Native.Nat.{ℕ, zero, suc, ◌+◌, ◌-◌, ◌*◌, ◌/◌, ◌%◌, ◌<◌, ◌≤◌}
use native.Mathlib.Omega.{arith}
use lib.IntN.{ℤ}
use Rattle.types.specs.declared.Limits.{Limits}
use Rattle.numbers.specs.Extended.{up, down}
use Rattle.numbers.specs.Words.{word as word_of}
use Rattle.numbers.proofs.Words.{cases}
use Rattle.meaning.specs.Merge.{Rule}
use Rattle.meaning.specs.Computed.{extreme}
use Rattle.book.specs.Rows.{Row, trail}
use Rattle.area.specs.Layout.{word, literal_at, place_at, rows_from, record_at, pending_at, before_at, written_at, entry_at, rule_at, entries_before}
use Rattle.trail_check.proofs.Rows.{atom_of, atom_low}
use Rattle.trail_check.proofs.Same.{moved, rows_same, same_trail}
use Rattle.theory_check.proofs.Places.{placed}
use Rattle.theory_check.proofs.Same.{SameWords, same_sentence}
use Rattle.whole.specs.Parts.{PartsHeld}
use Rattle.whole.proofs.DeterminedPlaces.{place_same}

pub before_same : (w w' : List ℕ) (n n' k : ℕ) → ((s : ℕ) → s < k → written_at w (record_at n s) ≡ written_at w' (record_at n' s))
    → entries_before w n k ≡ entries_before w' n' k
unfolding entries_before
before_same w w' n n' zero h = omega arith
before_same w w' n n' (suc k) h = omega (arith, before_same w w' n n' k (λ s l. h s (omega arith)), h k (omega arith))

module _ (lim : Limits) (w w' : List ℕ) (n S len level level' : ℕ) (h : PartsHeld lim w n S len level) (h' : PartsHeld lim w' n S len level')
    (rows : rows_from w n len ≡ rows_from w' n len)
    (rules : (s : ℕ) → s < S → rule_at w n S (record_at n s) ≡ rule_at w' n S (record_at n s))
    (marks : (s : ℕ) → s < S → pending_at w (record_at n s) ≡ pending_at w' (record_at n s)) where
  -- ---- the trail

  places_same : (i : ℕ) → i < len → place_at w n i ≡ place_at w' n i
  places_same i l = place_same lim w w' n S i (h.reasons i l) (h'.reasons i l) (rows_same w w' n len rows i l)
      (omega (arith, atom_of (literal_at w n i), atom_low w n len i l h.trail_ok.atoms))
      (λ s m. (h.sentences s m).words.rule) rules

  -- ---- a sentence

  written_same : (s : ℕ) → s < S → written_at w (record_at n s) ≡ written_at w' (record_at n s)
  written_same s l = ap {A = Rule} (λ r. r.written) (rules s l)

  sentence_same : (s : ℕ) → s < S → SameWords w w' n S (record_at n s)
  sentence_same s l = let b = record_at n s in let t : trail (rows_from w n len) ≡ trail (rows_from w' n len) = ap {A = List Row} trail rows in
      let m = h.sentences s l in let m' = h'.sentences s l in let p = placed lim w n S s h.places l in
      let p' = placed lim w' n S s h'.places l in same_sentence lim w w' n S b
      (record { whole = m.words; merged = p.merged; room = p.room })
      (record { whole = m'.words; merged = p'.merged; room = p'.room }) (record {
        rule = rules s l;
        place = (h.places.each s l).place ∙ before_same w w' n n s (λ j k. written_same j (omega arith)) ∙ sym (h'.places.each s l).place;
        pending = marks s l;
        least = m.matching.bounds.least ∙ ap {A = Rule} (λ r. word_of (extreme down r (trail (rows_from w n len)))) (rules s l)
            ∙ ap {A = List ℤ} (λ x. word_of (extreme down (rule_at w' n S b) x)) t ∙ sym m'.matching.bounds.least;
        greatest = m.matching.bounds.greatest ∙ ap {A = Rule} (λ r. word_of (extreme up r (trail (rows_from w n len)))) (rules s l)
            ∙ ap {A = List ℤ} (λ x. word_of (extreme up (rule_at w' n S b) x)) t ∙ sym m'.matching.bounds.greatest;
      })

  -- ---- all sentences

  records_same : (i : ℕ) → 4 * n ≤ i → i < 4 * n + 8 * S → word w i ≡ word w' i
  records_same i l m = let s = (i - 4 * n) / 8 in
      moved w w' i (record_at n s) ((i - 4 * n) % 8) (omega arith) ((sentence_same s (omega arith)).own ((i - 4 * n) % 8) (omega arith))

  -- the rooms of the first k sentences
  rooms_same : (k : ℕ) → k ≤ S → (i : ℕ) → 4 * n + 8 * S ≤ i → i < 4 * n + 8 * S + 2 * entries_before w n k → word w i ≡ word w' i
  unfolding entries_before
  rooms_same zero f i l m = let b : ⊥ = omega arith in absurd b
  rooms_same (suc k) f i l m = let at = 4 * n + 8 * S + 2 * entries_before w n k in
      let e : before_at w (record_at n k) ≡ entries_before w n k = (h.places.each k f).place in ⊎_elim
      (λ (q : at ≤ i). moved w w' i (entry_at w n S (record_at n k)) (i - at) (omega arith) ((sentence_same k f).entries (i - at) (omega arith)))
      (λ (q : i < at). rooms_same k (omega arith) i l q) (cases i at)

  pub words_same : (i : ℕ) → 1 ≤ i → i < 4 * n + 8 * S + 2 * entries_before w n S → word w i ≡ word w' i
  words_same i l m = ⊎_elim
      (λ (p : 4 * n ≤ i). ⊎_elim
      (λ (q : 4 * n + 8 * S ≤ i). rooms_same S (omega arith) i q m)
      (λ (q : i < 4 * n + 8 * S). records_same i p q) (cases i (4 * n + 8 * S)))
      (λ (p : i < 4 * n). same_trail h.trail_ok h'.trail_ok rows places_same i l p) (cases i (4 * n))
