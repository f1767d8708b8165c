-- Wholeness leaves nothing but the pending marks open: two whole areas of one length with the same sentences, rows, level and marks, and
-- the same words past their needs, are the same words. Sentences and needs give the numbers of word 0; the rest is determined by them.
use mathlib.Core.Path.{◌≡◌, refl, sym, ◌∙◌, ap}
use mathlib.Core.Logic.{⊎_elim}
use mathlib.Core.List.{List}
use Prim.Native.Nat.{ℕ, zero, suc, ◌+◌, ◌-◌, ◌*◌, ◌/◌, ◌%◌, ◌<◌, ◌≤◌}
use native.Mathlib.Omega.{arith}
use lib.ListN.{length, get_or, drop, length-drop}
use lib.Seq.{ext_get_or, get_or-drop}
use Rattle.types.specs.declared.Limits.{Limits}
use Rattle.numbers.proofs.Words.{cases}
use Rattle.meaning.specs.Merge.{Rule}
use Rattle.book.specs.Rows.{Row}
use Rattle.book.specs.Book.{Counters}
use Rattle.area.specs.Layout.{word, atoms_of, sentences_of, length_of, level_of, rows_from, rows_of, record_at, pending_at, rule_at, rules_from, theory_of, entries_before, need_of}
use Rattle.area.specs.Whole.{Whole}
use Rattle.trail_check.proofs.Rows.{rows_length}
use Rattle.trail_check.proofs.Same.{mark_same}
use Rattle.theory_check.proofs.Rules.{rules_length, rules_numbered}
use Rattle.whole.specs.Parts.{PartsHeld}
use Rattle.whole.proofs.Join.{parts_at}
use Rattle.whole.proofs.DeterminedWords.{before_same, words_same}

-- ---- the sentences by number

rules_same : (w w' : List ℕ) (n n' S S' : ℕ) → rules_from w n S 0 S ≡ rules_from w' n' S' 0 S' → S ≡ S' → (s : ℕ) → s < S
    → rule_at w n S (record_at n s) ≡ rule_at w' n' S' (record_at n' s)
rules_same w w' n n' S S' e q s l = let r = rule_at w n S (record_at n s) in
    sym (rules_numbered w n S s r l) ∙ ap {A = List Rule} (λ rs. get_or rs s r) e ∙ rules_numbered w' n' S' s r (omega arith)

-- ---- word 0 is its four fields

last_two : (x y : ℕ) → x / 4294967296 % 65536 ≡ y / 4294967296 % 65536 → x / 281474976710656 ≡ y / 281474976710656 → x / 4294967296 ≡ y / 4294967296
last_two x y g h = omega arith

fields_same : (x y : ℕ) → x % 65536 ≡ y % 65536 → x / 65536 % 65536 ≡ y / 65536 % 65536 → x / 4294967296 % 65536 ≡ y / 4294967296 % 65536
    → x / 281474976710656 ≡ y / 281474976710656 → x ≡ y
fields_same x y e f g h = mark_same x y e f (last_two x y g h)

-- ---- the parts, with the numbers of another area that are the same

held : (lim : Limits) (w : List ℕ) (c : Counters) (n S len : ℕ) → atoms_of w ≡ n → sentences_of w ≡ S → length_of w ≡ len → Whole lim w c
    → PartsHeld lim w n S len c.level_is
held lim w c n S len e f g h = let q : len ≡ c.length_is = sym g ∙ h.length_is in rw q (parts_at lim w c.length_is c.level_is n S e f h)

-- ---- the two areas

module _ (lim : Limits) (w w' : List ℕ) (c c' : Counters) (h : Whole lim w c) (h' : Whole lim w' c') (lengths : length w ≡ length w')
    (theories : theory_of w ≡ theory_of w') (rows : rows_of w ≡ rows_of w') (levels : level_of w ≡ level_of w')
    (marks : (s : ℕ) → s < sentences_of w → pending_at w (record_at (atoms_of w) s) ≡ pending_at w' (record_at (atoms_of w') s))
    (rests : drop (need_of w) w ≡ drop (need_of w') w') where
  sentences_same : sentences_of w ≡ sentences_of w'
  sentences_same = sym (rules_length w (atoms_of w) (sentences_of w) 0 (sentences_of w)) ∙ ap {A = List Rule} length theories
      ∙ rules_length w' (atoms_of w') (sentences_of w') 0 (sentences_of w')

  rule_same : (s : ℕ) → s < sentences_of w
      → rule_at w (atoms_of w) (sentences_of w) (record_at (atoms_of w) s) ≡ rule_at w' (atoms_of w') (sentences_of w') (record_at (atoms_of w') s)
  rule_same = rules_same w w' (atoms_of w) (atoms_of w') (sentences_of w) (sentences_of w') theories sentences_same

  entries_same : entries_before w (atoms_of w) (sentences_of w) ≡ entries_before w' (atoms_of w') (sentences_of w')
  entries_same = before_same w w' (atoms_of w) (atoms_of w') (sentences_of w) (λ s l. ap {A = Rule} (λ r. r.written) (rule_same s l))
      ∙ ap {A = ℕ} (entries_before w' (atoms_of w')) sentences_same

  needs_same : need_of w ≡ need_of w'
  needs_same = subtracted (length w) (length w') (need_of w) (need_of w') h.enough h'.enough lengths
      (sym (length-drop (need_of w) w) ∙ ap {A = List ℕ} length rests ∙ length-drop (need_of w') w')
    where
      subtracted : (a b x y : ℕ) → x ≤ a → y ≤ b → a ≡ b → a - x ≡ b - y → x ≡ y
      subtracted a b x y p q e f = omega arith

  atoms_same : atoms_of w ≡ atoms_of w'
  atoms_same = counted (atoms_of w) (atoms_of w') (sentences_of w) (sentences_of w') (entries_before w (atoms_of w) (sentences_of w))
      (entries_before w' (atoms_of w') (sentences_of w')) sentences_same entries_same needs_same
    where
      counted : (n n' S S' E E' : ℕ) → S ≡ S' → E ≡ E' → 4 * n + 8 * S + 2 * E ≡ 4 * n' + 8 * S' + 2 * E' → n ≡ n'
      counted n n' S S' E E' p q e = omega arith

  length_same : length_of w ≡ length_of w'
  length_same = sym (rows_length w (atoms_of w) (length_of w)) ∙ ap {A = List Row} length rows ∙ rows_length w' (atoms_of w') (length_of w')

  first_same : word w 0 ≡ word w' 0
  first_same = fields_same (word w 0) (word w' 0) atoms_same sentences_same length_same levels

  -- the other area's facts, at this one's numbers
  abbrev n : ℕ
  n = atoms_of w

  abbrev S : ℕ
  S = sentences_of w

  rows_here : rows_from w n (length_of w) ≡ rows_from w' n (length_of w)
  rows_here = rows ∙ ap {A = ℕ} (λ k. rows_from w' k (length_of w')) (sym atoms_same) ∙ ap {A = ℕ} (rows_from w' n) (sym length_same)

  rules_here : (s : ℕ) → s < S → rule_at w n S (record_at n s) ≡ rule_at w' n S (record_at n s)
  rules_here s l = rule_same s l ∙ ap {A = ℕ} (λ k. rule_at w' k (sentences_of w') (record_at k s)) (sym atoms_same)
      ∙ ap {A = ℕ} (λ k. rule_at w' n k (record_at n s)) (sym sentences_same)

  marks_here : (s : ℕ) → s < S → pending_at w (record_at n s) ≡ pending_at w' (record_at n s)
  marks_here s l = marks s l ∙ ap {A = ℕ} (λ k. pending_at w' (record_at k s)) (sym atoms_same)

  needed_same : (i : ℕ) → i < need_of w → word w i ≡ word w' i
  needed_same zero l = first_same
  needed_same (suc i) l = words_same lim w w' n S (length_of w) c.level_is c'.level_is (held lim w c n S (length_of w) refl refl refl h)
      (held lim w' c' n S (length_of w) (sym atoms_same) (sym sentences_same) (sym length_same) h') rows_here rules_here marks_here (suc i) (omega arith) l

  rest_same : (i : ℕ) → need_of w ≤ i → word w i ≡ word w' i
  rest_same i l = let k = i - need_of w in let e : i ≡ need_of w + k = omega arith in let e' : need_of w' + k ≡ i = omega (arith, needs_same) in
      ap {A = ℕ} (word w) e ∙ sym (get_or-drop (need_of w) w k 0) ∙ ap {A = List ℕ} (λ l. get_or l k 0) rests ∙ get_or-drop (need_of w') w' k 0
      ∙ ap {A = ℕ} (word w') e'

  pub determined : w ≡ w'
  determined = ext_get_or 0 w w' lengths (λ i l. ⊎_elim (λ (p : need_of w ≤ i). rest_same i p) (λ (p : i < need_of w). needed_same i p) (cases i (need_of w)))
