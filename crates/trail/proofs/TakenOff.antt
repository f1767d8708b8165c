-- The last row taken off a right trail leaves it right, one row shorter: its literal and mark and its atom's value word become 0, and its
-- atom stands in no other row.
use mathlib.Core.Path.{◌≡◌, sym, ◌∙◌, ap, subst}
use mathlib.Core.List.{List, ◌∷◌}
use Prim.Native.Nat.{ℕ, ◌+◌, ◌-◌, ◌*◌, ◌/◌, ◌<◌, ◌≤◌}
use native.Mathlib.Omega.{arith}
use lib.ListN.{length, length-set, set}
use lib.Seq.{get_or-set_same, get_or-set_other}
use Rattle.meaning.specs.Meaning.{atom, Each}
use Rattle.book.specs.Rows.{Row}
use Rattle.area.specs.Layout.{word, value_at, literal_at, cause_at, row_at, rows_from, value_word}
use Rattle.area.specs.Whole.{AtomsOnce, Rising}
use Rattle.trail_check.specs.Trail.{TrailOk}
use Rattle.trail_check.proofs.Rows.{rows_kept, rows_last, atom_of, atom_low, atom_high}
use Rattle.trail_check.proofs.Values.{value_word_other}
use Rattle.trail.proofs.Rows.{same_or_not, absent_zero, rising_higher}

abbrev pub taken_off : List ℕ → ℕ → ℕ → List ℕ
taken_off w n i = set (set (set w (n - 1 + literal_at w n i / 2) 0) (2 * n + i) 0) (3 * n + i) 0

module _ (w : List ℕ) (n left level : ℕ) (ok : TrailOk w n left level) (some : 0 < left) (few : left ≤ n) (room : 4 * n ≤ length w) where
  abbrev w' : List ℕ
  w' = taken_off w n (left - 1)

  -- its list while it is made
  abbrev w1 : List ℕ
  w1 = set w (n - 1 + literal_at w n (left - 1) / 2) 0

  abbrev w2 : List ℕ
  w2 = set w1 (2 * n + (left - 1)) 0

  -- the atom of the last row
  abbrev last : ℕ
  last = literal_at w n (left - 1) / 2

  pub last_low : 1 ≤ last
  last_low = atom_low w n left (left - 1) (omega arith) ok.atoms

  pub last_high : last ≤ n
  last_high = atom_high w n left (left - 1) (omega arith) ok.atoms

  pub off_size : length w' ≡ length w
  off_size = simp length-set

  value_gone : value_at w' n last ≡ 0
  value_gone = let l = last_low in let h = last_high in
      get_or-set_other w2 (3 * n + (left - 1)) (n - 1 + last) 0 0 (omega arith) ∙ get_or-set_other w1 (2 * n + (left - 1)) (n - 1 + last) 0 0 (omega arith)
      ∙ get_or-set_same w (n - 1 + last) 0 0 (omega arith)

  literal_gone : literal_at w' n (left - 1) ≡ 0
  literal_gone =
      get_or-set_other w2 (3 * n + (left - 1)) (2 * n + (left - 1)) 0 0 (omega arith) ∙ get_or-set_same w1 (2 * n + (left - 1)) 0 0 (simp length-set (omega arith))

  mark_gone : cause_at w' n (left - 1) ≡ 0
  mark_gone = get_or-set_same w2 (3 * n + (left - 1)) 0 0 (simp length-set (omega arith))

  other : (j : ℕ) → ¬ (j ≡ n - 1 + last) → ¬ (j ≡ 2 * n + (left - 1)) → ¬ (j ≡ 3 * n + (left - 1)) → word w' j ≡ word w j
  other j a b c =
      get_or-set_other w2 (3 * n + (left - 1)) j 0 0 c ∙ get_or-set_other w1 (2 * n + (left - 1)) j 0 0 b ∙ get_or-set_other w (n - 1 + last) j 0 0 a

  pub off_literal : (i : ℕ) → i < n → ¬ (i ≡ left - 1) → literal_at w' n i ≡ literal_at w n i
  off_literal i h d = other (2 * n + i) (omega (arith, last_high)) (omega arith) (omega arith)

  pub off_mark : (i : ℕ) → i < n → ¬ (i ≡ left - 1) → cause_at w' n i ≡ cause_at w n i
  off_mark i h d = other (3 * n + i) (omega (arith, last_high)) (omega arith) (omega arith)

  pub off_value : (a : ℕ) → 1 ≤ a → a ≤ n → ¬ (a ≡ last) → value_at w' n a ≡ value_at w n a
  off_value a l h d = other (n - 1 + a) (omega (arith, last_low)) (omega arith) (omega arith)

  pub off_first : word w' 0 ≡ word w 0
  off_first = other 0 (omega (arith, last_low)) (omega arith) (omega arith)

  pub off_behind : (i : ℕ) → 4 * n ≤ i → word w' i ≡ word w i
  off_behind i l = other i (omega (arith, last_high)) (omega arith) (omega arith)

  pub off_rows : rows_from w' n (left - 1) ≡ rows_from w n (left - 1)
  off_rows = rows_kept w w' n (left - 1) (λ i l. off_literal i (omega arith) (omega arith)) (λ i l. off_mark i (omega arith) (omega arith))

  -- the last row, and the rows below it
  abbrev top : Row
  top = row_at w n (left - 1)

  once : AtomsOnce n (top ∷ rows_from w n (left - 1))
  once = subst (AtomsOnce n) (rows_last w n left some) ok.atoms

  values_less : (a : ℕ) → 1 ≤ a → a ≤ n → value_at w' n a ≡ value_word (rows_from w' n (left - 1)) a
  values_less a l h = same_or_not a last
      (λ e. ap {A = ℕ} (value_at w' n) e ∙ value_gone ∙ sym (absent_zero (rows_from w n (left - 1)) a
      (subst (λ b. Each (λ x. ¬ (atom x.literal ≡ b)) (rows_from w n (left - 1))) (atom_of (literal_at w n (left - 1)) ∙ sym e) once.0.2))
      ∙ ap (λ rs. value_word rs a) (sym off_rows))
      (λ d. off_value a l h d ∙ ok.values a l h ∙ ap (λ rs. value_word rs a) (rows_last w n left some)
      ∙ value_word_other top (rows_from w n (left - 1)) a (λ e. d (sym e ∙ atom_of (literal_at w n (left - 1))))
      ∙ ap (λ rs. value_word rs a) (sym off_rows))

  rising_less : Rising level (rows_from w' n (left - 1))
  rising_less = let r : Rising level (top ∷ rows_from w n (left - 1)) = subst (Rising level) (rows_last w n left some) ok.rising in
      subst (Rising level) (sym off_rows) (rising_higher top.level level (rows_from w n (left - 1)) r.0 r.1)

  pub off_trail : TrailOk w' n (left - 1) level
  off_trail = record {
    atoms = subst (AtomsOnce n) (sym off_rows) once.1;
    values = values_less;
    rising = rising_less;
    front = λ i l h. other i (omega (arith, last_low)) (omega arith) (omega arith) ∙ ok.front i l h;
    literals = λ i l h. same_or_not i (left - 1)
        (λ e. ap {A = ℕ} (literal_at w' n) e ∙ literal_gone)
        (λ d. off_literal i h d ∙ ok.literals i (omega arith) h);
    marks = λ i l h. same_or_not i (left - 1)
        (λ e. ap {A = ℕ} (cause_at w' n) e ∙ mark_gone)
        (λ d. off_mark i h d ∙ ok.marks i (omega arith) h);
  }
