-- What is read off word 0 and the trail's words is the same in two lists with the same words there; and a row's reason stays right where
-- the theory is the same besides.
use mathlib.Core.Path.{◌≡◌, sym, ap, ap₂, ◌∙◌, subst}
use mathlib.Core.List.{List}
use Prim.Native.Nat.{ℕ, suc, ◌+◌, ◌*◌, ◌-◌, ◌/◌, ◌%◌, ◌<◌, ◌≤◌}
use native.Mathlib.Omega.{arith}
use lib.ListN.{length, get_or}
use lib.IntN.{ℤ}
use Rattle.types.specs.declared.Limits.{Limits}
use Rattle.numbers.specs.Words.{literal_of}
use Rattle.meaning.specs.Meaning.{atom}
use Rattle.meaning.specs.Merge.{Rule, scope}
use Rattle.book.specs.Rows.{Row}
use Rattle.area.specs.Layout.{word, atoms_of, sentences_of, value_at, literal_at, cause_at, row_at, rows_from, value_word, standing_word}
use Rattle.area.specs.Whole.{AtomsOnce, Rising, Reasoned}
use Rattle.extremes.specs.Inner.Stored.{Shows}
use Rattle.trail_check.proofs.Rows.{rows_kept}
use Rattle.trail_check.specs.Trail.{HeaderOk, TrailOk}
use Rattle.whole.proofs.Theories.{SameTheory, rule_stays}

pub header_stays : (lim : Limits) (w w' : List ℕ) (len level : ℕ) → 4 * atoms_of w + 8 * sentences_of w ≤ length w' → word w' 0 ≡ word w 0 → HeaderOk lim w len level → HeaderOk lim w' len level
header_stays lim w w' len level records e h = record {
  atoms_low = omega (arith, h.atoms_low);
  atoms_high = omega (arith, h.atoms_high);
  sentences = subst (λ (x : ℕ). x / 65536 % 65536 ≤ lim.sentences) (sym e) h.sentences;
  records = subst (λ (x : ℕ). 4 * (x % 65536) + 8 * (x / 65536 % 65536) ≤ length w') (sym e) records;
  length_is = ap {A = ℕ} (λ x. x / 4294967296 % 65536) e ∙ h.length_is;
  level_is = ap {A = ℕ} (λ x. x / 281474976710656) e ∙ h.level_is;
  level_limit = subst (λ (x : ℕ). x / 281474976710656 ≤ lim.levels) (sym e) h.level_limit;
  few = omega (arith, h.few);
}

module _ (w w' : List ℕ) (n : ℕ) (front : (i : ℕ) → i < 4 * n → word w' i ≡ word w i) where
  value_stays : (a : ℕ) → 1 ≤ a → a ≤ n → value_at w' n a ≡ value_at w n a
  value_stays a low high = front (n - 1 + a) (omega arith)

  pub shows_stay : (t : List ℤ) → Shows w n t → Shows w' n t
  shows_stay t sh a low high = sh a low high ∙ ap {A = ℕ} standing_word (sym (value_stays a low high))

  literal_stays : (i : ℕ) → i < n → literal_at w' n i ≡ literal_at w n i
  literal_stays i h = front (2 * n + i) (omega arith)

  mark_stays : (i : ℕ) → i < n → cause_at w' n i ≡ cause_at w n i
  mark_stays i h = front (3 * n + i) (omega arith)

  pub rows_stay : (k : ℕ) → k ≤ n → rows_from w' n k ≡ rows_from w n k
  rows_stay k h = rows_kept w w' n k (λ i l. literal_stays i (omega arith)) (λ i l. mark_stays i (omega arith))

  pub trail_stays : (len level : ℕ) → len ≤ n → TrailOk w n len level → TrailOk w' n len level
  trail_stays len level few t = let rows = rows_stay len few in record {
    atoms = subst (AtomsOnce n) (sym rows) t.atoms;
    values = λ a low high. value_stays a low high ∙ t.values a low high ∙ ap {A = List Row} (λ rs. value_word rs a) (sym rows);
    rising = subst (Rising level) (sym rows) t.rising;
    front = λ i l h. front i (omega arith) ∙ t.front i l h;
    literals = λ i l h. literal_stays i h ∙ t.literals i l h;
    marks = λ i l h. mark_stays i h ∙ t.marks i l h;
  }

  -- a reason names a sentence of the theory, so that the rule of its number is the same
  pub reason_stays : (S i : ℕ) → SameTheory w w' n S → i < n → Reasoned w n S i → Reasoned w' n S i
  reason_stays S i same h r = let m = mark_stays i h in
      let reason : (row_at w' n i).reason ≡ (row_at w n i).reason = ap {A = ℕ} (λ x. x / 65536 % 65536) m in
      let place : cause_at w' n i / 4294967296 ≡ cause_at w n i / 4294967296 = ap {A = ℕ} (λ x. x / 4294967296) m in record {
        few = subst (λ (x : ℕ). x ≤ S) (sym reason) r.few;
        given = λ z. place ∙ r.given (sym reason ∙ z);
        derived = λ s e. let q : (row_at w n i).reason ≡ suc s = sym reason ∙ e in
            ap₂ {A = Rule} {B = ℕ} (λ x j. get_or (scope x) j 0) (rule_stays same s (omega (arith, r.few))) place
            ∙ r.derived s q ∙ ap {A = ℕ} (λ x. atom (literal_of x)) (sym (literal_stays i h));
      }
