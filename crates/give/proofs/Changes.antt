-- What is common to the steps on the trail: a whole area stands for the steps on the trail's words; a row that keeps its words keeps a right
-- reason, as the theory stays; and an area that is whole after its trail changed is what the table's outcome asks.
use mathlib.Core.Path.{◌≡◌, refl, sym, ap, ap₂, ◌∙◌, subst}
use mathlib.Core.List.{List}
use Prim.Native.Nat.{ℕ, suc, ◌*◌, ◌/◌, ◌%◌, ◌≤◌}
use native.Mathlib.Omega.{arith}
use lib.ListN.{length, get_or}
use Rattle.types.specs.declared.Limits.{Limits}
use Rattle.types.specs.Limits.{Fitting}
use Rattle.numbers.specs.Words.{literal_of}
use Rattle.meaning.specs.Meaning.{atom}
use Rattle.meaning.specs.Merge.{Rule, scope}
use Rattle.book.specs.Table.{Outcome}
use Rattle.book.specs.Book.{Counters, counters_with}
use Rattle.area.specs.Layout.{word, atoms_of, sentences_of, literal_at, cause_at, row_at, rows_from, rows_of, record_at}
use Rattle.area.specs.Whole.{Whole, Reasoned}
use Rattle.calls.specs.Calls.{Moved}
use Rattle.trail.specs.Inner.Step.{TrailReady}
use Rattle.whole.proofs.Join.{parts}
use Rattle.whole.proofs.Frame.{same_record}
use Rattle.whole.proofs.Theories.{SameTheory, theory_behind, rule_stays}
use Rattle.refresh.proofs.WholeNext.{RenewedWhole}

pub whole_stands : (lim : Limits) (w : List ℕ) (len level : ℕ) → Fitting lim → Whole lim w (counters_with len level) → TrailReady lim w (atoms_of w) len level
whole_stands lim w len level f h =
    let p = parts lim w len level h in
    record { fitting = f; atoms = refl; header = p.header; trail_ok = p.trail_ok; fits = omega (arith, h.level_limit, f.levels) }

pub whole_rows : (lim : Limits) (w : List ℕ) (len level : ℕ) → Whole lim w (counters_with len level) → rows_of w ≡ rows_from w (atoms_of w) len
whole_rows lim w len level h = ap {A = ℕ} (rows_from w (atoms_of w)) h.length_is

module _ (lim : Limits) (w w' : List ℕ) (c : Counters) (h : Whole lim w c) (size : length w' ≡ length w)
    (rest : (i : ℕ) → 4 * atoms_of w ≤ i → word w' i ≡ word w i) where
  abbrev n : ℕ
  n = atoms_of w

  abbrev S : ℕ
  S = sentences_of w

  pub theory_same : SameTheory w w' n S
  theory_same =
      theory_behind size
      (λ s l. same_record w w' (record_at n s) (λ i m u. rest i (omega arith)) (h.theory.each s l).tag)
      (λ i l. rest i (omega arith))

  pub reason_kept : (i : ℕ) → Reasoned w n S i → literal_at w' n i ≡ literal_at w n i → cause_at w' n i ≡ cause_at w n i → Reasoned w' n S i
  reason_kept i r e m =
      let reason : (row_at w' n i).reason ≡ (row_at w n i).reason = ap {A = ℕ} (λ x. x / 65536 % 65536) m in
      let place : cause_at w' n i / 4294967296 ≡ cause_at w n i / 4294967296 = ap {A = ℕ} (λ x. x / 4294967296) m in
      record {
        few = subst (λ (x : ℕ). x ≤ S) (sym reason) r.few;
        given = λ z. place ∙ r.given (sym reason ∙ z);
        derived = λ s q.
            let was : (row_at w n i).reason ≡ suc s = sym reason ∙ q in
            ap₂ {A = Rule} {B = ℕ} (λ x j. get_or (scope x) j 0) (rule_stays theory_same s (omega (arith, r.few))) place
            ∙ r.derived s was ∙ ap {A = ℕ} (λ x. atom (literal_of x)) (sym e);
      }

pub renewed_moved : {lim : Limits} {w₀ w w' : List ℕ} {len level : ℕ} (o : Outcome) → RenewedWhole lim w₀ w w' len level → level ≡ o.level
    → rows_from w (atoms_of w₀) len ≡ o.rows → Moved lim w₀ w' (counters_with len level) o
renewed_moved o r v e = record {
  whole = r.whole;
  atoms = r.atoms;
  theory = r.theory;
  level = r.level_is ∙ v;
  rows = r.rows ∙ e;
  size = r.size;
  rest = r.rest;
}
