-- A literal of an open atom put on a whole area, with the bounds renewed, leaves a whole area of one row more: the trail's words are right
-- (`put_stands`), the new row's reason has its atom, and no atom that is not touched stands otherwise (`renewed_whole`).
use mathlib.Core.Path.{◌≡◌, sym, ◌∙◌, ap, ap₂, subst}
use mathlib.Core.List.{List, ◌∷◌}
use Prim.Native.Nat.{ℕ, suc, ◌+◌, ◌/◌, ◌%◌, ◌<◌}
use native.Mathlib.Omega.{arith}
use native.Mathlib.Numerals.{add-one}
use lib.ListN.{length, get_or}
use lib.IntN.{ℤ}
use Rattle.types.specs.declared.Limits.{Limits}
use Rattle.numbers.specs.Words.{literal_of}
use Rattle.meaning.specs.Meaning.{atom}
use Rattle.meaning.specs.Merge.{Rule, scope}
use Rattle.meaning.specs.Computed.{standing_of}
use Rattle.book.specs.Rows.{Row, a_row, trail}
use Rattle.area.specs.Layout.{word, atoms_of, sentences_of, level_of, row_at, rows_from, rows_of}
use Rattle.area.specs.Whole.{Reasoned}
use Rattle.whole.specs.Parts.{counters_with, Parts}
use Rattle.whole.proofs.Join.{parts}
use Rattle.trail_check.proofs.Rows.{atom_of}
use Rattle.refresh.specs.Inner.Refresh.{Refreshable, Refreshed}
use Rattle.whole.proofs.Theories.{rule_stays}
use Rattle.refresh.proofs.WholeNext.{TrailChanged, RenewedWhole, refreshable, renewed_whole}
use Rattle.trail.specs.Inner.Step.{TrailReady, put_on, Puttable}
use Rattle.trail.specs.Inner.Stands.{Stands}
use Rattle.trail.proofs.Rows.{same_or_not}
use Rattle.trail.proofs.PutOn.{Grown, put_stands}
use Rattle.give.specs.Inner.Trail.{Advanceable, Advanced}
use Rattle.give.proofs.Changes.{whole_stands, whole_rows, theory_same, reason_kept, renewed_moved}

module _ (lim : Limits) (w : List ℕ) (len level literal mark : ℕ) (a : Advanceable lim w (atoms_of w) (sentences_of w) len level literal mark) where
  abbrev n : ℕ
  n = atoms_of w

  abbrev S : ℕ
  S = sentences_of w

  abbrev w' : List ℕ
  w' = put_on w n len literal mark

  old : Parts lim w len level
  old = parts lim w len level a.whole

  pub trail_stands : TrailReady lim w n len level
  trail_stands = whole_stands lim w len level a.fitting a.whole

  grown : Grown lim w w' n len level literal mark
  grown = put_stands lim w n len level literal trail_stands a.puttable mark a.level_is

  -- ---- reasons

  -- the last row
  added : row_at w' n len ≡ a_row (literal_of literal) level (mark / 65536 % 65536)
  unfolding rows_from
  added = let e : row_at w' n len ∷ rows_from w' n len ≡ a_row (literal_of literal) level (mark / 65536 % 65536) ∷ rows_from w n len = ap {A = ℕ} (rows_from w' n) (sym (add-one len)) ∙ grown.rows in cc

  added_reason : (row_at w' n len).reason ≡ mark / 65536 % 65536
  added_reason = ap {A = Row} (λ r. r.reason) added

  added_atom : atom (row_at w' n len).literal ≡ literal / 2
  added_atom = ap {A = Row} (λ r. atom r.literal) added ∙ atom_of literal

  reason_added : Reasoned w' n S len
  reason_added = record {
    few = omega (arith, added_reason, a.few);
    given = λ z. grown.place ∙ a.given (sym added_reason ∙ z);
    derived = λ s e.
        let q : mark / 65536 % 65536 ≡ suc s = sym added_reason ∙ e in
        ap₂ {A = Rule} {B = ℕ} (λ x j. get_or (scope x) j 0) (rule_stays (theory_same lim w w' (counters_with len level) a.whole grown.size grown.behind) s (omega (arith, a.few))) grown.place
        ∙ a.derived s q ∙ sym added_atom;
  }

  old_reason : (i : ℕ) → i < len → Reasoned w' n S i
  old_reason i l = reason_kept lim w w' (counters_with len level) a.whole grown.size grown.behind i (old.reasons i l) (grown.literals i l) (grown.marks i l)

  -- ---- renewed

  module _ (touched : List ℕ) (marked : word touched (literal / 2) ≡ 1) where
    changed : TrailChanged lim w w' (len + 1) level touched
    changed = record {
      size = grown.size;
      atoms = grown.stands.atoms;
      sentences = grown.sentences;
      rest = grown.behind;
      header = grown.stands.header;
      trail_ok = grown.stands.trail_ok;
      reasons = λ i l. same_or_not i len (λ e. rw e reason_added) (λ d. old_reason i (omega arith));
      standings = λ x l h z.
          ap {A = List Row} (λ rs. standing_of (trail rs) x) (whole_rows lim w len level a.whole)
          ∙ sym (grown.standings x l h (λ e. let b : ⊥ = omega (arith, ap {A = ℕ} (word touched) e, marked) in b));
    }

    pub put_refreshable : length touched ≡ 4097 → Refreshable lim w' n S touched
    put_refreshable table = refreshable lim w w' (counters_with len level) a.whole grown.size grown.behind a.fitting touched table

    module _ (w'' : List ℕ) (done : Refreshed w' w'' n S touched) where
      renewed : RenewedWhole lim w w' w'' (len + 1) level
      renewed = renewed_whole lim w w' w'' (counters_with len level) (len + 1) level touched a.whole changed done

      pub advanced : Advanced lim w w'' len level literal mark
      advanced =
          renewed_moved _ renewed (sym a.whole.level_is)
          (grown.rows ∙ ap {A = List Row} (λ rs. a_row (literal_of literal) level (mark / 65536 % 65536) ∷ rs) (sym (whole_rows lim w len level a.whole)))

-- ---- at numbers that word 0 holds

module _ (lim : Limits) (w : List ℕ) (n S len level literal mark : ℕ) (a : Advanceable lim w n S len level literal mark) where
  own : Advanceable lim w (atoms_of w) (sentences_of w) len level literal mark
  own =
      subst (λ (k : ℕ). Advanceable lim w k (sentences_of w) len level literal mark) (sym a.atoms)
      (subst (λ (k : ℕ). Advanceable lim w n k len level literal mark) (sym a.sentences) a)

  carried : (P : ℕ → ℕ → Type 0) → P (atoms_of w) (sentences_of w) → P n S
  carried P p = subst (λ (k : ℕ). P k S) a.atoms (subst (λ (k : ℕ). P (atoms_of w) k) a.sentences p)

  pub put_ready : Stands w n len × Puttable w n literal
  put_ready = (
    record { lim = lim; level = level; standing = carried (λ m k. TrailReady lim w m len level) (trail_stands lim w len level literal mark own) },
    a.puttable,
  )

  pub atom_small : literal / 2 < 4097
  atom_small = omega (arith, a.puttable.high, a.atoms, a.whole.theory.atoms_high, a.fitting.atoms)

  module _ (touched : List ℕ) (marked : word touched (literal / 2) ≡ 1) where
    pub refresh_ready : length touched ≡ 4097 → Refreshable lim (put_on w n len literal mark) n S touched
    refresh_ready table =
        carried (λ m k. Refreshable lim (put_on w m len literal mark) m k touched) (put_refreshable lim w len level literal mark own touched marked table)

    pub advance_done : (w'' : List ℕ) → Refreshed (put_on w n len literal mark) w'' n S touched → Advanced lim w w'' len level literal mark
    advance_done w'' =
        carried (λ m k. Refreshed (put_on w m len literal mark) w'' m k touched → Advanced lim w w'' len level literal mark)
        (advanced lim w len level literal mark own touched marked w'')

-- ---- the rows after

pub advanced_rows : (lim : Limits) (w w' : List ℕ) (len level literal mark k : ℕ) (l : ℤ) → Advanced lim w w' len level literal mark → literal_of literal ≡ l
    → mark / 65536 % 65536 ≡ k → rows_of w' ≡ a_row l (level_of w) k ∷ rows_of w
advanced_rows lim w _ len level literal mark k l a e f =
    let same : level ≡ level_of w = sym a.whole.level_is ∙ a.level in
    a.rows ∙ ap {A = ℤ} (λ x. a_row x level (mark / 65536 % 65536) ∷ rows_of w) e ∙ ap₂ {A = ℕ} {B = ℕ} (λ v x. a_row l v x ∷ rows_of w) same f
