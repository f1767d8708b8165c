-- A sentence of a whole area is in conflict where what it says, compared over its stored bounds, is a conflict: its stored bounds are its
-- extremes, and the stored values are those of its trail.
use mathlib.Core.Path.{◌≡◌, refl, sym, ◌∙◌, ap, subst}
use mathlib.Core.Bool.{Bool, true, false}
use mathlib.Core.List.{List}
use Prim.Native.Nat.{ℕ, suc, ◌<◌}
use Rattle.types.specs.declared.Limits.{Limits}
use Rattle.types.specs.Limits.{Fitting}
use Rattle.meaning.specs.Meaning as m
use Rattle.book.specs.Rows.{trail}
use Rattle.book.specs.Table.{Judged, no_sentence_judged, is_conflict, in_conflict}
use Rattle.book.specs.Book.{Counters}
use Rattle.area.specs.Layout.{atoms_of, sentences_of, rows_from, rows_of, record_at, least_at, greatest_at}
use Rattle.area.specs.Whole.{Whole}
use Rattle.evaluate.specs.declared.Said.{Said}
use Rattle.evaluate.specs.declared.Said.TheVariants.{Silent, Conflict, Forced}
use Rattle.extremes.specs.Inner.Stored.{Shows, EvaluateReady, ExtremesAre}
use Rattle.evaluate.specs.Inner.Sentence.{SaidIs, said_of}
use Rattle.trail_check.proofs.Shown.{shows}
use Rattle.whole.proofs.Join.{parts}
use Rattle.whole.proofs.Gives.{numbered_rule}
use Rattle.find.specs.Inner.Asked.{FindReady}
use Rattle.find.proofs.Sentences.{ready_of, extremes_of}
use Rattle.calls.specs.Calls.{area_state}
use Rattle.conflict.specs.Inner.Conflict.{ConflictIs}

-- ---- by what the sentence says

module _ {w : List ℕ} {n S b : ℕ} {r : Said} (is : SaidIs w n S b r) where
  told : (x : Said) → r ≡ x → ConflictIs w n S b (is_conflict (said_of x))
  told x e t shown = sym (ap {A = m.Said} is_conflict (is.said_is t shown ∙ ap {A = Said} said_of e))

  pub silence_told : r ≡ Silent → ConflictIs w n S b false
  silence_told e = told Silent e

  pub conflict_told : r ≡ Conflict → ConflictIs w n S b true
  conflict_told e = told Conflict e

  pub forced_told : (l : ℕ) → r ≡ Forced l → ConflictIs w n S b false
  forced_told l e = told (Forced l) e

-- ---- in a whole area

module _ {lim : Limits} {w : List ℕ} {c : Counters} (fit : Fitting lim) (h : Whole lim w c) (s : ℕ) (inside : s < sentences_of w) where
  asked : FindReady w (atoms_of w) (sentences_of w)
  asked = record { lim = lim; len = c.length_is; level = c.level_is; searchable = record { fitting = fit; whole = h; atoms = refl; sentences = refl } }

  pub ready_at : EvaluateReady w (atoms_of w) (sentences_of w) (record_at (atoms_of w) s)
  ready_at = ready_of asked inside

  abbrev b : ℕ
  b = record_at (atoms_of w) s

  pub stored_at : ExtremesAre w (atoms_of w) (sentences_of w) b (record { least = least_at w b; greatest = greatest_at w b })
  stored_at = extremes_of asked inside refl refl

  shown : Shows w (atoms_of w) (trail (rows_of w))
  shown =
      subst (λ k. Shows w (atoms_of w) (trail (rows_from w (atoms_of w) k))) (sym h.length_is) (shows (parts lim w c.length_is c.level_is h).trail_ok)

  -- it is the table's test of its number
  pub conflict_tested : (k : ℕ) (r : Bool) → k ≡ suc s → ConflictIs w (atoms_of w) (sentences_of w) (record_at (atoms_of w) s) r
      → in_conflict (area_state lim w) k ≡ r
  conflict_tested k r number is =
      ap {A = ℕ} (in_conflict (area_state lim w)) number
      ∙ ap {A = Judged} (λ j. is_conflict (j.says (trail (rows_of w)))) (numbered_rule w no_sentence_judged s inside)
      ∙ sym (is (trail (rows_of w)) shown)
