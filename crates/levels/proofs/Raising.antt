-- A level more in word 0 of a whole area leaves a whole area with the same rows and theory: no other word changes, so no value does, and
-- nothing has to be renewed.
use mathlib.Core.Path.{◌≡◌, refl, sym, ap, ◌∙◌, subst}
use mathlib.Core.Bool.{false, not, ◌||◌}
use mathlib.Core.Logic.{inl}
use mathlib.Core.List.{List, [], ◌∷◌}
use Prim.Native.Nat.{ℕ, ◌+◌, ◌*◌, ◌<◌, ◌≤◌}
use native.Mathlib.Omega.{arith}
use lib.Dec.{T}
use Rattle.types.specs.declared.Limits.{Limits}
use Rattle.types.specs.Limits.{Fitting}
use Rattle.meaning.specs.Meaning.{Each}
use Rattle.meaning.specs.Merge.{scope}
use Rattle.meaning.specs.Computed.{standing_of}
use Rattle.book.specs.Rows.{Row, trail}
use Rattle.book.specs.Table.{open_level, done, returned_by, Outcome, effect, reply, a_step}
use Rattle.area.specs.Layout.{word, atoms_of, sentences_of, rows_from, record_at, rule_at}
use Rattle.area.specs.Whole.{Whole}
use Rattle.calls.specs.Calls.{area_state, is_refusal, Moved, Acts}
use Rattle.trail.specs.Inner.Step.{TrailReady}
use Rattle.trail.proofs.Headers.{headed, Headed, header_set, headed_rows, raise_stands}
use Rattle.whole.specs.Parts.{counters_with}
use Rattle.refresh.specs.Inner.Refresh.{Refreshed}
use Rattle.whole.proofs.Frame.{same_record}
use Rattle.refresh.proofs.WholeNext.{TrailChanged, RenewedWhole, renewed_whole}
use Rattle.calls.proofs.Acting.{acts_moved}
use Rattle.levels.proofs.Replies.{open_below}
use Rattle.give.proofs.Refused.{replied}
use Rattle.give.proofs.Changes.{whole_stands, whole_rows, reason_kept, renewed_moved}

-- no atom is marked in an empty table
none_touched : (atoms : List ℕ) → Each (λ a. word [] a ≡ 0) atoms
none_touched [] = tt
none_touched (a ∷ rest) = (refl, none_touched rest)

module _ (lim : Limits) (w : List ℕ) (len level : ℕ) (f : Fitting lim) (h : Whole lim w (counters_with len level)) where
  abbrev n : ℕ
  n = atoms_of w

  abbrev S : ℕ
  S = sentences_of w

  stands : TrailReady lim w n len level
  stands = whole_stands lim w len level f h

  module _ (low : level < lim.levels) where
    abbrev w' : List ℕ
    w' = headed w n len (level + 1)

    head_set : Headed w w' n len (level + 1)
    head_set =
        header_set w n len (level + 1) (omega (arith, stands.header.atoms_low, stands.header.records)) (omega (arith, f.atoms, stands.header.atoms_high))
        (omega (arith, f.atoms, stands.header.atoms_high, stands.header.few))

    raised : TrailReady lim w' n len (level + 1)
    raised = raise_stands lim w n len level stands (omega arith)

    rest_same : (i : ℕ) → 4 * n ≤ i → word w' i ≡ word w i
    rest_same i l = head_set.other i (omega (arith, h.theory.atoms_low))

    rows_same : rows_from w' n len ≡ rows_from w n len
    rows_same = headed_rows w w' n len (level + 1) h.theory.atoms_low head_set len

    changed : TrailChanged lim w w' len (level + 1) []
    changed = record {
      size = head_set.size;
      atoms = head_set.atoms;
      sentences = head_set.sentences;
      rest = rest_same;
      header = raised.header;
      trail_ok = raised.trail_ok;
      reasons = λ i l.
          reason_kept lim w w' (counters_with len level) h head_set.size rest_same i (h.reasons i (omega (arith, h.length_is)))
          (head_set.other (2 * n + i) (omega (arith, h.theory.atoms_low))) (head_set.other (3 * n + i) (omega (arith, h.theory.atoms_low)));
      standings = λ a _ _ _. ap {A = List Row} (λ rs. standing_of (trail rs) a) (whole_rows lim w len level h ∙ sym rows_same);
    }

    nothing_renewed : Refreshed w' w' n S []
    nothing_renewed = record {
      size = refl;
      front = λ i l. refl;
      behind = λ i l. refl;
      each = λ s l. record {
        same = same_record w' w' (record_at n s) (λ i m u. refl) (omega (arith, rest_same (record_at n s + 1) (omega arith), (h.theory.each s l).tag));
        how = inl (none_touched (scope (rule_at w' n S (record_at n s))), record { tag = refl; least = refl; greatest = refl });
      };
    }

    raised_whole : RenewedWhole lim w w' w' len (level + 1)
    raised_whole = renewed_whole lim w w' w' (counters_with len level) len (level + 1) [] h changed nothing_renewed

    open_moves : Moved lim w w' (counters_with len (level + 1)) (effect (area_state lim w) (a_step open_level))
    open_moves =
        renewed_moved (effect (area_state lim w) (a_step open_level)) raised_whole (omega (arith, h.level_is)) (rows_same ∙ sym (whole_rows lim w len level h))

  -- ---- what open does on a whole area

  pub open_raises : level < lim.levels → (m : ℕ) → m ≡ n → (w'' : List ℕ) → w'' ≡ headed w m len (level + 1)
      → Acts lim w w'' (counters_with len level) (counters_with len (level + 1)) open_level (returned_by done)
  open_raises l m o w'' q =
      let e = (replied lim w open_level).passes (sym (open_below lim w (omega (arith, h.level_is)))) in
      acts_moved lim w (counters_with len level) open_level (returned_by done) w'' (counters_with len (level + 1)) h
      (subst (λ (o : Outcome). T (not (is_refusal o.answer || false))) (sym e) tt)
      (ap (λ (o : Outcome). returned_by o.answer) (sym e))
      (subst (λ (v : List ℕ). Moved lim w v (counters_with len (level + 1)) (reply (area_state lim w) (a_step open_level))) (sym (q ∙ ap {A = ℕ} (λ k. headed w k len (level + 1)) o))
      (subst (Moved lim w (headed w n len (level + 1)) (counters_with len (level + 1))) (sym e) (open_moves l)))
