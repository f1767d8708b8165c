-- Taking a whole area back to a lower level: the rows above it cut, the counters set and the bounds renewed leave a whole area of the same
-- theory. Kept rows keep their words, and every atom that lost its value is marked, so that its sentences are renewed.
use mathlib.Core.Path.{◌≡◌, refl, sym, ap, ◌∙◌, subst}
use mathlib.Core.Bool.{Bool, true, false, not, ◌||◌}
use mathlib.Core.List.{List}
use Prim.Native.Nat.{ℕ, ◌+◌, ◌*◌, ◌/◌, ◌%◌, ◌<◌, ◌≤◌}
use native.Mathlib.Omega.{arith}
use borrow.Author.Tests.{eq-eqb, ne_eqb}
use lib.ListN.{length}
use lib.Dec.{T, eqb}
use Rattle.types.specs.declared.Limits.{Limits}
use Rattle.types.specs.Limits.{Fitting}
use Rattle.meaning.specs.Computed.{standing_of}
use Rattle.book.specs.Rows.{Row, trail, up_to}
use Rattle.book.specs.Table.{take_back, done, returned_by, Outcome, effect, a_step}
use Rattle.area.specs.Layout.{word, atoms_of, sentences_of, level_of, rows_from}
use Rattle.area.specs.Whole.{Whole}
use Rattle.calls.specs.Calls.{area_state, is_refusal, Moved, Acts}
use Rattle.trail.specs.Inner.Step.{TrailReady, Cut}
use Rattle.trail.proofs.Cutting.{cut_standing}
use Rattle.trail.proofs.Headers.{headed, Headed, header_set, headed_rows, cut_stands}
use Rattle.whole.specs.Parts.{counters_with}
use Rattle.refresh.specs.Inner.Refresh.{Refreshable, Refreshed}
use Rattle.refresh.proofs.WholeNext.{TrailChanged, refreshable, renewed_whole}
use Rattle.calls.proofs.Acting.{acts_kept, acts_moved}
use Rattle.levels.proofs.Replies.{back_below}
use Rattle.give.proofs.Refused.{replied}
use Rattle.give.proofs.Changes.{whole_stands, whole_rows, reason_kept, renewed_moved}

module _ (lim : Limits) (w : List ℕ) (len level k : ℕ) (f : Fitting lim) (h : Whole lim w (counters_with len level)) where
  abbrev n : ℕ
  n = atoms_of w

  abbrev S : ℕ
  S = sentences_of w

  stands : TrailReady lim w n len level
  stands = whole_stands lim w len level f h

  -- ---- rows cut and counters set

  module _ (low : k < level) (cut : List ℕ) (left : ℕ) (touched : List ℕ) (c : Cut w cut n len (level_of w) k left touched) where
    abbrev lowered : List ℕ
    lowered = headed cut n left k

    head_set : Headed cut lowered n left k
    head_set =
        header_set cut n left k (omega (arith, stands.header.atoms_low, stands.header.records, c.size)) (omega (arith, f.atoms, stands.header.atoms_high))
        (omega (arith, f.atoms, stands.header.atoms_high, stands.header.few, c.few))

    lower_stands : TrailReady lim lowered n left k
    lower_stands = cut_stands lim w n len level stands cut (level_of w) k left touched c low

    size_same : length lowered ≡ length w
    size_same = head_set.size ∙ c.size

    rest_same : (i : ℕ) → 4 * n ≤ i → word lowered i ≡ word w i
    rest_same i l = head_set.other i (omega (arith, h.theory.atoms_low)) ∙ c.behind i l

    rows_left : rows_from lowered n left ≡ rows_from cut n left
    rows_left = headed_rows cut lowered n left k h.theory.atoms_low head_set left

    changed : TrailChanged lim w lowered left k touched
    changed = record {
      size = size_same;
      atoms = head_set.atoms;
      sentences = head_set.sentences ∙ ap {A = ℕ} (λ x. x / 65536 % 65536) c.first;
      rest = rest_same;
      header = lower_stands.header;
      trail_ok = lower_stands.trail_ok;
      reasons = λ i l.
          reason_kept lim w lowered (counters_with len level) h size_same rest_same i (h.reasons i (omega (arith, h.length_is, c.few)))
          (head_set.other (2 * n + i) (omega (arith, h.theory.atoms_low)) ∙ (c.kept i l).0)
          (head_set.other (3 * n + i) (omega (arith, h.theory.atoms_low)) ∙ (c.kept i l).1);
      standings = λ a l u e.
          ap {A = List Row} (λ rs. standing_of (trail rs) a) (whole_rows lim w len level h)
          ∙ sym (cut_standing w cut n len level (level_of w) k left touched stands.trail_ok c a l u e)
          ∙ ap {A = List Row} (λ rs. standing_of (trail rs) a) (sym rows_left);
    }

    pub lowered_refreshable : (w₂ : List ℕ) → w₂ ≡ lowered → Refreshable lim w₂ n S touched
    lowered_refreshable w₂ q =
        subst (λ (v : List ℕ). Refreshable lim v n S touched) (sym q) (refreshable lim w lowered (counters_with len level) h size_same rest_same f touched c.table)

    take_back_moves : (w' : List ℕ) → Refreshed lowered w' n S touched → Moved lim w w' (counters_with left k) (effect (area_state lim w) (a_step (take_back k)))
    take_back_moves w' r =
        renewed_moved (effect (area_state lim w) (a_step (take_back k)))
        (renewed_whole lim w lowered w' (counters_with len level) left k touched h changed r) refl
        (rows_left ∙ c.rows ∙ ap {A = List Row} (up_to k) (sym (whole_rows lim w len level h)))

    pub take_back_lowers : (w₂ w' : List ℕ) → w₂ ≡ lowered → Refreshed w₂ w' n S touched
        → Acts lim w w' (counters_with len level) (counters_with left k) (take_back k) (returned_by done)
    take_back_lowers w₂ w' q r =
        let e = (replied lim w (take_back k)).passes (sym (back_below lim w k (omega (arith, h.level_is)))) in
        let d : eqb k (level_of w) ≡ false = ne_eqb k (level_of w) (λ q. omega (arith, h.level_is)) in
        acts_moved lim w (counters_with len level) (take_back k) (returned_by done) w' (counters_with left k) h
        (subst (λ (o : Outcome). T (not (is_refusal o.answer || eqb k (level_of w)))) (sym e) (subst (λ (b : Bool). T (not b)) (sym d) tt))
        (ap (λ (o : Outcome). returned_by o.answer) (sym e))
        (subst (Moved lim w w' (counters_with left k)) (sym e) (take_back_moves w' (subst (λ (v : List ℕ). Refreshed v w' n S touched) q r)))

  -- ---- nothing to do

  pub take_back_stays : k ≡ level → Acts lim w w (counters_with len level) (counters_with len level) (take_back k) (returned_by done)
  take_back_stays q =
      let e = (replied lim w (take_back k)).passes (sym (back_below lim w k (omega (arith, h.level_is)))) in
      let d : eqb k (level_of w) ≡ true = eq-eqb k (level_of w) (omega (arith, h.level_is)) in
      acts_kept lim w (counters_with len level) (take_back k) (returned_by done) h
      (subst (λ (o : Outcome). T (is_refusal o.answer || eqb k (level_of w))) (sym e) (subst (λ (b : Bool). T b) (sym d) tt))
      (ap (λ (o : Outcome). returned_by o.answer) (sym e))
