-- What propagate does on a whole area, by full assignments, wherever it keeps its contract: at still no sentence has anything to say; a
-- conflict is that of the lowest-numbered sentence that is not silent; each row put on is the first literal that its reason forces over
-- the rows before it, all lower-numbered sentences silent. The trail that is left is consistent, and so is every trail on the way, which
-- is a tail of it.
use mathlib.Core.Path.{◌≡◌, refl, sym, ◌∙◌, ap, ap₂, subst}
use mathlib.Core.Bool.{false, not, ◌||◌}
use mathlib.Core.List.{List, [], ◌∷◌, ◌++◌}
use Prim.Native.Nat.{ℕ, zero, suc, ◌+◌, ◌-◌, ◌≤◌}
use native.Mathlib.Omega.{arith}
use lib.ListN.{length}
use lib.Seq.{append_snoc}
use lib.IntN.{ℤ}
use lib.Dec.{T}
use Rattle.types.specs.declared.Limits.{Limits}
use Rattle.meaning.specs.Meaning.{Assignment, Agrees, Consistent, Sentence, Each}
use Rattle.book.specs.Rows.{Row, a_row, trail}
use Rattle.book.specs.Table.{propagate, Returned, returned_by, Judged, State, Speech, nothing, conflicts, derives, first_to_speak, Stop, run, propagated, Outcome, ended, effect, reply, a_step}
use Rattle.book.specs.Book.{Counters}
use Rattle.book.specs.Sound.{JudgesAll}
use Rattle.book.specs.Means.{SaysNothing, ForcesFirst, Speaker, FirstConflict, DerivedRow, DerivedRows, Additions}
use Rattle.book.proofs.Number.{numbered_positive}
use Rattle.book.proofs.Speech.{silent_of, conflict_of, derived_of}
use Rattle.book.proofs.Keeps.{next}
use Rattle.area.specs.Layout.{atoms_of, level_of, rows_of}
use Rattle.area.specs.Whole.{Whole}
use Rattle.whole.proofs.Gives as gives
use Rattle.trail_check.proofs.Few.{few}
use Rattle.calls.specs.Calls.{area_state, is_refusal, Moved, Acts}
use Rattle.propagate.proofs.Ending.{not_refused}

-- ---- a tail of a consistent trail is consistent

tail_agrees : (σ : Assignment) (added rs : List Row) → Agrees σ (trail (added ++ rs)) → Agrees σ (trail rs)
tail_agrees σ [] rs g = g
tail_agrees σ (r ∷ added) rs g = tail_agrees σ added rs g.1

-- ---- the run, by its end

module _ (js : List Judged) (v : ℕ) where
  -- where it stops: nothing said, or a conflict; or the steps were used up, each for one row
  data Last (steps : ℕ) (rs : List Row) (z : Stop) : Type 0 where
    rests : z.sentence ≡ 0 → first_to_speak 1 js (trail z.rows) ≡ nothing → Last steps rs z
    clashes : first_to_speak 1 js (trail z.rows) ≡ conflicts z.sentence → Last steps rs z
    spent : length z.rows ≡ steps + length rs → Last steps rs z

  last : (steps : ℕ) (rs : List Row) → Last steps rs (run js v steps rs)
  unfolding run
  last zero rs = spent (omega arith)
  last (suc steps) rs = go (first_to_speak 1 js (trail rs)) refl (λ l k. last steps (a_row l v k ∷ rs))
    where
      longer : {l : ℤ} {k : ℕ} {z : Stop} → Last steps (a_row l v k ∷ rs) z → Last (suc steps) rs z
      longer (rests e q) = rests e q
      longer (clashes q) = clashes q
      longer (spent e) = spent (omega (arith, e))

      go : (y : Speech) → first_to_speak 1 js (trail rs) ≡ y → ((l : ℤ) (k : ℕ) → Last steps (a_row l v k ∷ rs) (run js v steps (a_row l v k ∷ rs))) → Last (suc steps) rs (next js v steps rs y)
      go nothing e ih = rests refl e
      go (conflicts k) e ih = clashes e
      go (derives k l) e ih = longer (ih l k)

-- ---- the rows put on

module _ (ss : List Sentence) (js : List Judged) (m : JudgesAll ss js) (v : ℕ) where
  -- the first row of the additions moves from the rows before to the rows added
  moved_row : (r : Row) (rs added : List Row) → DerivedRow ss v rs r rs → DerivedRows ss v (r ∷ rs) added → DerivedRows ss v rs (added ++ (r ∷ []))
  moved_row r rs [] d h = (d, tt)
  moved_row r rs (x ∷ added) d h = (
    record {
      level_is = h.0.level_is;
      forced_by = subst (λ before. Speaker (trail before) (ForcesFirst (trail before) x.literal) ss x.reason)
          (sym (append_snoc added r rs)) h.0.forced_by;
    },
    moved_row r rs added d h.1,
  )

  additions : (steps : ℕ) (rs : List Row) → Consistent (trail (run js v steps rs).rows) → Additions ss v rs (run js v steps rs).rows
  unfolding run
  additions zero rs c = record { added = []; rows_are = refl; derived = tt }
  additions (suc steps) rs c = go (first_to_speak 1 js (trail rs)) refl (λ l k. additions steps (a_row l v k ∷ rs)) c
    where
      put : (l : ℤ) (k : ℕ) (rows : List Row) → first_to_speak 1 js (trail rs) ≡ derives k l → Consistent (trail rows) → Additions ss v (a_row l v k ∷ rs) rows → Additions ss v rs rows
      put l k rows e c a =
          let r = a_row l v k in
          let before : Consistent (trail rs) = (c.0, (tail_agrees c.0 a.added (r ∷ rs) (subst (λ x. Agrees c.0 (trail x)) a.rows_are c.1)).1) in
          record {
            added = a.added ++ (r ∷ []);
            rows_are = a.rows_are ∙ sym (append_snoc a.added r rs);
            derived = moved_row r rs a.added (record { level_is = refl; forced_by = derived_of (trail rs) before ss js m k l e }) a.derived;
          }

      go : (y : Speech) → first_to_speak 1 js (trail rs) ≡ y
          → ((l : ℤ) (k : ℕ) → Consistent (trail (run js v steps (a_row l v k ∷ rs)).rows) → Additions ss v (a_row l v k ∷ rs) (run js v steps (a_row l v k ∷ rs)).rows)
          → Consistent (trail (next js v steps rs y).rows) → Additions ss v rs (next js v steps rs y).rows
      go nothing e ih c = record { added = []; rows_are = refl; derived = tt }
      go (conflicts k) e ih c = record { added = []; rows_are = refl; derived = tt }
      go (derives k l) e ih c = put l k (run js v steps (a_row l v k ∷ rs)).rows e c (ih l k c)

-- ---- propagate on a whole area, by its contract

module _ (lim : Limits) (w w' : List ℕ) (c c' : Counters) (p : Returned) (acts : Acts lim w w' c c' propagate p) (h : Whole lim w c) where
  abbrev q : State
  q = area_state lim w

  replied : reply q (a_step propagate) ≡ effect q (a_step propagate)
  unfolding reply
  replied = refl

  moved : Moved lim w w' c' (effect q (a_step propagate))
  moved =
      subst (Moved lim w w' c') replied
      (acts.moved h
      (subst (λ (o : Outcome). T (not (is_refusal o.answer || false))) (sym replied)
      (not_refused (propagated q).sentence (length (propagated q).rows - length q.rows))))

  ended_sentence : (k n : ℕ) → (returned_by (ended k n)).sentence ≡ k
  ended_sentence zero n = refl
  ended_sentence (suc k) n = refl

  told : p.sentence ≡ (propagated q).sentence
  told =
      ap {A = Returned} (λ x. x.sentence) (acts.answer.told h)
      ∙ ap {A = Outcome} (λ o. (returned_by o.answer).sentence) replied
      ∙ ended_sentence (propagated q).sentence (length (propagated q).rows - length q.rows)

  settled : Consistent (trail (rows_of w'))
  settled = gives.consistent lim w' c' moved.whole

  few_left : length (rows_of w') ≤ atoms_of w
  few_left = subst (λ a. length (rows_of w') ≤ a) moved.atoms (few (atoms_of w') (rows_of w') moved.whole.trail_right.atoms)

  -- for any sentences whose judgements run as those of the stored rules
  module _ (ss : List Sentence) (js : List Judged) (m : JudgesAll ss js) (same : run js (level_of w) (suc (atoms_of w)) (rows_of w) ≡ propagated q) where
    abbrev EndsAs : Stop → Type 0
    EndsAs z = Last js (level_of w) (suc (atoms_of w)) (rows_of w) z

    stop_is : run js (level_of w) (suc (atoms_of w)) (rows_of w) ≡ record { sentence = p.sentence; rows = rows_of w' }
    stop_is = same ∙ ap₂ {A = ℕ} {B = List Row} {C = Stop} (λ k rs. record { sentence = k; rows = rs }) (sym told) (sym moved.rows)

    ends : EndsAs (record { sentence = p.sentence; rows = rows_of w' })
    ends = subst EndsAs stop_is (last js (level_of w) (suc (atoms_of w)) (rows_of w))

    clash_of : (k : ℕ) → first_to_speak 1 js (trail (rows_of w')) ≡ conflicts k → FirstConflict ss (trail (rows_of w')) k
    clash_of k e = conflict_of (trail (rows_of w')) settled ss js m k e

    -- at still every sentence is satisfiable and forces no open literal
    pub still_means : p.sentence ≡ 0 → Each (SaysNothing (trail (rows_of w'))) ss
    still_means z = go ends
      where
        go : EndsAs (record { sentence = p.sentence; rows = rows_of w' }) → Each (SaysNothing (trail (rows_of w'))) ss
        go (Last.rests e y) = silent_of (trail (rows_of w')) settled ss js m y
        go (Last.clashes y) =
            let x = clash_of p.sentence y in let l = numbered_positive p.sentence ss x.sentence x.number in absurd (omega (arith, l, z))
        go (Last.spent e) = absurd (let f = few_left in omega (arith, e, f))

    -- a conflict's sentence has no agreeing assignment that satisfies it, and every lower-numbered one is silent
    pub clash_means : ¬ (p.sentence ≡ 0) → FirstConflict ss (trail (rows_of w')) p.sentence
    clash_means d = go ends
      where
        go : EndsAs (record { sentence = p.sentence; rows = rows_of w' }) → FirstConflict ss (trail (rows_of w')) p.sentence
        go (Last.rests e y) = absurd (d e)
        go (Last.clashes y) = clash_of p.sentence y
        go (Last.spent e) = absurd (let f = few_left in omega (arith, e, f))

    -- each row put on is the first open literal that its reason forces, which is satisfiable; lower-numbered sentences are silent
    pub derived_means : Additions ss (level_of w) (rows_of w) (rows_of w')
    derived_means =
        subst (λ (z : Stop). Additions ss (level_of w) (rows_of w) z.rows) stop_is
        (additions ss js m (level_of w) (suc (atoms_of w)) (rows_of w) (subst (λ (z : Stop). Consistent (trail z.rows)) (sym stop_is) settled))
