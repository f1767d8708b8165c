-- What propagate does on a whole area is the table's: where its loop stops, the rows are those of the table's run, as many more as the
-- length grew, and the answer is still or the conflict.
use mathlib.Core.Path.{◌≡◌, refl, sym, ap, ap₂, ◌∙◌, subst}
use mathlib.Core.Bool.{false, not, ◌||◌}
use mathlib.Core.List.{List, ◌∷◌}
use Prim.Native.Nat.{ℕ, zero, suc, ◌-◌, ◌≤◌}
use native.Mathlib.Omega.{arith}
use lib.ListN.{length}
use lib.IntN.{ℤ}
use lib.Dec.{T}
use Rattle.types.specs.declared.Limits.{Limits}
use Rattle.book.specs.Rows.{Row, a_row, trail}
use Rattle.book.specs.Table.{propagate, Returned, returned_by, Judged, Speech, nothing, conflicts, derives, first_to_speak, Stop, run, propagated, Outcome, ended, reply, a_step}
use Rattle.book.specs.Book.{judged_all, counters_with}
use Rattle.book.proofs.Keeps.{next}
use Rattle.area.specs.Layout.{atoms_of, level_of, rows_of, theory_of}
use Rattle.area.specs.Whole.{Whole}
use Rattle.calls.specs.Calls.{area_state, is_refusal, Moved, Acts}
use Rattle.calls.proofs.Acting.{acts_moved}
use Rattle.give.proofs.Moves.{rows_count, moved_as}
use Rattle.derive.specs.Inner.Stopped.{Stopped}
use Rattle.propagate.specs.Propagate.{plain}

-- the table's run only puts rows on
pub run_longer : (js : List Judged) (level steps : ℕ) (rs : List Row) → length rs ≤ length (run js level steps rs).rows
unfolding run
run_longer js level zero rs = omega arith
run_longer js level (suc steps) rs = go (first_to_speak 1 js (trail rs)) (λ l k. run_longer js level steps (a_row l level k ∷ rs))
  where
    go : (y : Speech) → ((l : ℤ) (k : ℕ) → suc (length rs) ≤ length (run js level steps (a_row l level k ∷ rs)).rows) → length rs ≤ length (next js level steps rs y).rows
    go nothing f = omega arith
    go (conflicts k) f = omega arith
    go (derives k l) f = omega (arith, f l k)

pub not_refused : (sentence n : ℕ) → T (not (is_refusal (ended sentence n) || false))
not_refused zero n = tt
not_refused (suc k) n = tt

module _ (lim : Limits) (w w' : List ℕ) (len level len' sentence : ℕ) (h : Whole lim w (counters_with len level)) (st : Stopped lim w w' level len' sentence) where
  stop_is : propagated (area_state lim w) ≡ record { sentence = sentence; rows = rows_of w' }
  stop_is = ap {A = ℕ} (λ v. run (judged_all (theory_of w)) v (suc (atoms_of w)) (rows_of w)) h.level_is ∙ st.stop

  pub longer : len ≤ len'
  longer =
      let e : length (propagated (area_state lim w)).rows ≡ len' = ap (λ (x : Stop). length x.rows) stop_is ∙ rows_count lim w' (counters_with len' level) st.moved.whole in
      omega (arith, run_longer (judged_all (theory_of w)) (level_of w) (suc (atoms_of w)) (rows_of w), e, rows_count lim w (counters_with len level) h)

  abbrev outcome : Outcome
  outcome = record { answer = ended sentence (len' - len); level = level_of w; rows = rows_of w' }

  reply_is : reply (area_state lim w) (a_step propagate) ≡ outcome
  unfolding reply
  reply_is =
      ap (λ (x : Stop). record { answer = ended x.sentence (length x.rows - length (rows_of w)); level = level_of w; rows = x.rows }) stop_is
      ∙ ap₂ {A = ℕ} {B = ℕ} (λ a b. record { answer = ended sentence (a - b); level = level_of w; rows = rows_of w' })
      (rows_count lim w' (counters_with len' level) st.moved.whole) (rows_count lim w (counters_with len level) h)

  moves : Moved lim w w' (counters_with len' level) outcome
  moves = moved_as st.moved refl refl

  acts : (p : Returned) → p ≡ returned_by (ended sentence (len' - len)) → Acts lim w w' (counters_with len level) (counters_with len' level) propagate p
  acts p e =
      acts_moved lim w (counters_with len level) propagate p w' (counters_with len' level) h
      (subst (λ (o : Outcome). T (not (is_refusal o.answer || false))) (sym reply_is) (not_refused sentence (len' - len)))
      (e ∙ ap (λ (o : Outcome). returned_by o.answer) (sym reply_is))
      (subst (Moved lim w w' (counters_with len' level)) (sym reply_is) moves)

  pub acts_ended : (k : ℕ) → sentence ≡ k → Acts lim w w' (counters_with len level) (counters_with len' level) propagate (plain 0 (len' - len) k)
  acts_ended k e = acts (plain 0 (len' - len) k) (ap {A = ℕ} (plain 0 (len' - len)) (sym e) ∙ go sentence)
    where
      go : (k : ℕ) → plain 0 (len' - len) k ≡ returned_by (ended k (len' - len))
      go zero = refl
      go (suc k) = refl
