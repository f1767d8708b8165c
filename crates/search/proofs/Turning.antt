-- The loop: what is left to do from the words reached comes to the whole search. A turn of propagate and a literal tried each take one
-- case of it off. The total is at most the number of rows, as propagate only puts rows on.
use mathlib.Core.Path.{◌≡◌, refl, sym, ap, ap₂, ◌∙◌, subst}
use mathlib.Core.Bool.{false, not, ◌||◌}
use mathlib.Core.List.{List}
use Prim.Native.Nat.{ℕ, zero, suc, ◌+◌, ◌≤◌, ◌<◌}
use native.Mathlib.Omega.{arith}
use lib.ListN.{length, drop}
use lib.IntN.{ℤ}
use lib.Dec.{T}
use Rattle.std.specs.Prelude.{Some}
use Rattle.types.specs.declared.Limits.{Limits}
use Rattle.types.specs.Limits.{Fitting}
use Rattle.types.specs.declared.Counters as t
use Rattle.book.specs.Rows.{Row}
use Rattle.book.specs.Table.{propagate, done, Returned, returned_by, State, propagated, Outcome, ended, unchanged, put_on, propagating, following, End, end_at, apart, trying, searching, search_ended, reply, searched, a_step}
use Rattle.book.specs.Book.{Counters, judged_all}
use Rattle.book.proofs.Making.{ended_value}
use Rattle.area.specs.Layout.{atoms_of, level_of, rows_of, theory_of}
use Rattle.area.specs.Whole.{Whole}
use Rattle.calls.specs.Calls.{counted, area_state, is_refusal, Moved, Acts}
use Rattle.propagate.specs.declared.Propagated.{Propagated}
use Rattle.propagate.specs.declared.Propagated.TheVariants.{Still, Conflict}
use Rattle.propagate.specs.Propagate.{plain, stop_returned, counters_of, SentenceNamed}
use Rattle.propagate.proofs.Ending.{run_longer, not_refused}
use Rattle.search.specs.declared.Searched.{Searched}
use Rattle.search.specs.Search.{end_returned, Named}
use Rattle.candidates.specs.Inner.Candidates.{nth, PassedTo, NextIs, LevelRefused, LiteralGiven}
use Rattle.search.specs.Inner.Turn.{unopposed_with, ended_by, Ends}
use Rattle.candidates.proofs.Passing.{turns, try_past, try_highest, try_open}
use Rattle.give.proofs.Moves.{rows_count, few_rows, stays, state_after, moved_twice, moved_as, moved_here}

-- the words w reached from w₀, with so many derived; `left` is what is left to do
pub record Reached (lim : Limits) (w₀ w : List ℕ) (c : Counters) (ls : List ℤ) (total : ℕ) (left : End) : Type 0 where
  pub moved : Moved lim w₀ w c (unchanged (area_state lim w) done)
  pub same : searching (area_state lim w₀) ls ≡ left
  pub few : total ≤ c.length_is

pub reached_first : (lim : Limits) (w : List ℕ) (c : Counters) (ls : List ℤ) → Whole lim w c → Reached lim w w c ls 0 (turns (area_state lim w) 0 0 ls)
reached_first lim w c ls h = record { moved = stays lim w c h done; same = refl; few = omega arith }

-- ---- the end

ends : {lim : Limits} {w₀ w' : List ℕ} {ls : List ℤ} {left : End} {r : Searched} → searching (area_state lim w₀) ls ≡ left
    → end_returned r ≡ returned_by (search_ended left).answer → Moved lim w₀ w' (counted r.counters) (search_ended left) → Ends lim w₀ w' ls r
ends {lim} {w₀} {w'} {r = r} e s m = record {
  answer = s ∙ ap {A = End} (λ x. returned_by (search_ended x).answer) (sym e);
  moved = subst (λ (x : End). Moved lim w₀ w' (counted r.counters) (search_ended x)) (sym e) m;
}

-- no conflict, with the words as they are
ends_here : {lim : Limits} {w₀ w : List ℕ} {c : t.Counters} {ls : List ℤ} {total : ℕ} {left : End} (gone : ℕ) → Reached lim w₀ w (counted c) ls total left
    → left ≡ end_at 0 total gone (area_state lim w) → Ends lim w₀ w ls (unopposed_with total gone c)
ends_here {total = total} gone g e = ends (g.same ∙ e) refl (moved_here g.moved (searched 0 total gone))

-- ---- propagate

by_still : (s k n : ℕ) → plain 0 n 0 ≡ returned_by (ended s k) → (s ≡ 0) × (k ≡ n)
by_still zero k n e = (refl, ap {A = Returned} (λ p. p.value) (sym e))
by_still (suc s) k n e = let d : 0 ≡ suc s = ap {A = Returned} (λ p. p.sentence) e in let b : ⊥ = omega (arith, d) in absurd b

by_conflict : (s k n j : ℕ) → ¬ (j ≡ 0) → plain 0 n j ≡ returned_by (ended s k) → (s ≡ j) × (k ≡ n)
by_conflict zero k n j d e = absurd (d (ap {A = Returned} (λ p. p.sentence) e))
by_conflict (suc s) k n j d e = (ap {A = Returned} (λ p. p.sentence) (sym e), ap {A = Returned} (λ p. p.value) (sym e))

apart_conflict : (k : ℕ) (a b : End) → ¬ (k ≡ 0) → apart k a b ≡ a
apart_conflict zero a b d = absurd (d refl)
apart_conflict (suc k) a b d = refl

module _ (lim : Limits) (w : List ℕ) where
  abbrev q : State
  q = area_state lim w

  reply_is : reply q (a_step propagate) ≡ propagating q
  unfolding reply
  reply_is = refl

  longer : length (rows_of w) ≤ length (propagated q).rows
  longer = run_longer (judged_all (theory_of w)) (level_of w) (suc (atoms_of w)) (rows_of w)

  module _ {w₀ : List ℕ} {c : Counters} {ls : List ℤ} {total : ℕ} (gone : ℕ) (rest : List ℤ) (g : Reached lim w₀ w c ls total (turns q total gone rest)) (w' : List ℕ) (p : Propagated)
      (a : Acts lim w w' c (counted (counters_of p)) propagate (stop_returned p)) where
    moves : Moved lim w w' (counted (counters_of p)) (propagating q)
    moves =
        subst (λ (o : Outcome). Moved lim w w' (counted (counters_of p)) o) reply_is
        (a.moved g.moved.whole
        (subst (λ (o : Outcome). T (not (is_refusal o.answer || false))) (sym reply_is) (not_refused (propagated q).sentence (put_on q))))

    told : stop_returned p ≡ returned_by (ended (propagated q).sentence (put_on q))
    told = a.answer.told g.moved.whole ∙ ap (λ (o : Outcome). returned_by o.answer) reply_is

    after_few : total + (stop_returned p).value ≤ (counted (counters_of p)).length_is
    after_few =
        let e : (stop_returned p).value ≡ put_on q = ap {A = Returned} (λ x. x.value) told ∙ ended_value (propagated q).sentence (put_on q) in
        let f : length (rows_of w') ≡ length (propagated q).rows = ap {A = List Row} length moves.rows in
        omega (arith, e, f, longer, g.few, rows_count lim w c g.moved.whole, rows_count lim w' (counted (counters_of p)) moves.whole)

    pub after_small : Fitting lim → total + (stop_returned p).value ≤ 4096
    after_small fit = omega (arith, after_few, few_rows lim w' (counted (counters_of p)) moves.whole fit)

    -- by the sentence and the number of literals put on
    turned : (s k : ℕ) → ((propagated q).sentence ≡ s) × (put_on q ≡ k)
        → turns q total gone rest ≡ apart s (end_at s (total + k) gone (following q (propagating q))) (trying (following q (propagating q)) (total + k) gone rest)
    turned s k e =
        ap₂ {A = ℕ} {B = ℕ} (λ x y. apart x (end_at x (total + y) gone (following q (propagating q))) (trying (following q (propagating q)) (total + y) gone rest)) e.0 e.1

    pub reached_still : (n : ℕ) (k : t.Counters) → p ≡ Still n k → Reached lim w₀ w' (counted k) ls (total + n) (trying (area_state lim w') (total + n) gone rest)
    reached_still n k e =
        let v : (stop_returned p).value ≡ n = ap {A = Propagated} (λ y. (stop_returned y).value) e in
        subst (λ (y : t.Counters). Reached lim w₀ w' (counted y) ls (total + n) (trying (area_state lim w') (total + n) gone rest)) (ap {A = Propagated} counters_of e)
        (record {
          moved = moved_here (moved_twice g.moved moves) done;
          same =
              g.same
              ∙ turned 0 n (by_still (propagated q).sentence (put_on q) n (sym (ap {A = Propagated} stop_returned e) ∙ told))
              ∙ ap {A = State} (λ y. trying y (total + n) gone rest) (sym (state_after moves));
          few = omega (arith, after_few, v);
        })

    -- no answer but a conflict ends it
    pub ends_answer : SentenceNamed p → ((n : ℕ) (k : t.Counters) → ¬ (p ≡ Still n k)) → Ends lim w₀ w' ls (ended_by p total gone)
    ends_answer named d = go p told named d (moved_twice g.moved moves)
      where
        go : (y : Propagated) → stop_returned y ≡ returned_by (ended (propagated q).sentence (put_on q)) → SentenceNamed y → ((n : ℕ) (k : t.Counters) → ¬ (y ≡ Still n k))
            → Moved lim w₀ w' (counted (counters_of y)) (propagating q) → Ends lim w₀ w' ls (ended_by y total gone)
        go (Still n k) e named d m = absurd (d n k refl)
        go (Conflict k n v) e named d m =
            ends
            (g.same ∙ turned k.0 n (by_conflict (propagated q).sentence (put_on q) n k.0 named e)
            ∙ apart_conflict k.0 (end_at k.0 (total + n) gone (following q (propagating q))) (trying (following q (propagating q)) (total + n) gone rest) named)
            refl (moved_as m refl refl)

-- the end that propagate's answer makes names its sentence as the answer does
pub named_end : (p : Propagated) (total gone : ℕ) → SentenceNamed p → Named (ended_by p total gone).sentence
named_end (Still n k) total gone h = tt
named_end (Conflict s n k) total gone h = h

-- ---- the next literal

module _ (lim : Limits) {w₀ w : List ℕ} {c : t.Counters} {ls : List ℤ} {total start : ℕ}
    (g : Reached lim w₀ w (counted c) ls total (trying (area_state lim w) total start (drop start ls))) where
  pub ends_list : PassedTo (area_state lim w) ls start (length ls) → Ends lim w₀ w ls (unopposed_with total (length ls) c)
  ends_list o = ends_here (length ls) g (o.passed total ∙ try_past (area_state lim w) ls (length ls) total (omega arith))

  module _ {j : ℕ} (o : NextIs (area_state lim w) ls start (Some j)) (w' : List ℕ) where
    pub ends_level : LevelRefused lim w w' → Ends lim w₀ w' ls (unopposed_with total j c)
    ends_level f =
        let e = o.0.passed total ∙ try_highest (area_state lim w) ls j total o.1 o.2 f.highest in
        ends (g.same ∙ e) refl
        (subst (λ (v : List ℕ). Moved lim w₀ v (counted c) (search_ended (end_at 0 total j (area_state lim w)))) (sym f.area_same)
        (moved_here g.moved (searched 0 total j)))

    pub reached_given : (d : t.Counters) → LiteralGiven lim w w' (counted c) (counted d) (nth ls j)
        → Reached lim w₀ w' (counted d) ls total (turns (area_state lim w') total (j + 1) (drop (j + 1) ls))
    reached_given d f =
        let e : suc j ≡ j + 1 = omega arith in
        record {
          moved = moved_here (moved_twice g.moved f.moved) done;
          same =
              g.same ∙ o.0.passed total ∙ try_open (area_state lim w) ls j total o.1 o.2 f.below
              ∙ ap {A = State} (λ y. turns y total (suc j) (drop (suc j) ls)) (sym (state_after f.moved))
              ∙ ap {A = ℕ} (λ k. turns (area_state lim w') total k (drop k ls)) e;
          few = omega (arith, g.few, f.longer);
        }
