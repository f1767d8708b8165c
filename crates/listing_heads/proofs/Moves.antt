-- What a call leaves of the area is the table's next state: a give that is refused changes nothing. And one head more.
use mathlib.Core.Path.{◌≡◌, refl, sym, ap, ap₂, subst, ◌∙◌}
use mathlib.Core.Bool.{Bool, true, false, not, cond, ◌||◌}
use mathlib.Core.List.{List}
use Prim.Native.Nat.{ℕ, suc, ◌+◌}
use native.Mathlib.Omega.{arith}
use native.Mathlib.Numerals.{add-one}
use lib.ListN.{length}
use lib.IntN.{ℤ, pos}
use lib.Dec.{T}
use Rattle.std.specs.Prelude.{Result, Ok, Err}
use Rattle.std.specs.Result.{result_unwrap_or}
use Rattle.types.specs.Limits.{document}
use Rattle.types.specs.declared.Counters as t
use Rattle.meaning.specs.Meaning.{atom}
use Rattle.book.specs.Rows.{Row}
use Rattle.book.specs.Table.{Call, give, a_step, refused, done, Returned, State, Outcome, unchanged, no_atom, on_trail, effect, reply, following, following_call}
use Rattle.book.specs.Book.{Counters}
use Rattle.area.specs.Whole.{Whole}
use Rattle.calls.specs.declared.Refusal.{Refusal}
use Rattle.calls.specs.Calls.{area_state, counted, counters_after, is_refusal, unmoved, Moved, Acts}
use Rattle.give.proofs.Moves.{state_after}
use Rattle.listing_heads.specs.Heads.{heads_given, start, IsWhole, HeadsGiven}

-- the area after a call, as a state of the table
pub record Next (w w' : List ℕ) (c' : Counters) (x : Call) : Type 0 where
  pub whole : Whole document w' c'
  pub state : area_state document w' ≡ following_call (area_state document w) x
  pub size : length w' ≡ length w

pub moved_next : {w w' : List ℕ} {c' : Counters} (x : Call) → Moved document w w' c' (reply (area_state document w) x) → Next w w' c' x
moved_next {w} {w'} {c'} x m = record { whole = m.whole; state = state_after m; size = m.size }

-- ---- give

refused_same :
    (q : State) (e : Outcome) (a b : Bool) → is_refusal e.answer ≡ false → (o : Outcome) →
    o ≡ cond a (unchanged q (refused 10 0)) (cond b (unchanged q (refused 11 0)) e) → T (is_refusal o.answer || false) → (o.level ≡ q.level) × (o.rows ≡ q.rows)
refused_same q e true b n o s t = (ap (λ (y : Outcome). y.level) s, ap (λ (y : Outcome). y.rows) s)
refused_same q e false true n o s t = (ap (λ (y : Outcome). y.level) s, ap (λ (y : Outcome). y.rows) s)
refused_same q e false false n o s t = absurd (subst (λ (y : Bool). T (y || false)) (ap (λ (y : Outcome). is_refusal y.answer) s ∙ n) t)

give_kept : (w : List ℕ) (l : ℤ) → T (unmoved (area_state document w) (give l)) → area_state document w ≡ following_call (area_state document w) (a_step (give l))
unfolding reply
give_kept w l t =
    let q : State = area_state document w in
    let s = refused_same q (effect q (a_step (give l))) (no_atom q l) (on_trail q (atom l)) refl (reply q (a_step (give l))) refl t in
    ap₂ (λ (v : ℕ) (rows : List Row). following q (record { answer = done; level = v; rows = rows })) (sym s.0) (sym s.1)

pub give_next : {w w' : List ℕ} {c c' : Counters} (l : ℤ) {p : Returned} → Whole document w c → Acts document w w' c c' (give l) p → Next w w' c' (a_step (give l))
give_next {w} {w'} {c} {c'} l h a = by (unmoved (area_state document w) (give l)) refl
  where
    kept : T (unmoved (area_state document w) (give l)) → (w' ≡ w) × (c' ≡ c) → Next w w' c' (a_step (give l))
    kept t e = record {
      whole = subst (λ (d : Counters). Whole document w' d) (sym e.1) (subst (λ (v : List ℕ). Whole document v c) (sym e.0) h);
      state = ap (area_state document) e.0 ∙ give_kept w l t;
      size = ap length e.0;
    }

    by : (b : Bool) → b ≡ unmoved (area_state document w) (give l) → Next w w' c' (a_step (give l))
    by true e = let t : T (unmoved (area_state document w) (give l)) = subst T e tt in kept t (a.kept h t)
    by false e = moved_next (a_step (give l)) (a.moved h (subst (λ (b : Bool). T (not b)) e tt))

-- ---- one head more

pub heads_none : (w : List ℕ) (v : ℕ) → IsWhole w start → HeadsGiven w w v 0 start
unfolding heads_given
heads_none w v h = record { stands = record { whole = h; state = refl }; size = refl }

-- the counters that the caller goes on with
went_on : (c : t.Counters) (r : Result t.Counters Refusal) → result_unwrap_or r c ≡ counters_after c r
went_on c (Ok d) = refl
went_on c (Err e) = refl

pub heads_more :
    {w w₁ w₂ : List ℕ} {v k : ℕ} {c d : t.Counters} {p : Returned} (l : ℤ) (r : Result t.Counters Refusal) → l ≡ pos (v + k + 1) → d ≡ result_unwrap_or r c →
    HeadsGiven w w₁ v k c → Acts document w₁ w₂ (counted c) (counted (counters_after c r)) (give l) p → HeadsGiven w w₂ v (k + 1) d
unfolding heads_given
heads_more {w} {w₁} {w₂} {v} {k} {c} {d} l r e s g a =
    let n = give_next l g.stands.whole a in
    let f : v + k + 1 ≡ v + suc k = omega arith in
    record {
      stands = record {
        whole = subst (IsWhole w₂) (sym (s ∙ went_on c r)) n.whole;
        state = n.state
            ∙ ap₂ (λ (q : State) (m : ℤ). following_call q (a_step (give m))) g.stands.state (e ∙ ap pos f)
            ∙ ap (heads_given (area_state document w) v) (sym (add-one k));
      };
      size = n.size ∙ g.size;
    }

pub heads_all : {w w' : List ℕ} {v k m : ℕ} {c : t.Counters} → k ≡ m → HeadsGiven w w' v k c → HeadsGiven w w' v m c
heads_all {w} {w'} {v} {k} {m} {c} e g = subst (λ (j : ℕ). HeadsGiven w w' v j c) e g
