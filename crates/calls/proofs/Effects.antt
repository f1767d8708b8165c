-- A call whose code is 0 has its effect, since no refusal has the number 0; and a list that is handed back with it is the table's result,
-- which stands in front.
use mathlib.Core.Path.{◌≡◌, refl, sym, ap, ap₂, ◌∙◌}
use mathlib.Core.Bool.{Bool, true, false, cond}
use mathlib.Core.List.{List, [], ◌∷◌}
use Prim.Native.Nat.{ℕ}
use native.Mathlib.Omega.{arith}
use lib.ListN.{length, take, drop}
use lib.Seq.{take-append_seam}
use lib.IntN.{ℤ}
use Rattle.types.specs.declared.Limits.{Limits}
use Rattle.meaning.specs.Meaning.{Each}
use Rattle.book.specs.Table.{Step, give, open_level, take_back, propagate, search, Report, bounds, explain, explain_conflict, origin, list_trail, Call, a_step, a_report, Result, bounds_of, listed, Answer, refused, reported, list_of, Returned, returned_by, list_after, State, result_of, Refusal, refuse_if, step_refusals, refusals, Outcome, unchanged, effect, decided, reply}
use Rattle.book.specs.Book.{Counters}
use Rattle.area.specs.Whole.{Whole}
use Rattle.calls.specs.Calls.{area_state, Reports}

-- ---- the code 0

module _ (q : State) where
  abbrev Coded : Refusal → Type 0
  Coded r = ¬ (r.code ≡ 0)

  steps_coded : (x : Step) → Each Coded (step_refusals q x)
  steps_coded (give l) = ((λ e. omega arith), ((λ e. omega arith), tt))
  steps_coded open_level = ((λ e. omega arith), tt)
  steps_coded (take_back k) = ((λ e. omega arith), tt)
  steps_coded propagate = tt
  steps_coded (search ls) = ((λ e. omega arith), tt)

  own_coded : (x : Report) (room : ℕ) → Each Coded (refusals q (a_report x room))
  own_coded (bounds k) room = ((λ e. omega arith), ((λ e. omega arith), tt))
  own_coded (explain l) room = ((λ e. omega arith), ((λ e. omega arith), ((λ e. omega arith), ((λ e. omega arith), tt))))
  own_coded (explain_conflict k) room = ((λ e. omega arith), ((λ e. omega arith), ((λ e. omega arith), tt)))
  own_coded (origin l) room = ((λ e. omega arith), ((λ e. omega arith), ((λ e. omega arith), tt)))
  own_coded list_trail room = ((λ e. omega arith), tt)

  coded : (x : Call) → Each Coded (refusals q x)
  coded (a_step x) = steps_coded x
  coded (a_report x room) = own_coded x room

  abbrev by : Refusal → List Refusal → Outcome → Bool → Outcome
  by r rs o b = cond b (unchanged q (refused r.code r.value)) (decided q rs o)

  decided_effect : (rs : List Refusal) (o : Outcome) → Each Coded rs → (returned_by (decided q rs o).answer).code ≡ 0 → decided q rs o ≡ o
  decided_effect [] o h e = refl
  decided_effect (r ∷ rs) o h e = go r.applies (decided_effect rs o h.1) e
    where
      go : (b : Bool) → ((returned_by (decided q rs o).answer).code ≡ 0 → decided q rs o ≡ o) → (returned_by (by r rs o b).answer).code ≡ 0 → by r rs o b ≡ o
      go true ih e = absurd (h.0 e)
      go false ih e = ih e

  pub reply_effect : (x : Call) → (returned_by (reply q x).answer).code ≡ 0 → reply q x ≡ effect q x
  unfolding reply
  reply_effect x e = decided_effect (refuse_if 9 q.broken ∷ refusals q x) (effect q x) ((λ z. omega arith), coded x) e

-- ---- a list that is handed back

value_is : (r : Result) → (returned_by (reported r)).value ≡ length (list_of r)
value_is (bounds_of v w) = refl
value_is (listed ls) = refl

module _ (lim : Limits) (w : List ℕ) (c : Counters) (h : Whole lim w c) (x : Report) (old new : List ℤ) (p : Returned)
    (a : Reports lim w c x old new p) (z : p.code ≡ 0) where
  abbrev q : State
  q = area_state lim w

  abbrev ls : List ℤ
  ls = list_of (result_of q x)

  pub reported_here : (reply q (a_report x (length old))).answer ≡ reported (result_of q x)
  reported_here =
      ap {A = Outcome} (λ o. o.answer) (reply_effect q (a_report x (length old)) (ap {A = Returned} (λ p. p.code) (sym (a.answer.told h)) ∙ z))

  pub taken : take p.value new ≡ ls
  taken =
      let v : p.value ≡ length ls = ap {A = Returned} (λ p. p.value) (a.answer.told h) ∙ ap {A = Answer} (λ y. (returned_by y).value) reported_here ∙ value_is (result_of q x) in
      let l : new ≡ list_after (reported (result_of q x)) old = a.written h ∙ ap {A = Answer} (λ y. list_after y old) reported_here in
      ap₂ {A = ℕ} {B = List ℤ} take v l ∙ take-append_seam ls (drop (length ls) old)
