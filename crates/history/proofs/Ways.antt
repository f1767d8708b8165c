-- What a call that keeps its public contract does where the area that it gets is not whole, and where it is: 9 with nothing changed, or the
-- table's reply at the area's own state.
use mathlib.Core.Path.{◌≡◌, refl, sym, ap, ◌∙◌, subst}
use mathlib.Core.Bool.{Bool, true, not, ◌||◌}
use mathlib.Core.List.{List}
use Prim.Native.Nat.{ℕ}
use lib.ListN.{length}
use lib.Dec.{T, eqb}
use Rattle.types.specs.declared.Limits.{Limits}
use Rattle.types.specs.declared.Counters as t
use Rattle.book.specs.Rows.{up_to}
use Rattle.book.specs.Table.{Step, Call, a_step, a_report, bounds_of, listed, Answer, refused, done, still, conflict_in, searched, reported, Returned, returned_by, State, unchanged, reply}
use Rattle.book.specs.Book.{Counters}
use Rattle.book.proofs.Tests.{either}
use Rattle.area.specs.Layout.{level_of, rows_of}
use Rattle.area.specs.Whole.{Whole}
use Rattle.calls.specs.Calls.{counted, area_state, is_refusal, idle, unmoved, Moved, Acts}
use Rattle.give.proofs.Moves.{stays}
use Rattle.history.specs.History.{Event, counters_held, HandsBack, Called, by_step, by_report}
use Rattle.history.proofs.Replies.{lists_nothing, reports_nothing, reply_kept}

-- what the book is fed
pub asked_is : {lim : Limits} {w w' : List ℕ} {c d c' : t.Counters} {e : Event} → Called lim w c d w' e c'
    → e.asked ≡ record { call = e.asked.call; size = length w; counters = counted d }
asked_is (by_step x p c' a) = refl
asked_is (by_report x p old new a) = refl

-- ---- the counters that the caller then holds

held_moved : (c c' : t.Counters) (a : Answer) (b : Bool) → T (not (is_refusal a || b)) → counters_held (returned_by a) c c' ≡ c'
held_moved c c' (refused k n) b t = absurd t
held_moved c c' done b t = refl
held_moved c c' (still n) b t = refl
held_moved c c' (conflict_in k n) b t = refl
held_moved c c' (searched k n g) b t = refl
held_moved c c' (reported (bounds_of v w)) b t = refl
held_moved c c' (reported (listed ls)) b t = refl

-- ---- not whole: 9, and nothing is changed

pub record Untouched (w : List ℕ) (c : t.Counters) (w' : List ℕ) (e : Event) (c' : t.Counters) : Type 0 where
  pub area : w' ≡ w
  pub counters : c' ≡ c
  pub told : HandsBack e (refused 9 0)

pub called_broken : {lim : Limits} {w w' : List ℕ} {c d c' : t.Counters} {e : Event} → ¬ (Whole lim w (counted d)) → Called lim w c d w' e c' → Untouched w c w' e c'
called_broken {c = c} b (by_step x p c' a) =
    let e = a.answer.broken b in
    record { area = (a.broken b).0; counters = ap {A = Returned} (λ y. counters_held y c c') e; told = record { numbers = e; list = refl } }
called_broken b (by_report x p old new a) = record { area = refl; counters = refl; told = record { numbers = a.answer.broken b; list = a.broken b } }

-- ---- whole with the counters that the call got, and with those that the caller held

pub record Replied (lim : Limits) (w w' : List ℕ) (e : Event) (c' : t.Counters) : Type 0 where
  pub told : HandsBack e (reply (area_state lim w) e.asked.call).answer
  pub moved : Moved lim w w' (counted c') (reply (area_state lim w) e.asked.call)

module _ (lim : Limits) (w : List ℕ) (c d : t.Counters) (h : Whole lim w (counted c)) (g : Whole lim w (counted d)) (all : up_to (level_of w) (rows_of w) ≡ rows_of w) where
  abbrev q : State
  q = area_state lim w

  stayed : (x : Call) (k : Counters) → Whole lim w k → reply q x ≡ unchanged q (reply q x).answer → Moved lim w w k (reply q x)
  stayed x k v e = subst (Moved lim w w k) (sym e) (stays lim w k v (reply q x).answer)

  -- kept, the area is whole with whichever counters are held
  held_whole : (p : Returned) (c' : t.Counters) → counted c' ≡ counted d → Whole lim w (counted (counters_held p c c'))
  held_whole p c' e = either (λ k. Whole lim w (counted k)) (eqb p.code 0) (λ _. subst (Whole lim w) (sym e) g) (λ _. h)

  acts_moves : (w' : List ℕ) (x : Step) (p : Returned) (c' : t.Counters) → Acts lim w w' (counted d) (counted c') x p
      → Moved lim w w' (counted (counters_held p c c')) (reply q (a_step x))
  acts_moves w' x p c' a =
      either (λ (b : Bool). Moved lim w w' (counted (counters_held p c c')) (reply q (a_step x))) (unmoved q x) {x = true} {y = true}
      (λ t. subst (λ v. Moved lim w v (counted (counters_held p c c')) (reply q (a_step x))) (sym (a.kept g t).0)
      (stayed (a_step x) (counted (counters_held p c c')) (held_whole p c' (a.kept g t).1) (reply_kept q all x t)))
      (λ t. subst (λ k. Moved lim w w' (counted k) (reply q (a_step x)))
      (sym (ap {A = Returned} (λ y. counters_held y c c') (a.answer.told g) ∙ held_moved c c' (reply q (a_step x)).answer (idle q x) t)) (a.moved g t))

  pub called_whole : {w' : List ℕ} {c' : t.Counters} {e : Event} → Called lim w c d w' e c' → Replied lim w w' e c'
  called_whole (by_step {w' = w'} x p c' a) =
      record { told = record { numbers = a.answer.told g; list = sym (lists_nothing q x) }; moved = acts_moves w' x p c' a }
  called_whole (by_report x p old new a) = record {
    told = record { numbers = a.answer.told g; list = a.written g };
    moved = stayed (a_report x (length old)) (counted c) h (reports_nothing q x (length old));
  }
