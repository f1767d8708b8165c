-- The ways out of a call that may change the area: 9 where it is not whole, an answer that keeps the words, and an answer that moves them.
-- What keeps does not move, so each way has one clause to show. And bounds as a report.
use mathlib.Core.Path.{◌≡◌, refl, sym, ap, subst}
use mathlib.Core.Bool.{not, ◌||◌}
use mathlib.Core.List.{List, []}
use Prim.Native.Nat.{ℕ}
use lib.Dec.{T, T_not}
use Rattle.types.specs.declared.Limits.{Limits}
use Rattle.book.specs.Table.{Step, bounds, Call, a_step, a_report, Answer, refused, Returned, returned_by, list_after, reply}
use Rattle.book.specs.Book.{Counters}
use Rattle.book.proofs.Tests.{reply_is}
use Rattle.area.specs.Whole.{Whole}
use Rattle.calls.specs.Calls.{area_state, is_refusal, idle, unmoved, Answered, Moved, Acts, Reports}

module _ (lim : Limits) (w : List ℕ) (c : Counters) (x : Call) (p : Returned) where
  pub answered_nine : ¬ (Whole lim w c) → p ≡ returned_by (refused 9 0) → Answered lim w c x p
  answered_nine n e = record { broken = λ _. e; told = λ h. absurd (n h) }

  pub answered_whole : Whole lim w c → p ≡ returned_by (reply (area_state lim w) x).answer → Answered lim w c x p
  answered_whole h e = record { broken = λ n. absurd (n h); told = λ _. e }

module _ (lim : Limits) (w : List ℕ) (c : Counters) (x : Step) (p : Returned) where
  pub acts_broken : ¬ (Whole lim w c) → p ≡ returned_by (refused 9 0) → Acts lim w w c c x p
  acts_broken b e = record {
    answer = answered_nine lim w c (a_step x) p b e;
    broken = λ _. (refl, refl);
    kept = λ _ _. (refl, refl);
    moved = λ h _. absurd (b h);
  }

  pub acts_kept : Whole lim w c → T (unmoved (area_state lim w) x) → p ≡ returned_by (reply (area_state lim w) (a_step x)).answer → Acts lim w w c c x p
  acts_kept h k e = record {
    answer = answered_whole lim w c (a_step x) p h e;
    broken = λ _. (refl, refl);
    kept = λ _ _. (refl, refl);
    moved = λ _ m. absurd (T_not (unmoved (area_state lim w) x) m k);
  }

  pub acts_moved : (w' : List ℕ) (c' : Counters) → Whole lim w c → T (not (unmoved (area_state lim w) x)) → p ≡ returned_by (reply (area_state lim w) (a_step x)).answer
      → Moved lim w w' c' (reply (area_state lim w) (a_step x)) → Acts lim w w' c c' x p
  acts_moved w' c' h m e v = record {
    answer = answered_whole lim w c (a_step x) p h e;
    broken = λ b. absurd (b h);
    kept = λ _ k. absurd (T_not (unmoved (area_state lim w) x) m k);
    moved = λ _ _. v;
  }

-- refused with no value
pub acts_refused : (lim : Limits) (w : List ℕ) (c : Counters) (x : Step) → Whole lim w c → (k : ℕ)
    → (reply (area_state lim w) (a_step x)).answer ≡ refused k 0 → Acts lim w w c c x (returned_by (refused k 0))
acts_refused lim w c x h k e =
    acts_kept lim w c x (returned_by (refused k 0)) h
    (subst (λ b. T b) (sym (ap {A = Answer} (λ a. is_refusal a || idle (area_state lim w) x) e)) tt) (sym (ap {A = Answer} returned_by e))

-- ---- a report that lends no list writes none

pub bounds_report : (lim : Limits) (w : List ℕ) (c : Counters) (k : ℕ) (p : Returned) → Answered lim w c (a_report (bounds k) 0) p → Reports lim w c (bounds k) [] [] p
bounds_report lim w c k p a = record {
  answer = a;
  broken = λ _. refl;
  written = λ _. reply_is (λ o. [] ≡ list_after o.answer []) (area_state lim w) (a_report (bounds k) 0) (λ i n. refl) (λ t. refl);
}
