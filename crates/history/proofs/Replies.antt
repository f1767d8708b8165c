-- What every reply of the table has, at any state: a step hands back no list; 9 where the area is broken; and nothing changed where a step
-- keeps the area, or at a report.
use mathlib.Core.Path.{◌≡◌, refl, ap, ◌∙◌}
use mathlib.Core.Bool.{Bool, true, false, cond, ◌||◌}
use mathlib.Core.List.{List, []}
use Prim.Native.Nat.{ℕ, zero, suc}
use lib.Dec.{T, T_not, eqb→eq}
use Rattle.book.specs.Rows.{Row, up_to}
use Rattle.book.specs.Table.{Step, give, open_level, take_back, propagate, search, Report, Call, a_step, a_report, refused, done, list_after, State, propagated, put_on, refusals, Outcome, unchanged, ended, step_effect, effect, decided, reply}
use Rattle.book.proofs.Tests.{reply_is}
use Rattle.calls.specs.Calls.{is_refusal, idle, unmoved}
use Rattle.propagate.proofs.Ending.{not_refused}

ended_lists_nothing : (k n : ℕ) → list_after (ended k n) [] ≡ []
ended_lists_nothing zero n = refl
ended_lists_nothing (suc k) n = refl

module _ (q : State) where
  effect_lists_nothing : (x : Step) → list_after (step_effect q x).answer [] ≡ []
  effect_lists_nothing (give l) = refl
  effect_lists_nothing open_level = refl
  effect_lists_nothing (take_back k) = refl
  effect_lists_nothing propagate = ended_lists_nothing (propagated q).sentence (put_on q)
  effect_lists_nothing (search ls) = refl

  pub lists_nothing : (x : Step) → list_after (reply q (a_step x)).answer [] ≡ []
  lists_nothing x = reply_is (λ o. list_after o.answer [] ≡ []) q (a_step x) (λ c n. refl) (λ p. effect_lists_nothing x)

  -- ---- 9

  pub nine : (x : Call) → q.broken ≡ true → reply q x ≡ unchanged q (refused 9 0)
  unfolding reply
  nine x e = ap {A = Bool} (λ b. cond b (unchanged q (refused 9 0)) (decided q (refusals q x) (effect q x))) e

  -- ---- nothing changed

  pub reports_nothing : (x : Report) (room : ℕ) → reply q (a_report x room) ≡ unchanged q (reply q (a_report x room)).answer
  reports_nothing x room = reply_is (λ o. o ≡ unchanged q o.answer) q (a_report x room) (λ c n. refl) (λ p. refl)

  module _ (all : up_to q.level q.rows ≡ q.rows) where
    effect_kept : (x : Step) → T (is_refusal (step_effect q x).answer || idle q x) → step_effect q x ≡ unchanged q (step_effect q x).answer
    effect_kept (give l) t = absurd t
    effect_kept open_level t = absurd t
    effect_kept (take_back k) t =
        ap {A = ℕ} {B = Outcome} (λ v. record { answer = done; level = v; rows = up_to v q.rows }) (eqb→eq k q.level t)
        ∙ ap {A = List Row} {B = Outcome} (λ rs. record { answer = done; level = q.level; rows = rs }) all
    effect_kept propagate t = absurd (T_not (is_refusal (ended (propagated q).sentence (put_on q)) || false) (not_refused (propagated q).sentence (put_on q)) t)
    effect_kept (search ls) t = absurd t

    pub reply_kept : (x : Step) → T (unmoved q x) → reply q (a_step x) ≡ unchanged q (reply q (a_step x)).answer
    reply_kept x = reply_is (λ o. T (is_refusal o.answer || idle q x) → o ≡ unchanged q o.answer) q (a_step x) (λ c n t. refl) (λ p. effect_kept x)
