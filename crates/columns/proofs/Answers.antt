-- Load's answer by what was found: 1, else 2, else that of the sentences.
use mathlib.Core.Path.{◌≡◌, sym, ap, ◌∙◌}
use mathlib.Core.Bool.{Bool, true, false, not, ◌||◌}
use Prim.Native.Nat.{ℕ, ◌+◌, ◌<◌, ◌≤◌}
use native.Mathlib.Omega.{arith}
use lib.ListN.{length}
use borrow.Author.Tests.{lt-ltb, le-ltb}
use Rattle.types.specs.declared.Limits.{Limits}
use Rattle.columns.specs.declared.Fault.{Fault}
use Rattle.columns.specs.declared.Fault.TheVariants.{Unknown, Strange, OutOfRange, OwnHead, BothSigns, TooGreat}
use Rattle.columns.specs.declared.Refusal.{Refusal}
use Rattle.columns.specs.declared.Refusal.TheVariants.{Misshapen, TooShort, Faulty}
use Rattle.columns.specs.Columns.{Columns, written_at, all_written}
use Rattle.columns.specs.Refusals.{misshapen, columns_need, all_refusals, first_refusal, load_answer}
use Rattle.columns.specs.Indexed.{sizes, unequal_sizes, sentence_code}
use Rattle.columns.specs.Answers.{fault_code, refusal_answer}
use Rattle.columns.proofs.Walk.{answer_from, from_here}
use Rattle.decide.proofs.Below.{or_left, or_right}
use Rattle.columns.specs.Decides.{answer}
use Rattle.columns.proofs.Shapes.{limits_passed, counts_add_up, misshapen_is}

module _ (lim : Limits) (n : ℕ) (c : Columns) where
  pub shape_limits : limits_passed lim n c ≡ true → misshapen lim n c ≡ true
  shape_limits e = misshapen_is lim n c ∙ rw e

  pub shape_unequal : unequal_sizes (sizes c) ≡ true → misshapen lim n c ≡ true
  shape_unequal e =
      misshapen_is lim n c ∙ or_left (limits_passed lim n c || unequal_sizes (sizes c)) (not (counts_add_up c)) (or_right (limits_passed lim n c) (unequal_sizes (sizes c)) e)

  pub shape_sum : counts_add_up c ≡ false → misshapen lim n c ≡ true
  shape_sum e = misshapen_is lim n c ∙ or_right (limits_passed lim n c || unequal_sizes (sizes c)) (not (counts_add_up c)) (ap {A = Bool} not e)

  pub in_shape : limits_passed lim n c ≡ false → unequal_sizes (sizes c) ≡ false → counts_add_up c ≡ true → misshapen lim n c ≡ false
  in_shape d e f = misshapen_is lim n c ∙ rw (d, e, f)

-- a refusal's number is not 0
fault_some : (f : Fault) → fault_code f ≡ 0 → ⊥
fault_some f = elim f as (λ f. fault_code f ≡ 0 → ⊥) [ Unknown ↦ λ e. omega arith | Strange ↦ λ e. omega arith | OutOfRange ↦ λ e. omega arith | OwnHead ↦ λ e. omega arith | BothSigns ↦ λ e. omega arith | TooGreat ↦ λ e. omega arith ]

pub refusal_some : (r : Refusal) → (refusal_answer r).code ≡ 0 → ⊥
refusal_some r = elim r as (λ r. (refusal_answer r).code ≡ 0 → ⊥) [ Misshapen ↦ λ e. omega arith | TooShort ↦ λ e. omega arith | Faulty k fault ↦ fault_some fault ]

-- sentence s is refused for the fault that its code tells
pub sentence_refused : (lim : Limits) (n : ℕ) (c : Columns) (s : ℕ) (fault : Fault) → s < length c.heads → fault_code fault ≡ sentence_code lim n (written_at c s)
    → answer_from lim n c s ≡ answer (fault_code fault) (s + 1)
sentence_refused lim n c s fault l e = from_here lim n c s l (λ z. fault_some fault (e ∙ z)) ∙ ap (λ k. answer k (s + 1)) (sym e)

module _ (lim : Limits) (words n : ℕ) (c : Columns) where
  pub answer_1 : misshapen lim n c ≡ true → answer 1 0 ≡ load_answer lim words n c
  unfolding first_refusal
  answer_1 e = rw e

  pub answer_2 : misshapen lim n c ≡ false → words < columns_need n c → answer 2 0 ≡ load_answer lim words n c
  unfolding first_refusal
  answer_2 e h = rw (e, lt-ltb words (columns_need n c) h)

  pub answer_rest : misshapen lim n c ≡ false → columns_need n c ≤ words → first_refusal (all_refusals lim n 1 (all_written c)) ≡ load_answer lim words n c
  unfolding first_refusal
  answer_rest e h = rw (e, le-ltb words (columns_need n c) h)
