-- The answer of the sentences from s on: that of sentence s where its code is not 0, or else that of the sentences behind it. And the
-- sentence that a turn of the loop lends, part by part, is sentence s of the columns.
use mathlib.Core.Path.{◌≡◌, refl, ap, ◌∙◌}
use mathlib.Core.List.{List, [], ◌∷◌}
use Prim.Native.Nat.{ℕ, zero, suc, ◌+◌, ◌-◌, ◌<◌}
use native.Mathlib.Omega.{arith}
use lib.IntN.{ℤ}
use lib.ListN.{length, get_or, take, drop, length-take, length-drop}
use lib.Seq.{slice}
use Rattle.types.specs.declared.Limits.{Limits}
use Rattle.decide.specs.Below.{sum_first}
use Rattle.columns.specs.Columns.{Columns, written_at, written_from}
use Rattle.columns.specs.Refusals.{all_refusals, first_refusal}
use Rattle.columns.specs.Indexed.{nth, column_code, sentence_code}
use Rattle.columns.specs.declared.Answer.{Answer}
use Rattle.columns.specs.Decides.{answer}
use Rattle.columns.proofs.Codes.{here, later}
use Rattle.columns.proofs.Written.{column_code_is}

-- of the sentences from s on, the first of which has number k
abbrev behind : Limits → ℕ → Columns → ℕ → ℕ → ℕ → Answer
behind lim n c k s left = first_refusal (all_refusals lim n k (written_from c s left))

abbrev pub answer_from : Limits → ℕ → Columns → ℕ → Answer
answer_from lim n c s = behind lim n c (s + 1) s (length c.heads - s)

same_place : (lim : Limits) (n : ℕ) (c : Columns) (k k' s s' m m' : ℕ) → k ≡ k' → s ≡ s' → m ≡ m' → behind lim n c k s m ≡ behind lim n c k' s' m'
same_place lim n c k k' s s' m m' p q r =
    ap {A = ℕ} (λ x. behind lim n c x s m) p ∙ ap {A = ℕ} (λ x. behind lim n c k' x m) q ∙ ap {A = ℕ} (λ x. behind lim n c k' s' x) r

module _ (lim : Limits) (n : ℕ) (c : Columns) (s : ℕ) where
  pub from_first : s ≡ 0 → first_refusal (all_refusals lim n 1 (written_from c 0 (length c.heads))) ≡ answer_from lim n c s
  from_first e = same_place lim n c 1 (s + 1) 0 s (length c.heads) (length c.heads - s) (omega arith) (omega arith) (omega arith)

  step_here : (left : ℕ) → (sentence_code lim n (written_at c s) ≡ 0 → ⊥) → behind lim n c (s + 1) s (suc left) ≡ answer (sentence_code lim n (written_at c s)) (s + 1)
  unfolding written_from all_refusals
  step_here left e = here lim n (written_at c s) (s + 1) (all_refusals lim n (suc (s + 1)) (written_from c (suc s) left)) e

  step_later : (left : ℕ) → sentence_code lim n (written_at c s) ≡ 0 → behind lim n c (s + 1) s (suc left) ≡ behind lim n c (suc (s + 1)) (suc s) left
  unfolding written_from all_refusals
  step_later left e = later lim n (written_at c s) (s + 1) (all_refusals lim n (suc (s + 1)) (written_from c (suc s) left)) e

  module _ (l : s < length c.heads) where
    one_less : answer_from lim n c s ≡ behind lim n c (s + 1) s (suc (length c.heads - (s + 1)))
    one_less = same_place lim n c (s + 1) (s + 1) s s (length c.heads - s) (suc (length c.heads - (s + 1))) refl refl (omega arith)

    pub from_here : (sentence_code lim n (written_at c s) ≡ 0 → ⊥) → answer_from lim n c s ≡ answer (sentence_code lim n (written_at c s)) (s + 1)
    from_here e = one_less ∙ step_here (length c.heads - (s + 1)) e

    pub from_later : sentence_code lim n (written_at c s) ≡ 0 → answer_from lim n c s ≡ answer_from lim n c (s + 1)
    from_later e = one_less ∙ step_later (length c.heads - (s + 1)) e
        ∙ same_place lim n c (suc (s + 1)) (s + 1 + 1) (suc s) (s + 1) (length c.heads - (s + 1)) (length c.heads - (s + 1)) (omega arith) (omega arith) refl

  pub from_none : s ≡ length c.heads → answer_from lim n c s ≡ answer 0 0
  unfolding written_from all_refusals first_refusal
  from_none e = same_place lim n c (s + 1) (s + 1) s s (length c.heads - s) 0 refl refl (omega arith)

-- ---- parts

pub part_is : (f m t : ℕ) (l : List ℤ) → t ≡ f + m → take m (drop f l) ≡ slice f t l
part_is zero m t l e = let q : m ≡ t = omega arith in ap {A = ℕ} (λ k. take k l) q
part_is (suc f) m zero l e = let b : ⊥ = omega arith in absurd b
part_is (suc f) zero (suc t) [] e = refl
part_is (suc f) (suc m) (suc t) [] e = refl
part_is (suc f) m (suc t) (x ∷ xs) e = part_is f m t xs (omega arith)

parts_alike : (f m : ℕ) (ws ls : List ℤ) → length ls ≡ length ws → length (take m (drop f ws)) ≡ length (take m (drop f ls))
parts_alike f m ws ls e = simp (length-take, length-drop, e)

-- the code by the parts that a turn of the loop lends
pub same_sentence : (lim : Limits) (n : ℕ) (c : Columns) (s : ℕ) (z : ℤ) (f m : ℕ) → z ≡ nth c.bounds s → f ≡ sum_first c.counts s → m ≡ get_or c.counts s 0
    → length c.literals ≡ length c.weights
    → column_code lim n (get_or c.heads s 0) (get_or c.kinds s 0) (get_or c.sides s 0) z (take m (drop f c.weights)) (take m (drop f c.literals))
    ≡ sentence_code lim n (written_at c s)
same_sentence lim n c s z f m p q r e =
    column_code_is lim n (get_or c.heads s 0) (get_or c.kinds s 0) (get_or c.sides s 0) z (take m (drop f c.weights))
    (take m (drop f c.literals)) (parts_alike f m c.weights c.literals e)
    ∙ rw (p, part c.weights, part c.literals)
  where
    part : (column : List ℤ) → take m (drop f column) ≡ slice (sum_first c.counts s) (sum_first c.counts s + get_or c.counts s 0) column
    part column = rw (q, r) (part_is (sum_first c.counts s) (get_or c.counts s 0) (sum_first c.counts s + get_or c.counts s 0) column refl)
