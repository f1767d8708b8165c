-- What an accepted load has: no refusal applies, so the columns belong together, the area is long enough and every sentence passes. The
-- answer of the sentences from s on stays 0 as s grows, and a sentence whose code is not 0 would be the answer.
use mathlib.Core.Path.{◌≡◌, refl, sym, ap, ◌∙◌}
use mathlib.Core.Bool.{true, false}
use mathlib.Core.Logic.{⊎_elim}
use Prim.Native.Nat.{ℕ, zero, suc, ◌+◌, ◌<◌, ◌≤◌}
use native.Mathlib.Omega.{arith}
use lib.Dec.{eqb}
use lib.ListN.{length}
use borrow.Author.Tests.{eqb-true, eqb-false}
use Rattle.types.specs.declared.Limits.{Limits}
use Rattle.numbers.proofs.Words.{cases}
use Rattle.meaning.proofs.Orders.{is_true, is_false}
use Rattle.decide.specs.Below.{sum_first}
use Rattle.meaning.specs.Meaning.{Sentence, Each}
use Rattle.columns.specs.Columns.{Columns, Written, written_at, written_from, all_written, sentence_of, sentences_in}
use Rattle.columns.specs.Refusals.{misshapen, columns_need, load_answer}
use Rattle.columns.specs.Indexed.{sentence_code, Passes}
use Rattle.columns.specs.declared.Answer.{Answer}
use Rattle.columns.specs.Decides.{Accepted}
use Rattle.columns.proofs.Codes.{code_passes}
use Rattle.columns.proofs.Shapes.{shaped, inside}
use Rattle.columns.proofs.Walk.{answer_from, from_first, from_here, from_later}
use Rattle.columns.proofs.Answers.{answer_1, answer_2, answer_rest}

module _ (lim : Limits) (n : ℕ) (c : Columns) where
  abbrev code_at : ℕ → ℕ
  code_at s = sentence_code lim n (written_at c s)

  code_zero : (s : ℕ) → s < length c.heads → (answer_from lim n c s).code ≡ 0 → code_at s ≡ 0
  code_zero s l z = elim (eqb (code_at s) 0) as (λ b. eqb (code_at s) 0 ≡ b → code_at s ≡ 0) [
    | true ↦ eqb-true (code_at s) 0
    | false ↦ λ e. let d : code_at s ≡ 0 → ⊥ = eqb-false (code_at s) 0 e in absurd (d (sym (ap (λ (a : Answer). a.code) (from_here lim n c s l d)) ∙ z))
  ]
      refl

  stays_zero : (s : ℕ) → s ≤ length c.heads → (answer_from lim n c 0).code ≡ 0 → (answer_from lim n c s).code ≡ 0
  stays_zero zero l z = z
  stays_zero (suc s) l z =
      let e : s + 1 ≡ suc s = omega arith in
      let y = stays_zero s (omega arith) z in
      ap {A = ℕ} (λ k. (answer_from lim n c k).code) (sym e)
      ∙ sym (ap (λ (a : Answer). a.code) (from_later lim n c s (omega arith) (code_zero s (omega arith) y))) ∙ y

module _ (lim : Limits) (words n : ℕ) (c : Columns) (z : (load_answer lim words n c).code ≡ 0) where
  shape_holds : misshapen lim n c ≡ false
  shape_holds = is_false (λ t. let w : 1 ≡ (load_answer lim words n c).code = ap (λ (a : Answer). a.code) (answer_1 lim words n c (is_true t)) in omega arith)

  need_holds : columns_need n c ≤ words
  need_holds = ⊎_elim (λ (p : columns_need n c ≤ words). p)
      (λ (p : words < columns_need n c). let w : 2 ≡ (load_answer lim words n c).code = ap (λ (a : Answer). a.code) (answer_2 lim words n c shape_holds p) in absurd (omega arith))
      (cases words (columns_need n c))

  sentences_pass : (s : ℕ) → s < length c.heads → Passes lim n (written_at c s)
  sentences_pass s l =
      let start : (answer_from lim n c 0).code ≡ 0 = ap (λ (a : Answer). a.code) (sym (from_first lim n c 0 refl) ∙ answer_rest lim words n c shape_holds need_holds) ∙ z in
      code_passes lim n (written_at c s) (code_zero lim n c s l (stays_zero lim n c s (omega arith) start))

  pub accepted : Accepted lim words n c
  accepted =
      let h = shaped lim n c shape_holds in
      record {
        in_shape = shape_holds;
        enough = need_holds;
        passes = sentences_pass;
        shape = h;
        entries_within = λ s l. (inside lim n c s (sum_first c.counts s) h l refl).weights;
      }

-- what every sentence that passes has, all of the columns have

each_from : (P : Sentence → Type 0) (c : Columns) (s k : ℕ) → ((i : ℕ) → i < s + k → P (sentence_of (written_at c i)))
    → Each P (sentences_in (written_from c s k))
unfolding written_from sentences_in
each_from P c s zero h = tt
each_from P c s (suc k) h = (h s (omega arith), each_from P c (suc s) k (λ i l. h i (omega arith)))

pub each_accepted : (P : Sentence → Type 0) (lim : Limits) (words n : ℕ) (c : Columns) → (load_answer lim words n c).code ≡ 0
    → ((x : Written) → Passes lim n x → P (sentence_of x)) → Each P (sentences_in (all_written c))
each_accepted P lim words n c z f = each_from P c 0 (length c.heads) (λ i l. f (written_at c i) ((accepted lim words n c z).passes i (omega arith)))
