-- Load in one number: its refusals name one of the sentences, of which there are few once the columns have passed refusal 1.
use mathlib.Core.Path.{◌≡◌, refl, sym, ap, subst}
use mathlib.Core.Bool.{Bool, true, false, cond}
use mathlib.Core.List.{List, [], ◌∷◌}
use Prim.Native.Nat.{ℕ, zero, suc, ◌+◌, ◌<◌, ◌≤◌}
use native.Mathlib.Omega.{arith}
use lib.ListN.{length}
use lib.Dec.{ltb}
use borrow.Author.Tests.{ltb-true, ltb-false}
use Rattle.types.specs.declared.Limits.{Limits}
use Rattle.types.specs.Limits.{Fitting}
use Rattle.meaning.specs.Meaning.{Each}
use Rattle.book.specs.Table.{Refusal}
use Rattle.columns.specs.Columns.{Columns, Written, written_from, all_written}
use Rattle.columns.specs.Refusals.{misshapen, columns_need, all_refusals, first_refusal, load_answer}
use Rattle.columns.specs.Answers.{refusal_answer}
use Rattle.columns.specs.declared.Answer.{Answer}
use Rattle.columns.specs.declared.Refusal as columns
use Rattle.columns.proofs.Shapes.{shaped}
use Rattle.columns.proofs.Answers.{answer_1, answer_2, answer_rest}

-- ---- sentences are small

abbrev Within : ℕ → Answer → Type 0
Within m a = a.sentence.0 ≤ m

abbrev Few : ℕ → Refusal → Type 0
Few m r = r.value ≤ m

first_within : (m : ℕ) (rs : List Refusal) → Each (Few m) rs → Within m (first_refusal rs)
unfolding first_refusal
first_within m [] h = omega arith
first_within m (r ∷ rs) h = go r.applies (first_within m rs h.1)
  where
    go : (b : Bool) → Within m (first_refusal rs)
        → Within m (cond b (record { code = r.code; sentence = record { 0 = r.value } }) (first_refusal rs))
    go true ih = h.0
    go false ih = ih

all_few : (lim : Limits) (n m k : ℕ) (xs : List Written) → k + length xs ≤ suc m → Each (Few m) (all_refusals lim n k xs)
unfolding all_refusals
all_few lim n m k [] h = tt
all_few lim n m k (x ∷ xs) h =
    let l : k ≤ m = omega arith in
    (l, (l, (l, (l, (l, (l, all_few lim n m (suc k) xs (omega arith)))))))

written_length : (c : Columns) (s k : ℕ) → length (written_from c s k) ≡ k
unfolding written_from
written_length c s zero = refl
written_length c s (suc k) = ap {A = ℕ} suc (written_length c (suc s) k)

abbrev Small : Answer → Type 0
Small a = a.sentence.0 < 4294967296

module _ (lim : Limits) (fits : Fitting lim) (words n : ℕ) (c : Columns) where
  load_small : Small (load_answer lim words n c)
  load_small = go (misshapen lim n c) refl
    where
      fitting : (b : Bool) → ltb words (columns_need n c) ≡ b → misshapen lim n c ≡ false → Small (load_answer lim words n c)
      fitting true f e = subst Small (answer_2 lim words n c e (ltb-true words (columns_need n c) f)) (omega arith)
      fitting false f e =
          let few = (shaped lim n c e).within.few_sentences in
          let h = first_within 1024 (all_refusals lim n 1 (all_written c))
          (all_few lim n 1024 1 (all_written c) (omega (arith, written_length c 0 (length c.heads), few, fits.sentences))) in
          subst Small (answer_rest lim words n c e (ltb-false words (columns_need n c) f)) (omega (arith, h))

      go : (b : Bool) → misshapen lim n c ≡ b → Small (load_answer lim words n c)
      go true e = subst Small (answer_1 lim words n c e) (omega arith)
      go false e = fitting (ltb words (columns_need n c)) refl e

pub refused_small : (lim : Limits) (words n : ℕ) (c : Columns) (e : columns.Refusal) → Fitting lim → refusal_answer e ≡ load_answer lim words n c → (refusal_answer e).sentence.0 < 4294967296
refused_small lim words n c e fits same = subst Small (sym same) (load_small lim fits words n c)
