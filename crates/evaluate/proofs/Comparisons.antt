-- A sentence's comparison at an extreme: that it has a truth there is that the extreme's word reaches, or does not reach, the limit.
use mathlib.Core.Path.{◌≡◌, refl, sym, ◌∙◌, ap}
use mathlib.Core.Bool.{Bool, true, false, not, cond, beq, not-not}
use mathlib.Core.Logic.{⊎_elim}
use mathlib.Core.List.{List}
use Prim.Native.Nat.{ℕ, ◌+◌, ◌≤◌, ◌<◌}
use native.Mathlib.Omega.{arith}
use lib.IntN.{ℤ}
use lib.Dec.{leb}
use borrow.Author.Tests.{le-leb, lt-leb}
use Rattle.numbers.specs.Extended.{le_e}
use Rattle.numbers.specs.Words.{top, unbias, unword}
use Rattle.numbers.proofs.Words.{cases, unword_at, word_leb}
use Rattle.meaning.specs.Meaning.{comparison}
use Rattle.meaning.specs.Meaning as m
use Rattle.meaning.specs.Merge.{Rule}
use Rattle.meaning.specs.Computed.{extreme, towards, compared}
use Rattle.kinds.specs.declared.Kind.{Kind}
use Rattle.extremes.specs.Inner.Words.{extreme_word}
use Rattle.extremes.proofs.Values.{direction, in_top}
use Rattle.extremes.proofs.Contributions.{ShowsIn}
use Rattle.extremes.proofs.Sound.{sided, rule_words, Sound, extreme_in, extreme_means}
use Rattle.evaluate.specs.Inner.Words.{limit_word, upwards, keeps}

-- ---- the limit

below_limit : (bound e : ℕ) → leb e bound ≡ not (leb (bound + 1) e)
below_limit bound e =
    ⊎_elim
    (λ (p : e ≤ bound). le-leb e bound p ∙ sym (ap not (lt-leb (bound + 1) e (omega arith))))
    (λ (p : bound < e). lt-leb e bound p ∙ sym (ap not (le-leb (bound + 1) e (omega arith))))
    (cases bound e)

beq_is : (b x : Bool) {y : Bool} → x ≡ y → beq b x ≡ cond b y (not y)
beq_is true true p = p
beq_is true false p = p
beq_is false true p = ap not p
beq_is false false p = ap not p

module _ (bound e : ℕ) (low : 0 < bound) (high : bound < top) (within : e ≤ top) where
  lower_is : comparison m.lower (unbias bound) (unword e) ≡ leb bound e
  lower_is = ap (λ z. le_e z (unword e)) (sym (unword_at bound low high)) ∙ word_leb bound e (omega arith)

  upper_is : comparison m.upper (unbias bound) (unword e) ≡ leb e bound
  upper_is = ap (le_e (unword e)) (sym (unword_at bound low high)) ∙ word_leb e bound within

  keeps_is : (upper b : Bool) → beq b (comparison (sided upper) (unbias bound) (unword e)) ≡ keeps (upwards upper b) (limit_word upper bound) e
  keeps_is true true = beq_is true _ (upper_is ∙ below_limit bound e)
  keeps_is true false = beq_is false _ (upper_is ∙ below_limit bound e) ∙ not-not (leb (bound + 1) e)
  keeps_is false true = beq_is true _ lower_is
  keeps_is false false = beq_is false _ lower_is

towards_is : (upper b : Bool) → towards (sided upper) b ≡ direction (upwards upper b)
towards_is true true = refl
towards_is true false = refl
towards_is false true = refl
towards_is false false = refl

module _ {n : ℕ} {k : Kind} {bound c head : ℕ} {words : List ℕ} (sound : Sound n k bound c head words) (upper : Bool) (written : ℕ) where
  abbrev R : Rule
  R = rule_words k upper bound c head written words

  -- whether the comparison has the truth b at the extreme towards it
  pub kept_at : (b : Bool) (v : ℕ → ℕ) (t : List ℤ) → ShowsIn n v t
      → beq b (compared R (extreme (towards (sided upper) b) R t)) ≡ keeps (upwards upper b) (limit_word upper bound) (extreme_word k (upwards upper b) v c words)
  kept_at b v t sh =
      let u = upwards upper b in
      let e = extreme_word k u v c words in
      ap (λ d. beq b (compared R (extreme d R t))) (towards_is upper b)
      ∙ ap (λ z. beq b (compared R z)) (extreme_means sound upper written u v t sh)
      ∙ keeps_is bound e sound.bound_low sound.bound_high (in_top k e (extreme_in sound u v)) upper b
