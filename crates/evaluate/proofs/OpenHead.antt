-- What a sentence with an open head says first: only a literal of the head can be due, since the rule refutes nothing without its head's
-- truth; and the two extremes decide which.
use mathlib.Core.Path.{◌≡◌, refl, sym, ◌∙◌, ap}
use mathlib.Core.Bool.{Bool, true, false, not, cond, beq, ◌&&◌, and-false}
use mathlib.Core.List.{List, [], ◌∷◌}
use Prim.Native.Nat.{ℕ, ◌+◌, ◌*◌, ◌/◌}
use native.Mathlib.Omega.{arith}
use lib.IntN.{ℤ, pos, neg_ℤ, neg_ℤ-neg_ℤ}
use Rattle.numbers.specs.Words.{literal_of}
use Rattle.numbers.proofs.Words.{literal_even, opposite_even}
use Rattle.meaning.specs.Meaning.{atom, truth, Entry, entry_atom}
use Rattle.meaning.specs.Meaning as m
use Rattle.meaning.specs.Merge.{Rule, entry_atoms, scope}
use Rattle.meaning.specs.Computed.{free, standing_of, extreme, towards, compared, refuted_at, refuted, is_free, due, first_due, first_said}
use Rattle.meaning.specs.Represents.{Off}
use Rattle.meaning.proofs.Trails.{opposite_atom, opposite_truth}
use Rattle.meaning.proofs.Verdicts.{refuted_head, refuted_headless}
use Rattle.area.specs.Layout.{standing_word, entries_of}
use Rattle.kinds.specs.declared.Kind.{Kind}
use Rattle.evaluate.specs.Inner.Sentence.{said_of}
use Rattle.extremes.specs.Inner.Words.{extreme_word}
use Rattle.evaluate.specs.Inner.Words.{limit_word, upwards, keeps, head_says}
use Rattle.extremes.proofs.Contributions.{ShowsIn}
use Rattle.evaluate.proofs.Dues.{passed_over, free_due}
use Rattle.extremes.proofs.Sound.{sided, rule_words, Sound}
use Rattle.evaluate.proofs.Comparisons.{kept_at}

module _ {n : ℕ} {k : Kind} {bound c head : ℕ} {words : List ℕ} (sound : Sound n k bound c head words) (upper : Bool) (written : ℕ)
    (v : ℕ → ℕ) (t : List ℤ) (sh : ShowsIn n v t) (z : v head ≡ 0) where
  abbrev R : Rule
  R = rule_words k upper bound c head written words

  abbrev limit : ℕ
  limit = limit_word upper bound

  -- the comparison keeps the truth b at the extreme towards it
  abbrev at_extreme : Bool → Bool
  at_extreme b = keeps (upwards upper b) limit (extreme_word k (upwards upper b) v c words)

  head_free : standing_of t head ≡ free
  head_free = sh head sound.head_low sound.head_high ∙ ap standing_word z

  head_refuted : (l : ℤ) (b : Bool) → atom l ≡ head → truth l true ≡ b → refuted R (l ∷ t) ≡ not (at_extreme b)
  head_refuted l b e q =
      refuted_head R t l e sound.headless
      ∙ ap (λ x. not (beq x (compared R (extreme (towards (sided upper) x) R t)))) q
      ∙ ap not (kept_at sound upper written b v t sh)

  due_pos : due R t (pos head) ≡ not (at_extreme false)
  due_pos = free_due R t (pos head) head_free ∙ head_refuted (neg_ℤ (pos head)) false (opposite_atom (pos head)) (opposite_truth (pos head) sound.head_low true)

  due_neg : due R t (neg_ℤ (pos head)) ≡ not (at_extreme true)
  due_neg =
      free_due R t (neg_ℤ (pos head)) (ap (standing_of t) (opposite_atom (pos head)) ∙ head_free)
      ∙ ap (λ l. refuted R (l ∷ t)) (neg_ℤ-neg_ℤ (pos head)) ∙ head_refuted (pos head) true refl refl

  entry_undue : (a : ℕ) (l : ℤ) → atom l ≡ a → ¬ (a ≡ head) → due R t l ≡ false
  entry_undue a l e d =
      ap (λ x. is_free (standing_of t (atom l)) && x) (refuted_headless R t (neg_ℤ l) (λ q. d (sym (q ∙ opposite_atom l ∙ e))) head_free)
      ∙ and-false (is_free (standing_of t (atom l)))

  entries_silent : (es : List Entry) → Off head es → first_due R t (entry_atoms es) ≡ m.silent
  unfolding first_due
  entries_silent [] o = refl
  entries_silent (e ∷ es) o =
      passed_over R t (entry_atom e) (entry_atoms es) (entry_undue (entry_atom e) (pos (entry_atom e)) refl o.0) (entry_undue (entry_atom e) (neg_ℤ (pos (entry_atom e))) (opposite_atom (pos (entry_atom e))) o.0)
      ∙ entries_silent es o.1

  pub says_open : first_said R t ≡ said_of (head_says (not (at_extreme false)) (not (at_extreme true)) head)
  unfolding first_said first_due
  says_open =
      ap (λ x. cond x m.conflict (first_due R t (scope R))) (ap (refuted_at R t) head_free) ∙ go (not (at_extreme false)) due_pos (not (at_extreme true)) due_neg
    where
      even : literal_of (2 * head) ≡ pos head
      even = let e : 2 * head / 2 ≡ head = omega arith in literal_even (2 * head) (omega arith) ∙ ap pos e

      odd : literal_of (2 * head + 1) ≡ neg_ℤ (pos head)
      odd = opposite_even (2 * head) (omega (arith, sound.head_low)) (omega arith) ∙ ap neg_ℤ even

      go : (x : Bool) → due R t (pos head) ≡ x → (y : Bool) → due R t (neg_ℤ (pos head)) ≡ y → first_due R t (scope R) ≡ said_of (head_says x y head)
      go true p y q = rw (p, even)
      go false p true q = rw (p, q, odd)
      go false p false q = rw (p, q) (entries_silent (entries_of words) sound.headless)
