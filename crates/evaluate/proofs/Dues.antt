-- One atom more of a rule's scan: an atom on the trail is passed over, and of an open one at most one literal can be due where the other
-- is not refuted.
use mathlib.Core.Path.{◌≡◌, refl, sym, ◌∙◌, ap}
use mathlib.Core.Bool.{Bool, true, false, cond, ◌&&◌}
use mathlib.Core.Logic.{◌⊎◌, inl, inr}
use mathlib.Core.List.{List, ◌∷◌}
use Prim.Native.Nat.{ℕ}
use lib.IntN.{ℤ, pos, neg_ℤ, neg_ℤ-neg_ℤ}
use Rattle.meaning.specs.Meaning.{atom}
use Rattle.meaning.specs.Meaning as m
use Rattle.meaning.specs.Merge.{Rule}
use Rattle.meaning.specs.Computed.{free, fixed, standing_of, refuted, is_free, due, first_due}
use Rattle.meaning.proofs.Trails.{two_literals}
use Rattle.evaluate.specs.declared.Said.{Said}
use Rattle.evaluate.specs.Inner.Sentence.{said_of}

pub said_cond : (b : Bool) (x y : Said) → said_of (cond b x y) ≡ cond b (said_of x) (said_of y)
said_cond true x y = refl
said_cond false x y = refl

-- neither literal of the atom is due
pub passed_over : (r : Rule) (t : List ℤ) (a : ℕ) (rest : List ℕ) → due r t (pos a) ≡ false → due r t (neg_ℤ (pos a)) ≡ false → first_due r t (a ∷ rest) ≡ first_due r t rest
unfolding first_due
passed_over r t a rest p q = rw (p, q)

-- of the two literals of an atom only o may be due
pub one_literal : (r : Rule) (t : List ℤ) (a : ℕ) (rest : List ℕ) (o : ℤ) → atom o ≡ a → due r t (neg_ℤ o) ≡ false
    → first_due r t (a ∷ rest) ≡ cond (due r t o) (m.forced o) (first_due r t rest)
unfolding first_due
one_literal r t a rest o e n = go (two_literals o a e)
  where
    go : (o ≡ pos a) ⊎ (o ≡ neg_ℤ (pos a))
        → cond (due r t (pos a)) (m.forced (pos a)) (cond (due r t (neg_ℤ (pos a))) (m.forced (neg_ℤ (pos a))) (first_due r t rest)) ≡ cond (due r t o) (m.forced o) (first_due r t rest)
    go (inl q) = let none : due r t (neg_ℤ (pos a)) ≡ false = ap (λ z. due r t (neg_ℤ z)) (sym q) ∙ n in rw (q, none)
    go (inr q) = let none : due r t (pos a) ≡ false = ap (due r t) (sym (neg_ℤ-neg_ℤ (pos a)) ∙ ap neg_ℤ (sym q)) ∙ n in rw (q, none)

pub set_undue : (r : Rule) (t : List ℤ) (l : ℤ) (b : Bool) → standing_of t (atom l) ≡ fixed b → due r t l ≡ false
set_undue r t l b e = ap (λ s. is_free s && refuted r (neg_ℤ l ∷ t)) e

pub free_due : (r : Rule) (t : List ℤ) (l : ℤ) → standing_of t (atom l) ≡ free → due r t l ≡ refuted r (neg_ℤ l ∷ t)
free_due r t l e = ap (λ s. is_free s && refuted r (neg_ℤ l ∷ t)) e
