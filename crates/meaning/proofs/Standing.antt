-- What a rule computes over a trail depends only on the standings of its scope's atoms: the extremes read those of the entries, the test
-- that of the head besides, and a literal put on two trails changes their standings alike.
use mathlib.Core.Path.{◌≡◌, refl, ap, ap₂, subst, sym}
use mathlib.Core.Bool.{true, cond, ◌&&◌}
use mathlib.Core.List.{List, [], ◌∷◌}
use Prim.Native.Nat.{ℕ}
use lib.IntN.{ℤ, pos, neg_ℤ}
use lib.Dec.{eqb}
use Rattle.numbers.specs.Extended.{Direction}
use Rattle.meaning.specs.Meaning.{atom, truth, Entry, entry_atom, Each, conflict}
use Rattle.meaning.specs.Merge.{Rule, entry_atoms, scope}
use Rattle.meaning.specs.Computed.{fixed, standing_of, extreme, refuted, is_free, due, first_due, first_said}
use Rattle.meaning.proofs.Gather.{each_map}
use Rattle.meaning.proofs.Trails.{opposite_atom}
use Rattle.meaning.proofs.Extremes.{extreme_alike}
use Rattle.meaning.proofs.Verdicts.{refuted_alike}

-- the atom stands on both trails alike
abbrev pub SameStanding : List ℤ → List ℤ → ℕ → Type 0
SameStanding t t' a = standing_of t a ≡ standing_of t' a

pub each_place : (P : ℕ → Type 0) (es : List Entry) → Each P (entry_atoms es) → Each (λ e. P (entry_atom e)) es
each_place P [] h = tt
each_place P (e ∷ es) h = (h.0, each_place P es h.1)

put_alike : (l : ℤ) (t t' : List ℤ) (a : ℕ) → SameStanding t t' a → SameStanding (l ∷ t) (l ∷ t') a
unfolding standing_of
put_alike l t t' a h = ap (λ s. cond (eqb (atom l) a) (fixed (truth l true)) s) h

pub extreme_standing : (d : Direction) (r : Rule) (t t' : List ℤ) → Each (SameStanding t t') (scope r) → extreme d r t ≡ extreme d r t'
extreme_standing d r t t' h = extreme_alike d r t t' (each_place (SameStanding t t') r.set.entries h.1)

pub refuted_standing : (r : Rule) (t t' : List ℤ) → Each (SameStanding t t') (scope r) → refuted r t ≡ refuted r t'
refuted_standing r t t' h = refuted_alike r t t' h.0 (λ d. extreme_standing d r t t' h)

module _ (r : Rule) (t t' : List ℤ) (h : Each (SameStanding t t') (scope r)) where
  due_standing : (l : ℤ) (a : ℕ) → atom l ≡ a → SameStanding t t' a → due r t l ≡ due r t' l
  due_standing l a e q = ap₂ (λ x y. is_free x && y) (subst (SameStanding t t') (sym e) q)
      (refuted_standing r (neg_ℤ l ∷ t) (neg_ℤ l ∷ t') (each_map (SameStanding t t') (SameStanding (neg_ℤ l ∷ t) (neg_ℤ l ∷ t')) (scope r) (put_alike (neg_ℤ l) t t') h))

  first_due_standing : (atoms : List ℕ) → Each (SameStanding t t') atoms → first_due r t atoms ≡ first_due r t' atoms
  unfolding first_due
  first_due_standing [] g = refl
  first_due_standing (a ∷ rest) g =
      rw (due_standing (pos a) a refl g.0, due_standing (neg_ℤ (pos a)) a (opposite_atom (pos a)) g.0, first_due_standing rest g.1)

pub says_standing : (r : Rule) (t t' : List ℤ) → Each (SameStanding t t') (scope r) → first_said r t ≡ first_said r t'
unfolding first_said
says_standing r t t' h = ap₂ (λ c s. cond c conflict s) (refuted_standing r t t' h) (first_due_standing r t t' h (scope r) h)
