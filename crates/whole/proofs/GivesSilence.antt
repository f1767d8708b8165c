-- A rule that says nothing is not in conflict, and no literal is due: the scan finds none in the scope, and outside the scope a literal
-- put on leaves the test for a conflict as it was.
use mathlib.Core.Path.{◌≡◌, refl, sym, ◌∙◌, ap, subst}
use mathlib.Core.Bool.{Bool, true, false, cond, ◌&&◌, and-false}
use mathlib.Core.Logic.{◌⊎◌, inl, inr, ⊎_elim}
use mathlib.Core.List.{List, [], ◌∷◌}
use Prim.Native.Nat.{ℕ}
use native.Mathlib.Omega.{arith}
use native.Mathlib.Decide.{ℕ_discrete}
use lib.IntN.{ℤ, pos, neg_ℤ}
use Rattle.meaning.specs.Meaning.{atom, Entry, entry_atom, silent, conflict, forced, Each}
use Rattle.meaning.specs.Merge.{Rule, entry_atoms, scope}
use Rattle.meaning.specs.Computed.{standing_of, refuted, is_free, due, first_due, first_said}
use Rattle.meaning.specs.Represents.{Off}
use Rattle.meaning.proofs.Trails.{opposite_atom, two_literals}
use Rattle.meaning.proofs.Verdicts.{refuted_outside}
use Rattle.book.specs.Sound.{In}
use Rattle.book.proofs.Number.{in_each}
use Rattle.whole.specs.Gives.{IsSilent}

-- ---- inside the scope

-- neither literal of the atom is due
abbrev Undue : Rule → List ℤ → ℕ → Type 0
Undue r t a = (due r t (pos a) ≡ false) × (due r t (neg_ℤ (pos a)) ≡ false)

scan_undue : (r : Rule) (t : List ℤ) (atoms : List ℕ) → first_due r t atoms ≡ silent → Each (Undue r t) atoms
unfolding first_due
scan_undue r t [] e = tt
scan_undue r t (a ∷ rest) e = go (due r t (pos a)) (due r t (neg_ℤ (pos a))) refl refl e (scan_undue r t rest)
  where
    go : (x y : Bool) → due r t (pos a) ≡ x → due r t (neg_ℤ (pos a)) ≡ y
        → cond x (forced (pos a)) (cond y (forced (neg_ℤ (pos a))) (first_due r t rest)) ≡ silent
        → (first_due r t rest ≡ silent → Each (Undue r t) rest) → Each (Undue r t) (a ∷ rest)
    go true y ex ey e ih = let z : ◌≡◌ {A = ℕ} 0 1 = cc in let b : ⊥ = omega arith in absurd b
    go false true ex ey e ih = let z : ◌≡◌ {A = ℕ} 0 1 = cc in let b : ⊥ = omega arith in absurd b
    go false false ex ey e ih = ((ex, ey), ih e)

undue_literal : (r : Rule) (t : List ℤ) (l : ℤ) → Undue r t (atom l) → due r t l ≡ false
undue_literal r t l u = ⊎_elim (λ e. ap (due r t) e ∙ u.0) (λ e. ap (due r t) e ∙ u.1) (two_literals l (atom l) refl)

-- ---- outside it

inside_or_off : (a : ℕ) (es : List Entry) → In a (entry_atoms es) ⊎ Off a es
inside_or_off a [] = inr tt
inside_or_off a (e ∷ es) = go (ℕ_discrete (entry_atom e) a) (inside_or_off a es)
  where
    go : Dec (entry_atom e ≡ a) → In a (entry_atoms es) ⊎ Off a es → In a (entry_atoms (e ∷ es)) ⊎ Off a (e ∷ es)
    go (yes q) r = inl (inl q)
    go (no n) (inl i) = inl (inr i)
    go (no n) (inr o) = inr (n, o)

outside_undue : (r : Rule) (t : List ℤ) (l : ℤ) → refuted r t ≡ false → ¬ (r.head ≡ atom l) → Off (atom l) r.set.entries → due r t l ≡ false
outside_undue r t l f n off = let e : atom (neg_ℤ l) ≡ atom l = opposite_atom l in
    let same : refuted r (neg_ℤ l ∷ t) ≡ refuted r t = refuted_outside r t (neg_ℤ l) (λ q. n (q ∙ e)) (subst (λ a. Off a r.set.entries) (sym e) off) in
    ap {A = Bool} (λ x. is_free (standing_of t (atom l)) && x) (same ∙ f) ∙ and-false (is_free (standing_of t (atom l)))

-- ---- all literals

none_due : (r : Rule) (t : List ℤ) → refuted r t ≡ false → Each (Undue r t) (scope r) → (l : ℤ) → due r t l ≡ false
none_due r t f u l = go (ℕ_discrete r.head (atom l)) (inside_or_off (atom l) r.set.entries)
  where
    go : Dec (r.head ≡ atom l) → In (atom l) (entry_atoms r.set.entries) ⊎ Off (atom l) r.set.entries → due r t l ≡ false
    go (yes e) i = undue_literal r t l (in_each (Undue r t) (atom l) (scope r) (inl e) u)
    go (no n) (inl i) = undue_literal r t l (in_each (Undue r t) (atom l) (scope r) (inr i) u)
    go (no n) (inr off) = outside_undue r t l f n off

pub silence : (r : Rule) (t : List ℤ) → first_said r t ≡ silent → IsSilent r t
unfolding first_said
silence r t e = go (refuted r t) refl e
  where
    go : (x : Bool) → refuted r t ≡ x → cond x conflict (first_due r t (scope r)) ≡ silent → IsSilent r t
    go true f q = let z : ◌≡◌ {A = ℕ} 0 1 = cc in let b : ⊥ = omega arith in absurd b
    go false f q = record { said = e; no_conflict = f; none_due = none_due r t f (scan_undue r t (scope r) q) }
