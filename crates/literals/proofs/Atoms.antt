-- The test of refusal 10 by the size of a literal: it fails just where the size is 1 to n.
use mathlib.Core.Path.{◌≡◌, sym, ◌∙◌, ap₂, subst}
use mathlib.Core.Bool.{Bool, false, not, ◌&&◌, true≢false}
use Prim.Native.Nat.{ℕ, ◌≤◌}
use lib.IntN.{ℤ}
use borrow.Author.Tests.{le-leb}
use mir.Syntax.{w64}
use mir.Val.{SFits, to_z, of_z}
use mir.ValLaws.{to_z-of_z}
use Rattle.std.specs.Prelude.{Option, None, Some, IsSomeAnd}
use Rattle.meaning.specs.Meaning.{atom}
use Rattle.literals.specs.Inner.Literals.{unknown, IsAtom, AtomOf}

pub known_within : (n : ℕ) (l : ℤ) → 1 ≤ atom l → atom l ≤ n → unknown n l ≡ false
known_within n l low high = ap₂ {A = Bool} {B = Bool} (λ x y. not (x && y)) (le-leb 1 (atom l) low) (le-leb (atom l) n high)

-- what is told of the bits of a caller's literal, read back, is told of the literal
pub told_atom : (n : ℕ) (l : ℤ) (r : Option ℕ) → SFits w64 l → AtomOf n (to_z w64 (of_z w64 l)) r → AtomOf n l r
told_atom n l r f a = subst (λ (z : ℤ). AtomOf n z r) (to_z-of_z w64 l f) a

-- a literal that passes the test has its atom
pub known_atom : (n : ℕ) (l : ℤ) (r : Option ℕ) → AtomOf n l r → unknown n l ≡ false → IsSomeAnd r (IsAtom n l)
known_atom n l None a e = absurd (true≢false (sym a ∙ e))
known_atom n l (Some r) a e = a
