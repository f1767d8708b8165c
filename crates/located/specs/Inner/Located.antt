-- Where a caller's literal stands on the trail of the area.
use Rattle.std.specs.Prelude.{◌≡◌, true, false, ◌⊎◌, List, ℕ, ℤ, Result, MatchResult}
use Rattle.meaning.specs.Meaning.{same}
use Rattle.literals.specs.Inner.Literals.{unknown}
use Rattle.book.specs.Rows.{any}
use Rattle.area.specs.Layout.{atoms_of, length_of}
use Rattle.causes.specs.Inner.Causes.{before, Stands}
use Rattle.calls.specs.declared.Refusal.{Refusal}
use Rattle.calls.specs.declared.Refusal.TheVariants.{NoAtom, NotOnTrail}

-- l is of an atom of the area, and stands at position p of its trail
pub record OnTrail (w : List ℕ) (l : ℤ) (p : ℕ) : Type 0 where
  pub known : unknown (atoms_of w) l ≡ false
  pub position : Stands w (atoms_of w) l (length_of w) p

-- l is of no atom, or it is not on the trail
abbrev pub Unlocated : List ℕ → ℤ → Refusal → Type 0
Unlocated w l e =
    ((e ≡ NoAtom) × (unknown (atoms_of w) l ≡ true))
    ⊎ ((e ≡ NotOnTrail) × (unknown (atoms_of w) l ≡ false) × (any (same l) (before w (atoms_of w) (length_of w)) ≡ false))

-- its position, or why it has none
abbrev pub LocatedIs : List ℕ → ℤ → Result ℕ Refusal → Type 0
LocatedIs w l r = MatchResult r (λ p. OnTrail w l p) (λ e. Unlocated w l e)
