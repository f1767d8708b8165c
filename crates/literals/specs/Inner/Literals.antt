-- The atom of a caller's literal, for an area of n atoms.
use Rattle.std.specs.Prelude.{◌≡◌, Bool, true, false, not, ◌&&◌, ℕ, ◌≤◌, ℤ, leb, Option, MatchOption}
use Rattle.meaning.specs.Meaning.{atom}

-- the table's test for refusal 10, at a state of n atoms
abbrev pub unknown : ℕ → ℤ → Bool
unknown n l = not (leb 1 (atom l) && leb (atom l) n)

pub record IsAtom (n : ℕ) (l : ℤ) (r : ℕ) : Type 0 where
  pub is : r ≡ atom l
  pub low : 1 ≤ atom l
  pub high : atom l ≤ n
  pub known : unknown n l ≡ false

-- r is the atom of l, or none where l is of none of n atoms
abbrev pub AtomOf : ℕ → ℤ → Option ℕ → Type 0
AtomOf n l r = MatchOption r (unknown n l ≡ true) (λ a. IsAtom n l a)
