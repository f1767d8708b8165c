-- The given literals of the marked positions, and a list with literals at its front.
use Rattle.std.specs.Prelude.{◌≡◌, Bool, true, false, not, cond, ◌&&◌, Option, MatchOption}
use Rattle.std.specs.Prelude.{List, [], ◌∷◌, ◌++◌, ℕ, zero, suc, ℤ, length, get_or, drop, eqb}
use Rattle.area.specs.Layout.{row_at}
use Rattle.trail_check.specs.declared.Trail.{Trail}

-- position i is marked, and its literal was given
abbrev pub origin_marked : List ℕ → ℕ → List ℕ → ℕ → Bool
origin_marked w n m i = not (eqb (get_or m i 0) 0) && eqb (row_at w n i).reason 0

-- that literal, or none
abbrev pub ChosenAt : List ℕ → ℕ → List ℕ → ℕ → Option ℤ → Type 0
ChosenAt w n m i r = MatchOption r (origin_marked w n m i ≡ false) (λ z. (origin_marked w n m i ≡ true) × (z ≡ (row_at w n i).literal))

-- the literals of those among the first k positions, the first put on first
unfoldable pub chosen_literals : List ℕ → ℕ → List ℕ → ℕ → List ℤ
chosen_literals w n m zero = []
chosen_literals w n m (suc k) = cond (origin_marked w n m k) (chosen_literals w n m k ++ ((row_at w n k).literal ∷ [])) (chosen_literals w n m k)

-- of a trail
abbrev pub chosen_of : Trail → List ℕ → List ℤ
chosen_of t m = chosen_literals t.area.now t.n m t.len

-- ls at the front of a list, and the rest of it as it was
abbrev pub in_front : List ℤ → List ℤ → List ℤ
in_front ls old = ls ++ drop (length ls) old
