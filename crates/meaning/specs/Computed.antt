-- What the propagator computes of a rule over a trail: the two extremes of its value, whether it is in conflict, which literals it
-- forces, and what it says first. The proofs of this crate tie each to the meaning.
use Rattle.std.specs.Prelude.{Bool, true, false, not, cond, ◌&&◌, List, [], ◌∷◌, ℕ, ℤ, pos, neg_ℤ, ◌+ℤ◌, ◌*ℤ◌, eqb}
use Rattle.std.specs.Bool.{beq}
use Rattle.numbers.specs.Extended.{Extended, below, at, above, greater, lesser, Direction, up, down}
use Rattle.meaning.specs.Meaning.{atom, truth, Entry, entry_atom, Kind, sum, product, count, maximum, minimum, empty, Side, lower, upper, comparison, Said, silent, conflict, forced}
use Rattle.meaning.specs.Merge.{Rule, scope}

-- ---- values combined one after the other

-- an operation on integers, at values. Sums and products meet only integers; the other clauses keep it associative and commutative
abbrev pub both : (ℤ → ℤ → ℤ) → Extended → Extended → Extended
both f below w = below
both f (at a) below = below
both f (at a) (at b) = at (f a b)
both f (at a) above = above
both f above below = below
both f above (at b) = above
both f above above = above

abbrev pub combine : Kind → Extended → Extended → Extended
combine sum = both ◌+ℤ◌
combine product = both ◌*ℤ◌
combine count = both ◌+ℤ◌
combine maximum = greater
combine minimum = lesser

module _ {A : Type 0} (k : Kind) (f : A → Extended) where
  unfoldable pub gather : Extended → List A → Extended
  gather v [] = v
  gather v (x ∷ xs) = gather (combine k v (f x)) xs

-- where the fold starts: at the constant in sums and counts
abbrev pub starting : Kind → ℤ → Extended
starting sum c = at c
starting product c = empty product
starting count c = at c
starting maximum c = empty maximum
starting minimum c = empty minimum

-- what an entry contributes where its atom has the truth b
abbrev pub given : Kind → Entry → Bool → Extended
given k e b = cond (truth e.literal b) (at e.weight) (empty k)

-- ---- the extremes

-- an atom on a trail: not there, or there with a truth
pub data Standing : Type 0 where
  free : Standing
  fixed : Bool → Standing

unfoldable pub standing_of : List ℤ → ℕ → Standing
standing_of [] a = free
standing_of (l ∷ t) a = cond (eqb (atom l) a) (fixed (truth l true)) (standing_of t a)

abbrev pub further_of : Direction → Extended → Extended → Extended
further_of up = greater
further_of down = lesser

-- the furthest that a choice by a truth can go
abbrev pub reach : Direction → (Bool → Extended) → Standing → Extended
reach d g free = further_of d (g true) (g false)
reach d g (fixed b) = g b

abbrev pub extreme_of : Kind → Direction → List ℤ → Entry → Extended
extreme_of k d t e = reach d (given k e) (standing_of t (entry_atom e))

unfoldable pub extreme : Direction → Rule → List ℤ → Extended
extreme d r t = gather r.kind (extreme_of r.kind d t) (starting r.kind r.set.constant) r.set.entries

-- ---- conflict

-- the direction in which a comparison comes to have the truth b
abbrev pub towards : Side → Bool → Direction
towards lower true = up
towards lower false = down
towards upper true = down
towards upper false = up

abbrev pub compared : Rule → Extended → Bool
compared r v = comparison r.side r.bound v

-- even at the extreme the comparison does not have the truth that the head has
abbrev pub refuted_at : Rule → List ℤ → Standing → Bool
refuted_at r t free = false
refuted_at r t (fixed b) = not (beq b (compared r (extreme (towards r.side b) r t)))

abbrev pub refuted : Rule → List ℤ → Bool
refuted r t = refuted_at r t (standing_of t r.head)

-- ---- forced literals: open, and refuted the other way

abbrev pub is_free : Standing → Bool
is_free free = true
is_free (fixed b) = false

abbrev pub due : Rule → List ℤ → ℤ → Bool
due r t l = is_free (standing_of t (atom l)) && refuted r (neg_ℤ l ∷ t)

-- ---- what the rule says first

unfoldable pub first_due : Rule → List ℤ → List ℕ → Said
first_due r t [] = silent
first_due r t (a ∷ rest) =
    cond (due r t (pos a)) (forced (pos a)) (cond (due r t (neg_ℤ (pos a))) (forced (neg_ℤ (pos a))) (first_due r t rest))

unfoldable pub first_said : Rule → List ℤ → Said
first_said r t = cond (refuted r t) conflict (first_due r t (scope r))
