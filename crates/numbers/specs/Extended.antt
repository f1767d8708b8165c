-- Values of aggregates: an integer, or below every number, or above every number; and their order.
use Rattle.std.specs.Prelude.{Bool, true, false, cond, ℤ}
use Rattle.std.specs.Int.Signed.{le_z}

pub data Extended : Type 0 where
  below : Extended
  at : ℤ → Extended
  above : Extended

-- v ≤ w
abbrev pub le_e : Extended → Extended → Bool
le_e below w = true
le_e (at a) below = false
le_e (at a) (at b) = le_z a b
le_e (at a) above = true
le_e above below = false
le_e above (at b) = false
le_e above above = true

abbrev pub greater : Extended → Extended → Extended
greater v w = cond (le_e v w) w v

abbrev pub lesser : Extended → Extended → Extended
lesser v w = cond (le_e v w) v w

pub data Direction : Type 0 where
  down up : Direction

-- w lies at least as far in the direction as v
abbrev pub further : Direction → Extended → Extended → Bool
further up v w = le_e v w
further down v w = le_e w v
