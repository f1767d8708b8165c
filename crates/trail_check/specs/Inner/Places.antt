-- The clauses that the check of the trail tests index by index. Together with the clauses of `TrailOk` that it tests as they stand they
-- hold exactly where `TrailOk` does: a value word and the trail literal that it points at name each other.
use Rattle.std.specs.Prelude.{◌≡◌, List, ℕ, ◌+◌, ◌-◌, ◌*◌, ◌/◌, ◌%◌, ◌<◌, ◌≤◌, length}
use Rattle.types.specs.Limits.{widest}
use Rattle.area.specs.Layout.{value_at, literal_at}

-- the words of n atoms stand inside the area, and the trail has room for len rows
pub record TrailRoom (w : List ℕ) (n len : ℕ) : Type 0 where
  pub atoms_low : 1 ≤ n
  pub atoms_high : n ≤ widest.atoms
  pub words : 4 * n ≤ length w
  pub few : len ≤ n

-- the value word of atom a is 0, or points at the place of the trail that has its literal
pub record ValueOk (w : List ℕ) (n len a : ℕ) : Type 0 where
  pub within : 0 < value_at w n a → (value_at w n a - 1) / 2 < len
  pub same : 0 < value_at w n a → literal_at w n ((value_at w n a - 1) / 2) ≡ 2 * a + (value_at w n a - 1) % 2

-- trail literal i is of an atom whose value word points back
pub record RowOk (w : List ℕ) (n i : ℕ) : Type 0 where
  pub low : 1 ≤ literal_at w n i / 2
  pub high : literal_at w n i / 2 ≤ n
  pub value : value_at w n (literal_at w n i / 2) ≡ 1 + 2 * i + literal_at w n i % 2
