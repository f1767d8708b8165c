-- A bool that tells of a proposition: true exactly when it holds.
use Rattle.std.specs.Prelude.{Bool, true, false, ◌≡◌}

pub record Tells (b : Bool) (P : Type 0) : Type 0 where
  pub yes : b ≡ true → P
  pub no : b ≡ false → P → ⊥
