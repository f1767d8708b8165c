-- Right words of a trail, for limits and a level that a step need not know.
use Rattle.std.specs.Prelude.{List, ℕ}
use Rattle.types.specs.declared.Limits.{Limits}
use Rattle.trail.specs.Inner.Step.{TrailReady}

pub record Stands (w : List ℕ) (n len : ℕ) : Type 0 where
  pub lim : Limits
  pub level : ℕ
  pub standing : TrailReady lim w n len level
