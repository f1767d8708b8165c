-- Words set to 0 from a place on, up to another.
use Rattle.std.specs.Prelude.{◌≡◌, List, ℕ, ◌<◌, ◌≤◌, length, take}
use Rattle.area.specs.Layout.{word}

pub record Blanked (before words : List ℕ) (from to : ℕ) : Type 0 where
  pub size : length words ≡ length before
  pub front : take from words ≡ take from before
  pub zeros : (i : ℕ) → from ≤ i → i < to → word words i ≡ 0
  pub above : (i : ℕ) → to ≤ i → word words i ≡ word before i
