-- What the check hands to those who read a whole area.
use Rattle.std.specs.Prelude.{◌≡◌, List, ℕ, Option, MatchOption}
use Rattle.types.specs.declared.Limits.{Limits}
use Rattle.book.specs.Book.{Counters}
use Rattle.area.specs.Whole.{Whole}
use Rattle.whole.specs.Parts.{counters_with}
use Rattle.whole.specs.declared.found.WholeArea.{WholeArea}

-- the counters by which it is whole
abbrev pub counters_in : WholeArea → Counters
counters_in x = counters_with x.counters.length x.counters.level.0

-- it is that area, with those limits and counters
pub record Is (lim : Limits) (w : List ℕ) (c : Counters) (x : WholeArea) : Type 0 where
  pub words : x.area.now ≡ w
  pub limits : x.lim ≡ lim
  pub counters : counters_in x ≡ c

-- the area where it is whole, and otherwise none
abbrev pub FoundWhole : Limits → List ℕ → Counters → Option WholeArea → Type 0
FoundWhole lim w c r = MatchOption r (¬ (Whole lim w c)) (Is lim w c)
