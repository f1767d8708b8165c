-- What the functions on a whole area ask: it is whole under limits that the layout has room for.
use Rattle.std.specs.Prelude.{List, ℕ}
use Rattle.types.specs.declared.Limits.{Limits}
use Rattle.types.specs.Limits.{Fitting}
use Rattle.book.specs.Book.{Counters}
use Rattle.area.specs.Whole.{Whole}

pub record Usable (lim : Limits) (w : List ℕ) (c : Counters) : Type 0 where
  pub fitting : Fitting lim
  pub whole : Whole lim w c
