-- What the functions on a whole area ask, for limits and a level that they need not know.
use Rattle.std.specs.Prelude.{List, ℕ}
use Rattle.types.specs.declared.Limits.{Limits}
use Rattle.book.specs.Book.{Counters}
pub use Rattle.whole.specs.Inner.Usable.{Usable}
use Rattle.give.specs.Inner.Trail.{Advanceable}

abbrev pub AdvanceReady : List ℕ → ℕ → ℕ → ℕ → ℕ → ℕ → Type 0
AdvanceReady w n S len literal mark = (lim : Limits) × (level : ℕ) × Advanceable lim w n S len level literal mark

abbrev pub Ready : List ℕ → Counters → Type 0
Ready w c = (lim : Limits) × Usable lim w c
