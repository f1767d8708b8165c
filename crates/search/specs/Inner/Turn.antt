-- What the parts of the search loop ask and leave, on a whole area: propagate's answer at the end, and the loop.
use Rattle.std.specs.Prelude.{◌≡◌, List, ℕ, ◌+◌, ◌≤◌, ℤ, Some, None}
use Rattle.types.specs.declared.Limits.{Limits}
use Rattle.types.specs.declared.Counters as t
use Rattle.book.specs.Table.{returned_by, searching, search_ended}
use Rattle.calls.specs.Calls.{area_state, counted, Moved}
use Rattle.propagate.specs.declared.Propagated.{Propagated}
use Rattle.propagate.specs.declared.Propagated.TheVariants.{Still, Conflict}
use Rattle.propagate.specs.Propagate.{stop_returned}
use Rattle.search.specs.declared.Searched.{Searched}
use Rattle.search.specs.Search.{end_returned}

-- ---- the end

abbrev pub Summable : Propagated → ℕ → Type 0
Summable a total = total + (stop_returned a).value ≤ 8192

-- with no sentence in conflict
abbrev pub unopposed_with : (count gone : ℕ) → t.Counters → Searched
unopposed_with count gone c = record { sentence = None; count = count; gone = gone; counters = c }

-- an answer of propagate as the end, with so many literals derived before and so many of the list gone through
abbrev pub ended_by : Propagated → (total gone : ℕ) → Searched
ended_by (Still n c) total gone = record { sentence = None; count = total + n; gone = gone; counters = c }
ended_by (Conflict k n c) total gone = record { sentence = Some k; count = total + n; gone = gone; counters = c }

-- the loop on a whole area
pub record Ends (lim : Limits) (w w' : List ℕ) (ls : List ℤ) (r : Searched) : Type 0 where
  pub answer : end_returned r ≡ returned_by (search_ended (searching (area_state lim w) ls)).answer
  pub moved : Moved lim w w' (counted r.counters) (search_ended (searching (area_state lim w) ls))
