-- What a call that writes a lent list leaves on a whole area: the table's answer, and the list after it.
use Rattle.std.specs.Prelude.{◌≡◌, List, ℕ, length, ℤ, Result}
use Rattle.types.specs.declared.Limits.{Limits}
use Rattle.book.specs.Table.{Report, a_report, returned_by, list_after, reply}
use Rattle.calls.specs.declared.Refusal.{Refusal}
use Rattle.calls.specs.Calls.{area_state, listed_returned}

pub record Listing (lim : Limits) (w : List ℕ) (x : Report) (old new : List ℤ) (r : Result ℕ Refusal) : Type 0 where
  pub answer : listed_returned r ≡ returned_by (reply (area_state lim w) (a_report x (length old))).answer
  pub written : new ≡ list_after (reply (area_state lim w) (a_report x (length old))).answer old
