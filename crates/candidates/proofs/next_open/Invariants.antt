-- The literals before j are passed over.
use Rattle.std.proofs.Common.{◌≡◌, ℕ, drop}
use Rattle.types.specs.declared.Limits.{Limits}
use Rattle.book.specs.Book.{Counters}
use Rattle.book.specs.Table.{trying}
use Rattle.area.specs.Whole.{Whole}
use Rattle.calls.specs.Calls.{area_state}
use Rattle.candidates.specs.Inner.Candidates.{PassedTo}
use Rattle.candidates.proofs.next_open.Given as goal

abbrev pub invariant-loop-j : goal.invariant-loop-j
invariant-loop-j l = (lim : Limits) (c : Counters) → Whole lim l.area c → PassedTo (area_state lim l.area) l.literals l.start l.j
