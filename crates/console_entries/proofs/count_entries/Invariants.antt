-- The entries passed and those of the rest make all of them (`Counted`).
use Rattle.std.proofs.Common.{length}
use Rattle.console_entries.proofs.Entries.{Counted}
use Rattle.console_entries.proofs.count_entries.Given as goal

abbrev pub invariant-loop-behind : goal.invariant-loop-behind
invariant-loop-behind l = Counted l.line l.n l.rest

abbrev pub decreases-loop-behind : goal.decreases-loop-behind
decreases-loop-behind l = length l.rest
