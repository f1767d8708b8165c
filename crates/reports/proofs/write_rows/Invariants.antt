-- The first i rows stand at the front of the list, and the rest of it is as it was.
use Rattle.reports.proofs.Rows.{Written}
use Rattle.reports.proofs.write_rows.Given as goal

abbrev pub invariant-loop-i : goal.invariant-loop-i
invariant-loop-i l = Written l.trail.area.now l.trail.n l.i l.initial.list l.list
