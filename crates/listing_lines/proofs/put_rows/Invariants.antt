-- The first i rows are on the page.
use Rattle.area.specs.Layout.{rows_from}
use Rattle.pages.specs.Page.{Puts}
use Rattle.listing_lines.specs.Lines.{row_lines}
use Rattle.listing_lines.proofs.put_rows.Given as goal

abbrev pub invariant-loop-i : goal.invariant-loop-i
invariant-loop-i l = Puts l.fn.page l.page (row_lines (rows_from l.trail.area.now l.trail.n l.i))
