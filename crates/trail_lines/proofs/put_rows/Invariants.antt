-- The first rows are on the page.
use Rattle.pages.specs.Page.{Puts}
use Rattle.answer_lines.specs.Lines.{row_lines}
use Rattle.trail_lines.proofs.put_rows.Given as goal

abbrev pub invariant-loop-row : goal.invariant-loop-row
invariant-loop-row l = Puts l.fn.page l.page (row_lines l.list l.row)
