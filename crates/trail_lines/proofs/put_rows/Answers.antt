-- One row more, behind the first rows.
use borrow.Author.Rules.{rules}
use native.Mathlib.Omega.{arith}
use Rattle.pages.proofs.Laws.{counted_up}
use Rattle.answer_lines.specs.Lines.{row_lines}
use Rattle.trail_lines.proofs.Rows.{no_rows, row_more}
use Rattle.trail_lines.proofs.put_rows.Goals as goal

pub loop-row-init : goal.loop-row-init
loop-row-init c = no_rows c.args.list.now c.args.page.now

pub loop-row-preserved : goal.loop-row-preserved
loop-row-preserved c =
    row_more c.args.list.now c.loop-row.row (search rules) (search rules) (search rules) c.loop-row.invariant c.put_row.ensures

pub returns : goal.returns
returns c = counted_up (row_lines c.args.list.now) (omega arith) c.loop-row.invariant
