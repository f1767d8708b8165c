-- One row more, behind the first i.
use borrow.Author.Rules.{rules}
use native.Mathlib.Omega.{arith}
use Prim.Native.Nat.{ℕ}
use Rattle.area.specs.Layout.{rows_from}
use Rattle.pages.proofs.Laws.{counted_up}
use Rattle.listing_lines.specs.Lines.{row_lines}
use Rattle.listing_lines.proofs.Loops.{no_rows, row_more}
use Rattle.listing_lines.proofs.put_rows.Goals as goal

pub loop-i-init : goal.loop-i-init
loop-i-init c = no_rows c.args.trail.area.now c.args.trail.n c.args.page.now

pub loop-i-preserved : goal.loop-i-preserved
loop-i-preserved c = search (row_more, rules)

pub returns : goal.returns
returns c = counted_up (λ (j : ℕ). row_lines (rows_from c.args.trail.area.now c.args.trail.n j)) (omega arith) c.loop-i.invariant
