-- The bounds of one sentence more, behind those of the first.
use native.Mathlib.Omega.{arith}
use Rattle.calls.specs.Calls.{area_state}
use Rattle.pages.proofs.Laws.{counted_up}
use Rattle.listing_lines.specs.Lines.{bound_lines}
use Rattle.listing_lines.proofs.Loops.{no_bounds, bound_more}
use Rattle.listing_lines.proofs.put_bounds.Goals as goal

pub loop-s-init : goal.loop-s-init
loop-s-init c = no_bounds (area_state c.args.checked.lim c.args.checked.area.now) c.args.page.now

pub loop-s-preserved : goal.loop-s-preserved
loop-s-preserved c =
    let b = c.bounds_whole-answer in bound_more c.args.checked.lim c.args.checked.area.now c.loop-s.s b.result b.ensures c.loop-s.invariant c.put_bound.ensures

pub returns : goal.returns
returns c = counted_up (bound_lines (area_state c.args.checked.lim c.args.checked.area.now)) (omega arith) c.loop-s.invariant
