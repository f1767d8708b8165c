-- The bounds of the first sentences are on the page.
use Rattle.calls.specs.Calls.{area_state}
use Rattle.pages.specs.Page.{Puts}
use Rattle.listing_lines.specs.Lines.{bound_lines}
use Rattle.listing_lines.proofs.put_bounds.Given as goal

abbrev pub invariant-loop-s : goal.invariant-loop-s
invariant-loop-s l = Puts l.fn.page l.page (bound_lines (area_state l.checked.lim l.checked.area.now) l.s)
