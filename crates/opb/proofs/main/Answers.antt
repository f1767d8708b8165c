-- The page is never too short, so the output's end is on it.
use mathlib.Core.Path.{refl, sym}
use lib.Seq.{length-take-le}
use Rattle.listing_claims.proofs.Fits.{on_page}
use Rattle.opb.proofs.main.Goals as goal

pub slice_bounds-page-end : goal.slice_bounds-page-end
slice_bounds-page-end c = on_page c.run-end.ensures refl

pub slice_bounds-write_all-end : goal.slice_bounds-write_all-end
slice_bounds-write_all-end c = sym (length-take-le c.run-end.result c.run-end.new.page (on_page c.run-end.ensures refl))
