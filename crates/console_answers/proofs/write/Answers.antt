-- The page has room for the line.
use mathlib.Core.Path.{ap}
use native.Mathlib.Omega.{arith}
use lib.ListN.{length}
use Rattle.pages.proofs.Laws.{on_page}
use Rattle.console_answers.proofs.write.Goals as goal

pub text-requires : goal.text-requires
text-requires g c =
    on_page c.new-page.ensures.start (c.requires.fits.2 _ _ c.put.ensures) (omega (arith, c.requires.fits.1, ap length c.new-page.ensures.bytes))
