-- The page is handed back as the output was put on it.
use mathlib.Core.Path.{refl, subst}
use Rattle.std.proofs.Common.{arith}
use Rattle.listing.specs.Output.{Prints}
use Rattle.listing.proofs.Reading.{prints}
use Rattle.listing.proofs.run.Goals as goal

pub returns : goal.returns
returns c =
    let w : Prints c.args.text.now c.args.page.now c.put_output.new.page.bytes.now c.put_output.new.page.end =
    prints c.new-page.ensures.start c.new-page.ensures.bytes c.put_output.ensures refl in
    rw c.ended.ensures.place (subst (λ x. Prints c.args.text.now c.args.page.now x c.put_output.new.page.end)
    (grind (arith, c.put_output.ensures.same, c.new-page.ensures.same, c.ended.ensures.bytes)) w)
