-- The reply to opening a level is read off its answer, and the literal is open in the opened state too (`Trying`).
use Rattle.std.proofs.Common.{w64}
use mir.ValLaws.{to_z-of_z}
use Rattle.std.proofs.lemmas.Result.{err_from_is_err_and}
use Rattle.calls.specs.Calls.{counted}
use Rattle.whole.specs.Inner.Usable.{Usable}
use Rattle.candidates.proofs.Trying.{level_refused, moved, tried}
use Rattle.candidates.proofs.try_literal.Goals as goal

pub returns-in_err-opened : goal.returns-in_err-opened
returns-in_err-opened c =
    let p = err_from_is_err_and c.from_residual.result c.from_residual.ensures.1 in
    rw p.1 (level_refused _ _ _ _ _ c.requires.usable.whole _ c.in_err-opened.ensures)

pub returns : goal.returns
returns c =
    let u = c.requires.usable in
    let a = c.in_ok-opened.ensures in
    let opened : Usable c.args.lim c.open_whole.new.area (counted c.in_ok-opened.opened) =
    record { fitting = u.fitting; whole = (moved _ _ _ _ _ u.whole a).whole } in
    tried _ _ _ _ _ u.whole a c.args.literal c.requires.known c.requires.off _ _
    (rw (to_z-of_z w64 c.args.literal c.ranges.literal) at (c.give_whole.ensures c.args.lim opened))
