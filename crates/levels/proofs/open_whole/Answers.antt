-- Refused as the check says, and otherwise the level in word 0 rises (`Raising`).
use Rattle.std.proofs.Common.{◌<◌, arith}
use Rattle.std.proofs.lemmas.Result.{err_from_is_err_and}
use Rattle.give.proofs.Refused.{stops}
use Rattle.levels.proofs.Replies.{opens_below}
use Rattle.levels.proofs.Raising.{open_raises}
use Rattle.levels.proofs.open_whole.Goals as goal

pub returns-in_err-check_open : goal.returns-in_err-check_open
returns-in_err-check_open c =
    let p = err_from_is_err_and c.from_residual.result c.from_residual.ensures.1 in
    rw (p.1, p.2) (stops c.requires.whole _ (c.in_err-check_open.ensures c.args.area.now c.requires.whole.level_is))

pub returns : goal.returns
returns c =
    let low : c.args.counters.level.0 < c.args.lim.levels =
    omega (arith, opens_below c.args.lim c.args.area.now (c.in_ok-check_open.ensures c.args.area.now c.requires.whole.level_is), c.requires.whole.level_is) in
    open_raises _ _ _ _ c.requires.fitting c.requires.whole low _ c.atoms_of-n.ensures _ c.set_header.ensures
