-- Refused as the check says, nothing done at the level, and below it rows cut, counters set and bounds renewed (`Lowering`).
use Rattle.std.proofs.Common.{◌<◌, ◌≤◌, refl, arith, rules}
use Rattle.std.proofs.lemmas.Result.{err_from_is_err_and}
use Rattle.give.proofs.Changes.{whole_stands}
use Rattle.give.proofs.Refused.{stops}
use Rattle.levels.proofs.Replies.{goes_below}
use Rattle.levels.proofs.Lowering.{take_back_stays, lowered_refreshable, take_back_lowers}
use Rattle.levels.proofs.take_back_whole.Goals as goal
use Rattle.levels.proofs.take_back_whole.Goals.{In_ok-check_take_back}

pub returns-in_err-check_take_back : goal.returns-in_err-check_take_back
returns-in_err-check_take_back c lim u =
    let p = err_from_is_err_and c.from_residual.result c.from_residual.ensures.1 in
    rw (p.1, p.2) (stops u.whole _ (c.in_err-check_take_back.ensures lim c.args.area.now u.whole.level_is))

pub returns-then-to-counters : goal.returns-then-to-counters
returns-then-to-counters c lim u = take_back_stays _ _ _ _ c.args.to.0 u.fitting u.whole (omega arith)

pub cut-left-requires : goal.cut-left-requires
cut-left-requires c = let u = c.requires.1 in
    rw c.sizes_of-sizes.ensures.atoms
    (record { lim = c.requires.0; level = c.args.counters.level.0; standing = whole_stands _ _ _ _ u.fitting u.whole }, refl)

-- the level is not above the current one
not_above : (c : In_ok-check_take_back) → c.args.to.0 ≤ c.args.counters.level.0
not_above c = let u = c.requires.1 in
    omega (arith, goes_below c.requires.0 c.args.area.now c.args.to.0 (c.in_ok-check_take_back.ensures c.requires.0 c.args.area.now u.whole.level_is), u.whole.level_is)

pub set_header-requires : goal.set_header-requires
set_header-requires c =
    let l = not_above ((goal.at.set_header-requires c).In_ok-check_take_back) in search rules

pub refresh-requires : goal.refresh-requires
refresh-requires c =
    let u = c.requires.1 in
    let e = c.sizes_of-sizes.ensures.atoms in
    let l : c.args.to.0 < c.args.counters.level.0 = let m = not_above ((goal.at.refresh-requires c).In_ok-check_take_back) in omega arith in
    rw (e, c.sizes_of-sizes.ensures.sentences) (
      c.requires.0,
      lowered_refreshable _ _ _ _ c.args.to.0 u.fitting u.whole l _ _ _ (rw e at c.cut-left.ensures) _ (rw e at c.set_header.ensures),
    )

pub returns : goal.returns
returns c lim u =
    let e = c.sizes_of-sizes.ensures.atoms in
    let l : c.args.to.0 < c.args.counters.level.0 = let m = not_above ((goal.at.returns c).In_ok-check_take_back) in omega arith in
    take_back_lowers _ _ _ _ c.args.to.0 u.fitting u.whole l _ _ _ (rw e at c.cut-left.ensures) _ _ (rw e at c.set_header.ensures)
    (rw (e, c.sizes_of-sizes.ensures.sentences) at c.refresh.ensures)
