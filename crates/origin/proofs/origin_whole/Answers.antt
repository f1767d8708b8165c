-- The tests are those of the table, and the literal's position gives its origins (`Replies`).
use Rattle.std.proofs.lemmas.Result.{err_from_is_err_and}
use Rattle.causes.proofs.Gives.{trail_asked}
use Rattle.located.specs.Inner.Located.{OnTrail}
use Rattle.located.proofs.Refusing.{located_refused, located_on}
use Rattle.calls.specs.Calls.{counted}
use Rattle.origin.proofs.Replies.{strange, absent, listing_at}
use Rattle.origin.proofs.origin_whole.Goals as goal

pub locate-requires : goal.locate-requires
locate-requires c = trail_asked _ _ _ c.args.checked.fitting c.args.checked.whole

pub returns-in_err-position : goal.returns-in_err-position
returns-in_err-position c =
    let p = err_from_is_err_and c.from_residual.result c.from_residual.ensures.1 in
    rw (p.1, p.2)
    (located_refused c.args.checked.lim c.args.checked.area.now _ _ c.args.literal c.ranges.literal _ c.in_err-position.ensures
    (strange c.args.checked.lim c.args.checked.area.now c.args.literal _) (absent c.args.checked.lim c.args.checked.area.now c.args.literal _))

pub list_origins-requires : goal.list_origins-requires
list_origins-requires c =
    let on : OnTrail c.args.checked.area.now c.args.literal c.in_ok-position.position = located_on c.ranges.literal c.in_ok-position.ensures in
    record {
      lim = c.args.checked.lim;
      counters = counted c.args.checked.counters;
      fitting = c.args.checked.fitting;
      whole = c.args.checked.whole;
      position = on.position.inside;
    }

pub returns : goal.returns
returns c =
    listing_at c.args.checked.lim c.args.checked.area.now c.args.literal _ (located_on c.ranges.literal c.in_ok-position.ensures) _ _ c.list_origins.ensures
