-- What `give_whole` says of the literal's bits, read back.
use Rattle.std.proofs.Common.{w64, rules}
use mir.ValLaws.{to_z-of_z}
use Rattle.calls.specs.Calls.{counted}
use Rattle.whole.specs.Inner.Usable.{Usable}
use Rattle.give.proofs.give_within.Goals as goal

pub returns : goal.returns
returns c =
    let u : Usable c.args.lim c.args.area.now (counted c.args.counters) = search rules in
    rw (to_z-of_z w64 c.args.literal c.ranges.literal) at (c.give_whole.ensures c.args.lim u)
