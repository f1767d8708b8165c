use Rattle.std.proofs.Common.{arith, rules}
use Rattle.evaluate.proofs.Loops.{seconds_start, seconds_next, seconds_end}
use Rattle.evaluate.proofs.second.Goals as goal

pub loop-i-init : goal.loop-i-init
loop-i-init c = seconds_start c.none_of-none.ensures

pub loop-i-preserved : goal.loop-i-preserved
loop-i-preserved c =
    seconds_next c.loop-i-test.true c.requires c.loop-i.invariant c.entry_in.ensures c.none_of-none.ensures c.reach-x.ensures c.nearest.ensures
    (search rules) (search rules)

pub returns : goal.returns
returns c = seconds_end c.loop-i.invariant (omega arith)
