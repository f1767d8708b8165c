use Rattle.std.proofs.Common.{◌≡◌, arith, rules}
use Rattle.extremes.proofs.Loops.{foldings_start, foldings_step, foldings_next, foldings_end}
use Rattle.extremes.proofs.folds.Goals as goal

pub loop-i-init : goal.loop-i-init
loop-i-init g c = foldings_start c.requires.rooms

pub step-both-requires : goal.step-both-requires
step-both-requires g c =
    foldings_step c.loop-i-test.true c.requires.entries c.loop-i.invariant c.entry_in.ensures c.empty-none.ensures c.reaches.ensures

pub loop-i-preserved : goal.loop-i-preserved
loop-i-preserved g c =
    foldings_next c.loop-i-test.true c.requires.entries c.loop-i.invariant c.entry_in.ensures c.empty-none.ensures c.reaches.ensures c.step-both.ensures

pub returns : goal.returns
returns g c = let e : c.loop-i.i ≡ c.args.count = omega arith in let f = foldings_end c.loop-i.invariant e in search rules
