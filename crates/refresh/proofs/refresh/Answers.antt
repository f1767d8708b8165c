use Rattle.refresh.proofs.Passing.{next_touchable, one_passed}
use Rattle.refresh.proofs.refresh.Goals as goal

pub refresh_one-requires : goal.refresh_one-requires
refresh_one-requires c = rw c.record_at.ensures (next_touchable c.requires.1 c.loop-s.invariant c.loop-s-test.true)

pub loop-s-preserved : goal.loop-s-preserved
loop-s-preserved c = one_passed c.requires.1 c.loop-s.invariant c.loop-s-test.true (rw c.record_at.ensures at c.refresh_one.ensures)
