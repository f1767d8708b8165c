use Rattle.std.proofs.Common.{arith, refl}
use Rattle.whole.proofs.CheckSentences.{none_passed, checkable, ready, one_passed, all_passed}
use Rattle.whole.proofs.sentences_ok.Goals as goal

pub loop-s-init : goal.loop-s-init
loop-s-init c = none_passed c.requires

pub sentence_ok-requires : goal.sentence_ok-requires
sentence_ok-requires c = rw c.record_at-base.ensures (checkable c.requires c.loop-s.s c.loop-s-test.true c.loop-s.seen c.loop-s.invariant.stamps)

pub invariant_of-matching : goal.invariant_of-matching
invariant_of-matching c = record {
  ready = rw c.record_at-base.ensures
      (ready c.requires c.loop-s.s c.loop-s-test.true (rw c.record_at-base.ensures at (c.if-not-sentence_ok.ensures.tells.yes refl)));
}

pub loop-s-preserved : goal.loop-s-preserved
loop-s-preserved c = one_passed c.requires c.loop-s.s c.loop-s-test.true _ _ c.loop-s.invariant c.sentence_ok.ensures.stamps
    (rw c.record_at-base.ensures at (c.if-not-sentence_ok.ensures.tells.yes refl)) (rw c.record_at-base.ensures at c.matching.ensures) c.if-not-matching.false

pub returns : goal.returns
returns c = all_passed c.requires c.loop-s.s _ c.loop-s.invariant (omega arith)
