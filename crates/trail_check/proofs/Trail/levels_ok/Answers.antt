use Rattle.std.proofs.Common.{arith}
use Rattle.decide.proofs.Tells.{told_yes, told_no}
use Rattle.trail_check.proofs.Levels.{rising_down, rising_up, rising_none}
use Rattle.trail_check.proofs.Trail.levels_ok.Goals as goal

pub returns-then-own-high : goal.returns-then-own-high
returns-then-own-high c = told_no (λ h.
    let q = (rising_down _ _ _ _ c.row_level-own.result (omega arith) (omega arith) (c.loop-i.invariant.left h)).0 in omega arith)

pub loop-i-preserved : goal.loop-i-preserved
loop-i-preserved c = record {
  all = λ h. c.loop-i.invariant.all (rising_up _ _ _ _ _ (omega arith) (omega arith) (omega arith) h);
  left = λ h. (rising_down _ _ _ _ _ (omega arith) (omega arith) (c.loop-i.invariant.left h)).1;
}

pub returns : goal.returns
returns c = told_yes (c.loop-i.invariant.all (rising_none _ _ _ _ (omega arith)))
