-- What was told of before the last test holds where that is made.
use Rattle.std.proofs.Common.{arith}
use Rattle.decide.proofs.Tells.{told_same}
use Rattle.trail_check.proofs.Agreement.{by_tests, to_tests}
use Rattle.trail_check.proofs.trail_ok.Goals as goal

pub returns-then-blank-2 : goal.returns-then-blank-2
returns-then-blank-2 c = told_same c.blank-then-blank-2.ensures
    (λ r. by_tests _ _ _ _ (record {
      front = grind arith;
      values = grind arith;
      places = grind arith;
      rising = grind arith;
      literals = grind arith;
      marks = λ i l m. r i (omega arith) (omega arith);
    }))
    (λ h i l m. (to_tests _ _ _ _ h).marks i (omega arith) (omega arith))
