use Rattle.std.proofs.Common.{refl, below_more}
use Rattle.trail_check.proofs.Trail.values_ok.Goals as goal

pub loop-atom-preserved : goal.loop-atom-preserved
loop-atom-preserved c = below_more _ _ c.loop-atom.invariant (λ _. c.if-not-value_ok.ensures.yes refl)
