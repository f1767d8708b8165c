-- One sentence more (`Settling`).
use Rattle.std.proofs.Common.{◌≡◌, arith}
use mathlib.Core.Path.{subst}
use Rattle.derive.specs.Inner.Settle.{Settled}
use Rattle.derive.proofs.Settling.{none_settled, one_settled}
use Rattle.derive.proofs.settle.Goals as goal

pub loop-s-init : goal.loop-s-init
loop-s-init c = none_settled _ _

pub loop-s-preserved : goal.loop-s-preserved
loop-s-preserved c = rw (c.clear_pending.ensures, c.record_at.ensures) (one_settled _ c.args.sizes.atoms c.loop-s.area c.loop-s.s (omega arith) c.loop-s.invariant)

pub returns : goal.returns
returns c = let e : c.loop-s.s ≡ c.args.sizes.sentences = omega arith in subst (Settled _ _ c.args.sizes.atoms) e c.loop-s.invariant
