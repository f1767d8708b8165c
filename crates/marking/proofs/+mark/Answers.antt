-- What one position adds and what those below it reach is what the position reaches (`Sweep`).
use Rattle.std.proofs.Common.{arith}
use Rattle.marking.proofs.Sweep.{swept_later}
use Rattle.marking.proofs.+mark.Goals as goal

pub returns-then-position-gt0 : goal.returns-then-position-gt0
returns-then-position-gt0 t c = swept_later _ _ _ _ (omega arith) _ _ c.mark_one.ensures _ c.mark.ensures
