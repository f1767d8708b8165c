use Rattle.std.proofs.Common.{arith}
use Rattle.reason_check.proofs.Told.{reason_inside}
use Rattle.reason_check.proofs.reason_ok.Goals as goal

pub has_atom-requires : goal.has_atom-requires
has_atom-requires c = rw c.record_at.ensures (reason_inside _ _ _ _ _ _ c.requires.0 (omega arith), omega (arith, c.requires.0.literals _ c.requires.1))
