use Rattle.std.proofs.Common.{arith}
use Rattle.decide.proofs.Tells.{told_equal}
use Rattle.reason_check.proofs.Told.{entry_told, past_told}
use Rattle.reason_check.proofs.has_atom.Goals as goal

pub returns-then-entry-merged : goal.returns-then-entry-merged
returns-then-entry-merged c = entry_told _ _ _ _ c.requires.0.room c.in-Some.entry _ _ (omega arith) (omega arith)
    (rw c.entry_literal_at.ensures (told_equal _ _))

pub returns-else-entry-merged : goal.returns-else-entry-merged
returns-else-entry-merged c = record { yes = λ e. absurd (grind arith); no = λ e. past_told _ _ _ _ c.requires.0.room _ _ c.requires.1 (omega arith) }
