-- By the words passed and those that are left.
use Rattle.std.proofs.Common.{arith}
use Rattle.console_entries.proofs.Entries.{one_passed, none_left}
use Rattle.console_entries.proofs.behind_five.Goals as goal

pub returns-in_err-behind : goal.returns-in_err-behind
returns-in_err-behind c = rw c.from_residual.ensures (none_left _ _ c.loop.counter c.loop.invariant 5 (omega arith) c.in_err-behind.ensures)

pub loop-preserved : goal.loop-preserved
loop-preserved c = one_passed _ _ c.loop.counter c.loop.invariant c.in_ok-behind.ensures.words_are
