-- Word 0 and the words from 2^63 on are no numbers (`Values`).
use Rattle.std.proofs.Common.{sym}
use Rattle.numbers.proofs.Words.{unword_above}
use Rattle.reports.proofs.Values.{below_is, number_at}
use Rattle.reports.proofs.bound_of.Goals as goal

pub returns-then-x-eq0 : goal.returns-then-x-eq0
returns-then-x-eq0 c = below_is c.args.x c.if-x-eq0.true

pub returns-then-x-ge-TOP : goal.returns-then-x-ge-TOP
returns-then-x-ge-TOP c = sym (unword_above c.args.x c.if-x-ge-TOP.true)

pub returns-else-x-ge-TOP : goal.returns-else-x-ge-TOP
returns-else-x-ge-TOP c = number_at c.args.x c.if-x-eq0.false c.if-x-ge-TOP.false
