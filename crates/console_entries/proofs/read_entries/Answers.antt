-- By what is stored and what is left.
use Rattle.std.proofs.Common.{arith}
use Rattle.console_entries.proofs.Entries.{no_weights, no_literals, full}
use Rattle.console_entries.proofs.read_entries.Goals as goal

pub returns-in_default-clause-weights_after : goal.returns-in_default-clause-weights_after
returns-in_default-clause-weights_after c = no_weights c.args.line.now c.args.at c.in_default.ensures c.args.weights.now

pub returns-in_default-clause-literals_after : goal.returns-in_default-clause-literals_after
returns-in_default-clause-literals_after c = no_literals c.args.line.now c.args.at c.in_default.ensures c.args.literals.now

pub returns-clause-weights_after : goal.returns-clause-weights_after
returns-clause-weights_after c = (full c.loop-k.invariant (omega arith) (omega arith)).0

pub returns-clause-literals_after : goal.returns-clause-literals_after
returns-clause-literals_after c = (full c.loop-k.invariant (omega arith) (omega arith)).1
