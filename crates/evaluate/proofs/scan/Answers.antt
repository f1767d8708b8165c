use Rattle.std.proofs.Common.{arith}
use Rattle.evaluate.proofs.Loops.{scanning_starts, scanning_turns, scanning_found, scanning_next, scanning_ends}
use Rattle.evaluate.proofs.scan.Goals as goal

pub loop-i-init : goal.loop-i-init
loop-i-init c = scanning_starts c.requires.turnable

pub entry_turns-requires : goal.entry_turns-requires
entry_turns-requires c = scanning_turns c.loop-i-test.true c.requires.entries c.loop-i.invariant c.entry_in-e.ensures

pub loop-i-preserved : goal.loop-i-preserved
loop-i-preserved c =
    scanning_next c.loop-i-test.true c.requires.entries c.loop-i.invariant c.entry_in-e.ensures c.entry_turns.ensures c.if-entry_turns.false

pub returns : goal.returns
returns c = scanning_ends c.loop-i.invariant (omega arith)

pub returns-then-entry_turns : goal.returns-then-entry_turns
returns-then-entry_turns c =
    scanning_found c.loop-i-test.true c.requires.entries c.loop-i.invariant c.entry_in-e.ensures c.entry_turns.ensures c.if-entry_turns.true
    c.entry_wanted.ensures
