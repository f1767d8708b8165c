-- The first i entries are gathered.
use Rattle.std.proofs.Common.{take}
use Rattle.kinds.specs.Kinds.{meant}
use Rattle.columns.specs.Columns.{paired}
use Rattle.gather.specs.Inner.Gather.{Gathered}
use Rattle.gather.proofs.gather.Given as goal

abbrev pub invariant-loop-i : goal.invariant-loop-i
invariant-loop-i l = Gathered (meant l.kind) (take l.i (paired l.weights l.literals)) l.part l.table l.seen l.m.count l.m.constant
