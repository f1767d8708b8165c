-- After i records, the first i numbers of each array are the columns', where they are inside.
use Rattle.lent_records.specs.Records.{weights_in, literals_in}
use Rattle.lent_records.proofs.Records.{Front}
use Rattle.lent.proofs.copy_records.Given as goal

abbrev pub invariant-loop-i : goal.invariant-loop-i
invariant-loop-i l = record {
  weights : Front 4096 (weights_in l.records) l.copied.weights l.i;
  literals : Front 4096 (literals_in l.records) l.copied.literals l.i;
}
