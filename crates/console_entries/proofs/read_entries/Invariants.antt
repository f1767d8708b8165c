-- What is left to store makes the whole columns (`Stored`).
use Rattle.std.proofs.Math.Seq.{sets}
use Rattle.console_entries.specs.Entries.{weights_in, literals_in}
use Rattle.console_entries.proofs.Entries.{Stored}
use Rattle.console_entries.proofs.read_entries.Given as goal

abbrev pub invariant-loop-k : goal.invariant-loop-k
invariant-loop-k l = Stored (sets l.fn.weights l.at (weights_in l.line)) (sets l.fn.literals l.at (literals_in l.line)) l.weights l.literals l.k l.rest
