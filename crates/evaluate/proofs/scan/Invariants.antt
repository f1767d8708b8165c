-- Scanning the words from entry i on comes to the whole answer, and turning their open entries does not wrap.
use Rattle.evaluate.proofs.Loops.{Scanning}
use Rattle.evaluate.proofs.scan.Given as goal

abbrev pub invariant-loop-i : goal.invariant-loop-i
invariant-loop-i l = Scanning l.body l.area l.n l.i
