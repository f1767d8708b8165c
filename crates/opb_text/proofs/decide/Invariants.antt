-- The invariant: what is left to read, from here, gives the whole answer.

use Rattle.opb_text.proofs.Decided.{Sofar}
use Rattle.opb_text.proofs.decide.Given as goal

abbrev pub invariant-loop-b : goal.invariant-loop-b
invariant-loop-b l = Sofar l.text l.s l.complete l.b-index
