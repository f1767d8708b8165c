-- The invariant: the columns hold what has been read, and what is left to read, from here, gives the whole text.

use Rattle.opb_text.proofs.Filled.{Filling}
use Rattle.opb_text.proofs.fill.Given as goal

abbrev pub invariant-loop-b : goal.invariant-loop-b
invariant-loop-b l = Filling l.text l.initial.columns l.initial.head l.columns l.s l.head l.b-index
