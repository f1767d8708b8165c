-- The position falls at each call.
use Rattle.marking.proofs.+mark.Given as goal

abbrev pub decreases-mark : goal.decreases-mark
decreases-mark l = l.position
