-- A table without marks is asked for (`Handing`).
use Rattle.origins.proofs.Handing.{room, unmarked_blank}
use Rattle.origins.proofs.list_origins.Goals as goal

pub choose-needed-requires : goal.choose-needed-requires
choose-needed-requires c = (c.requires, unmarked_blank _ _ c.requires)

pub invariant_of-trail : goal.invariant_of-trail
invariant_of-trail c = record { room = rw (c.atoms_of.ensures, c.length_of.ensures) (room _ _ c.requires) }
