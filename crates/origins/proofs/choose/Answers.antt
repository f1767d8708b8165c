-- One mark at the position, and what it reaches, are the marks that choose the origins (`Handing`).
use Rattle.std.proofs.Common.{◌∙◌}
use Rattle.std.proofs.Math.ListN.{length-set}
use Rattle.origins.proofs.Handing.{markable, room, room_left, choice}
use Rattle.origins.proofs.choose.Goals as goal

pub invariant_of-trail : goal.invariant_of-trail
invariant_of-trail c = record { room = rw (c.sizes_of-sizes.ensures.atoms, c.length_of.ensures) (room _ _ c.requires.0) }

pub mark-requires : goal.mark-requires
mark-requires c =
    rw (c.sizes_of-sizes.ensures.atoms, c.sizes_of-sizes.ensures.sentences)
    (markable _ _ c.requires.0 _ c.requires.1 _ (length-set c.args.marks.now c.args.position _))

pub count_chosen-requires : goal.count_chosen-requires
count_chosen-requires c =
    rw c.length_of.ensures
    (room_left _ _ c.requires.0 _ c.requires.1 _ (c.mark.ensures.size ∙ length-set c.args.marks.now c.args.position _))

pub returns : goal.returns
returns c =
    choice _ _ c.requires.0 _ c.requires.1 _ (rw (c.sizes_of-sizes.ensures.atoms, c.sizes_of-sizes.ensures.sentences) at c.mark.ensures) _
    (rw (c.sizes_of-sizes.ensures.atoms, c.length_of.ensures) at c.count_chosen.ensures)
