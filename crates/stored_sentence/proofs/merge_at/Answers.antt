-- The merge into a part of the area that is lent and taken back.
use Rattle.std.proofs.Common.{◌+◌, ◌*◌, length, refl, ◌∙◌, arith}
use borrow.Rule.Slice.PartMut.{mid_len}
use Rattle.kinds.specs.Kinds.{meant}
use Rattle.stored_sentence.proofs.Parts.{merged_put}
use Rattle.stored_sentence.proofs.merge_at.Goals as goal

pub merge_into-requires : goal.merge_into-requires
merge_into-requires c = c.requires.mergeable _ (mid_len c.args.at (c.args.at + 2 * length c.args.weights.now) c.args.area.now c.requires.room ∙ omega arith)

pub returns : goal.returns
returns c =
    merged_put c.args.area.now c.merge_into.new.part c.args.at (c.args.at + 2 * length c.args.weights.now) (omega arith) (omega (arith, c.requires.room))
    (omega (arith, c.merge_into.ensures.size)) (meant c.args.kind) c.args.weights.now c.args.literals.now c.merge_into.result refl c.merge_into.ensures
