-- The passes one after the other leave the merge; sums and counts have the second.
use Rattle.merge.proofs.Passes.{room}
use Rattle.merge.proofs.merge_into.Goals as goal

pub sift-count-requires : goal.sift-count-requires
sift-count-requires c = room c.requires c.gather-m.result c.gather-m.auto.part c.gather-m.ensures
