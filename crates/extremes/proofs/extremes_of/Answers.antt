-- The words that are read are those of the sentence's rule, whose folds do not wrap and stand for its extremes.
use Rattle.extremes.proofs.Stored.{entries_at, rooms_at, folds_extremes}
use Rattle.extremes.proofs.extremes_of.Goals as goal

pub folds_by_kind-requires-clause-entries : goal.folds_by_kind-requires-clause-entries
folds_by_kind-requires-clause-entries c =
    rw (c.entry_at-start.ensures, c.merged_at-merged.ensures) (entries_at c.kind_at-kind.result c.args.sentence.ready c.kind_at-kind.ensures)

pub folds_by_kind-requires-clause-rooms : goal.folds_by_kind-requires-clause-rooms
folds_by_kind-requires-clause-rooms c =
    rw (c.merged_at-merged.ensures, c.entry_at-start.ensures, c.start_of-first.ensures, c.constant_at.ensures)
    (rooms_at c.kind_at-kind.result c.args.sentence.ready c.kind_at-kind.ensures)

pub returns : goal.returns
returns c =
    folds_extremes c.kind_at-kind.result c.args.sentence.ready c.kind_at-kind.ensures
    (rw (c.merged_at-merged.ensures, c.entry_at-start.ensures, c.start_of-first.ensures, c.constant_at.ensures) at c.folds_by_kind.ensures)
