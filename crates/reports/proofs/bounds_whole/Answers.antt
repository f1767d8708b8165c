-- The code's tests are those of the table, and the stored words those of the two bounds (`Replies`).
use Rattle.std.proofs.Common.{sym, ap, arith}
use Rattle.book.specs.Table.{Answer, returned_by}
use Rattle.calls.specs.Calls.{counted}
use Rattle.reports.proofs.Replies.{bounds_refused, bounds_stored}
use Rattle.reports.proofs.bounds_whole.Goals as goal

pub returns-then-sentence-eq0 : goal.returns-then-sentence-eq0
returns-then-sentence-eq0 c =
    ap {A = Answer} returned_by
    (sym (bounds_refused c.args.checked.lim c.args.checked.area.now c.args.sentence.0 _ c.sizes_of-sizes.ensures.sentences c.then-sentence-eq0.either))

pub returns : goal.returns
returns c =
    rw (c.bound_of.ensures, c.bound_of-2.ensures, c.least_at.ensures, c.greatest_at.ensures, c.record_at-base.ensures, c.sizes_of-sizes.ensures.atoms)
    (ap {A = Answer} returned_by
    (sym (bounds_stored c.args.checked.lim c.args.checked.area.now (counted c.args.checked.counters) c.args.checked.fitting c.args.checked.whole c.args.sentence.0 (omega arith) (omega arith))))
