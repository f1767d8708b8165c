-- A list shorter than three numbers a row is left; another gets the rows (`Replies`).
use Rattle.std.proofs.Common.{sym, arith}
use Rattle.area.specs.Layout.{atoms_of, length_of}
use Rattle.calls.specs.declared.Refusal.TheVariants.{TooShort}
use Rattle.causes.proofs.Listing.{listing_refused, listing_done}
use Rattle.reports.proofs.Rows.{rows_size}
use Rattle.reports.proofs.Replies.{trail_short, trail_listed}
use Rattle.reports.proofs.trail_whole.Goals as goal

pub returns-then-list-needed : goal.returns-then-list-needed
returns-then-list-needed c =
    rw c.trail-trail.ensures.rows (listing_refused _ _ _ _ (TooShort _) (trail_short c.args.checked.lim c.args.checked.area.now _ (omega arith)))

pub returns : goal.returns
returns c =
    let w = c.args.checked.area.now in
    let e = c.trail-trail.ensures in
    rw e.rows
    (listing_done _ _ _ _ _ _ _ (trail_listed c.args.checked.lim w _ (omega arith)) (sym (rows_size w (atoms_of w) (length_of w)))
    (rw (e.words, e.atoms, e.rows) at c.write_rows.ensures))
