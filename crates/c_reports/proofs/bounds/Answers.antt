-- The bounds at the front of the lent words (`Reporting`).
use Rattle.std.proofs.lemmas.Result.{err_from_is_err_and}
use Rattle.c_reports.proofs.Reporting.{ready_refused, ready_done}
use Rattle.c_reports.proofs.bounds.Goals as goal

pub returns-in_err-found : goal.returns-in_err-found
returns-in_err-found c =
    let p = err_from_is_err_and c.from_residual.result c.from_residual.ensures.1 in
    let refused = ready_refused c.bounds_within-asked.result c.bounds_within-asked.ensures c.args.out.now _ c.in_err-found.ensures in
    record { reports = rw (p.1, p.2) refused.0; small = rw (p.1, p.2) refused.1 }

pub returns-clause-reports : goal.returns-clause-reports
returns-clause-reports c =
    ready_done c.bounds_within-asked.result c.bounds_within-asked.ensures c.args.out.now _ c.in_ok-found.ensures
    c.put_bounds.ensures
