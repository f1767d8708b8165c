-- Part behind part.
use Rattle.pages.proofs.Laws.{then}
use Rattle.bound_lines.proofs.put_bounds.Goals as goal

pub returns-in-Ok : goal.returns-in-Ok
returns-in-Ok c =
    let least = then c.put_bytes.ensures c.put_bound.ensures in
    rw c.in-Ok.is (then (then (then least c.put_bytes-in-Ok.ensures) c.put_bound-in-Ok.ensures) c.put_bytes-in-Ok-2.ensures)
