-- Part behind part.
use Rattle.pages.proofs.Laws.{then}
use Rattle.pages.proofs.Page.put_line.Goals as goal

pub returns : goal.returns
returns c = then (then c.put_bytes.ensures c.put_number.ensures) c.put_bytes-2.ensures
