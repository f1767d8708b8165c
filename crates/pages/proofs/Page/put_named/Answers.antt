-- Part behind part.
use Rattle.pages.proofs.Laws.{then}
use Rattle.pages.proofs.Numbers.{signed_put}
use Rattle.pages.proofs.Page.put_named.Goals as goal

pub returns : goal.returns
returns c = then c.put_bytes.ensures (signed_put c.ranges.z c.put_signed.ensures)
