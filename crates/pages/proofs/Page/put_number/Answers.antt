-- What `io::decimal` promises is the definition's text.
use Rattle.pages.proofs.Numbers.{number_written}
use native.Mathlib.Omega.{arith}
use Rattle.pages.proofs.Page.put_number.Goals as goal

pub returns : goal.returns
returns c = number_written (omega (arith, c.ranges.n)) c.decimal-k.ensures.len c.decimal-k.ensures.digits c.put_bytes.ensures
