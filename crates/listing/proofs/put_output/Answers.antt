-- What is read keeps to the room of the columns; what is printed is the definition's case. The arrays hold what the reader left in the lent
-- columns, since these stay the same.
use mathlib.Core.Path.{refl, sym}
use Rattle.std.proofs.Common.{arith}
use Rattle.opb_text.proofs.Filled.{answer_fits}
use Rattle.pages.proofs.Laws.{puts_as}
use Rattle.listing.proofs.Reading.{refusal_printed, read_answered}
use Rattle.listing.proofs.put_output.Goals as goal

pub list_sentences-requires : goal.list_sentences-requires
list_sentences-requires c = (answer_fits c.args.text.now _ c.in-Ok.read (rw c.in-Ok.is at c.read_text-read.ensures.reads)).atoms

pub returns-in-Ok : goal.returns-in-Ok
returns-in-Ok c =
    read_answered c.read_text-read.ensures.reads refl refl c.in-Ok.read c.in-Ok.is c.list_sentences.ensures (grind (arith, c.read_text-read.ensures.same))

pub returns-in-Err : goal.returns-in-Err
returns-in-Err c =
    puts_as (sym (refusal_printed c.read_text-read.ensures.reads refl refl c.in-Err.refusal c.in-Err.is))
    (rw (c.number.ensures, c.value.ensures) at c.put_pair.ensures)
