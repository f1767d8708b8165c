-- By the sign.
use mir.Syntax.{w64}
use mir.ValLaws.{to_z-of_z}
use Rattle.pages.proofs.Numbers.{negative_written, positive_written}
use Rattle.pages.proofs.Page.put_signed.Goals.{then-z-lt0, else-z-lt0}
use Rattle.pages.proofs.Page.put_signed.Goals as goal

pub returns : goal.returns
returns c =
    let back = to_z-of_z w64 c.args.z c.ranges.z in
    elim c.if-z-lt0.branch [
      | then-z-lt0 w ↦
          negative_written c.args.z (rw back at w.if-z-lt0.true) (rw back at c.unsigned_abs.ensures.value) w.put_bytes.ensures
          (rw w.self-is at c.put_number.ensures)
      | else-z-lt0 w ↦
          positive_written c.args.z (rw back at w.if-z-lt0.false) (rw back at c.unsigned_abs.ensures.value) (rw w.self-is at c.put_number.ensures)
    ]
