-- The name, and the front of the list that the answer says.
use mathlib.Core.Path.{ap, ◌∙◌}
use Prim.Native.Nat.{ℕ}
use lib.ListN.{take}
use Rattle.answer_lines.specs.Lines.{numbers}
use Rattle.pages.proofs.Laws.{then, puts_as}
use Rattle.list_lines.proofs.Lists.{front}
use Rattle.list_lines.proofs.put_list.Goals as goal

pub returns-in-Ok : goal.returns-in-Ok
returns-in-Ok c =
    let list = c.args.list.now in
    let listed = puts_as (ap (λ (n : ℕ). numbers (take n list)) c.listed_of.ensures.1 ∙ ap numbers (front c.in-Ok.value list)) c.put_numbers.ensures in
    rw c.in-Ok.is (then (then c.put_bytes.ensures listed) c.put_bytes-in-Ok.ensures)
