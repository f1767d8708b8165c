-- The rows that are there, and how many the answer says.
use mathlib.Core.Path.{ap}
use Prim.Native.Nat.{ℕ, ◌/◌}
use Rattle.numbers.specs.Text.{bytes}
use Rattle.pages.proofs.Laws.{then_line, counted_up}
use Rattle.answer_lines.specs.Lines.{row_lines}
use Rattle.trail_lines.proofs.put_trail.Goals as goal

pub returns-in-Ok : goal.returns-in-Ok
returns-in-Ok c =
    let rows = counted_up (row_lines c.args.list.now) (ap (λ (n : ℕ). n / 3) c.listed_of.ensures.1) c.put_rows.ensures in
    rw c.in-Ok.is (then_line (bytes "trail ") _ rows c.put_line.ensures)
