-- The first numbers are on the page.
use Rattle.std.proofs.Common.{take}
use Rattle.pages.specs.Page.{Puts}
use Rattle.answer_lines.specs.Lines.{numbers}
use Rattle.list_lines.proofs.put_numbers.Given as goal

abbrev pub invariant-loop-number : goal.invariant-loop-number
invariant-loop-number l = Puts l.fn.page l.page (numbers (take l.number-index l.list))
