-- The page has room for a list of that length, whatever its numbers are.
use Rattle.std.proofs.Common.{rules, arith}
use Rattle.calls.specs.Calls.{listed_returned}
use Rattle.answer_lines.specs.Lines.{list_line}
use Rattle.answer_lines.proofs.Fits.{list_fits}
use Rattle.console_answers.proofs.answer_list.Goals as goal

pub write-requires-clause-fits : goal.write-requires-clause-fits
write-requires-clause-fits c =
    let answer = listed_returned c.args.answer in
    let list = c.args.list.now in
    (list_line c.args.name.now answer list, omega (arith, list_fits c.args.name.now answer list c.requires, c.told-list), λ p q r. search rules)
