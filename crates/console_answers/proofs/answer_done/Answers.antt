-- The page has room for every such line.
use Rattle.std.proofs.Common.{rules}
use Rattle.calls.specs.Calls.{done_returned}
use Rattle.answer_lines.specs.Lines.{done_line}
use Rattle.answer_lines.proofs.Fits.{done_fits}
use Rattle.console_answers.proofs.answer_done.Goals as goal

pub write-requires-clause-fits : goal.write-requires-clause-fits
write-requires-clause-fits c =
    let answer = done_returned c.args.answer in
    (done_line c.args.name.now answer, done_fits c.args.name.now answer c.requires, λ p q r. search rules)
