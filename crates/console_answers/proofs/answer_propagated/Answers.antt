-- The page has room for every such line.
use Rattle.std.proofs.Common.{rules}
use Rattle.answer_lines.specs.Lines.{propagated_line}
use Rattle.answer_lines.proofs.Fits.{propagated_fits}
use Rattle.console_answers.proofs.answer_propagated.Goals as goal

pub write-requires-clause-fits : goal.write-requires-clause-fits
write-requires-clause-fits c = (propagated_line c.args.answer, propagated_fits c.args.answer, λ p q r. search rules)
