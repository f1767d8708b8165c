-- The page has room for every such line.
use Rattle.std.proofs.Common.{rules}
use Rattle.columns.specs.Answers.{answer_of}
use Rattle.answer_lines.specs.Lines.{plan_line}
use Rattle.answer_lines.proofs.Fits.{plan_fits}
use Rattle.console_answers.proofs.answer_plan.Goals as goal

pub write-requires-clause-fits : goal.write-requires-clause-fits
write-requires-clause-fits c = (plan_line (answer_of c.args.answer), plan_fits (answer_of c.args.answer), λ p q r. search rules)
