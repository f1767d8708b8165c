-- The page has room for every such line.
use Rattle.std.proofs.Common.{rules}
use Rattle.calls.specs.Calls.{bounds_returned}
use Rattle.answer_lines.specs.Lines.{bounds_line}
use Rattle.answer_lines.proofs.Fits.{bounds_fits}
use Rattle.console_answers.proofs.answer_bounds.Goals as goal

pub write-requires-clause-fits : goal.write-requires-clause-fits
write-requires-clause-fits c = (bounds_line (bounds_returned c.args.answer), bounds_fits (bounds_returned c.args.answer), λ p q r. search rules)
