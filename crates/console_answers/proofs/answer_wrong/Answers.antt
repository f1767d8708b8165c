-- The page has room for the word, the number and the line's end.
use Rattle.std.proofs.Common.{rules, arith, length-append}
use Rattle.std.specs.Prelude.{codes}
use Rattle.pages.proofs.Lengths.{decimal_short}
use Rattle.pages.specs.Lines.{number_line}
use Rattle.console_answers.proofs.answer_wrong.Goals as goal

pub write-requires-clause-fits : goal.write-requires-clause-fits
write-requires-clause-fits c =
    (number_line (codes "error ") c.args.number, simp length-append (omega (arith, decimal_short c.args.number)), λ p q r. search rules)
