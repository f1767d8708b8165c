-- By the first word.
use Rattle.std.proofs.Common.{◌∙◌}
use Rattle.std.specs.Prelude.{Some, None}
use Rattle.console_text.proofs.Lines.{empty_line, comment_line, named_line}
use Rattle.console_text.proofs.parse.Goals as goal

pub returns-in_default : goal.returns-in_default
returns-in_default c = empty_line c.args.line.now c.in_default.ensures

pub returns-then-word-eq35 : goal.returns-then-word-eq35
returns-then-word-eq35 c = comment_line c.args.line.now c.in-Some.ensures.words_are c.in-Some.ensures.some c.if-word-eq35.true

pub returns-in_err-read_name : goal.returns-in_err-read_name
returns-in_err-read_name c =
    c.from_residual.ensures ∙ named_line c.args.line.now c.in-Some.ensures.words_are c.in-Some.ensures.some c.if-word-eq35.false None c.in_err-read_name.ensures

pub returns : goal.returns
returns c = c.by_name.ensures ∙ named_line c.args.line.now c.in-Some.ensures.words_are c.in-Some.ensures.some c.if-word-eq35.false (Some _) c.in_ok-read_name.ensures
