-- Blanks, then a word up to the next blank or the line's end.
use Rattle.std.proofs.Common.{arith}
use Rattle.std.proofs.Math.Seq.{take_all}
use Rattle.console_words.specs.Words.{blank}
use Rattle.console_words.proofs.Words.{no_word, end_fits, split_is}
use Rattle.console_words.proofs.split_word.Goals as goal

pub returns-in_err-word : goal.returns-in_err-word
returns-in_err-word c = rw c.from_residual.ensures (no_word c.args.line.now c.in_err-word.ensures)

pub split_at-requires : goal.split_at-requires
split_at-requires c = rw (c.unwrap_or.ensures, c.word_end.ensures) (end_fits blank _)

pub returns : goal.returns
returns c =
    split_is c.args.line.now c.in_ok-word.ensures c.word_end.ensures c.unwrap_or.ensures c.split_at.ensures.front (grind (arith, take_all))
