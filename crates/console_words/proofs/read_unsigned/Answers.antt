-- By the digit that is read.
use Rattle.std.proofs.Common.{arith}
use Rattle.std.proofs.lemmas.Grind.{common_steps}
use Rattle.console_words.proofs.Numbers.{digit_read}
use Rattle.console_words.proofs.read_unsigned.Goals as goal

pub loop-b-preserved : goal.loop-b-preserved
loop-b-preserved c = (grind (arith, common_steps), grind (arith, common_steps, digit_read))
