-- The range's ends are as far from the word of 0 as the limit.
use Rattle.std.proofs.Common.{arith}
use Rattle.word_check.proofs.Weights.{size_word}
use Rattle.word_check.proofs.near.Goals as goal

pub returns : goal.returns
returns c = let s = size_word c.args.x in record {
  yes = λ e. grind (arith, s, c.contains.ensures.cases);
  no = λ e h. grind (arith, s, c.contains.ensures.cases);
}
