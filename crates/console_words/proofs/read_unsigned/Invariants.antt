-- What is left of the word is read on behind the digits so far.
use Rattle.std.proofs.Common.{◌≡◌, ◌<◌, ◌^◌, drop}
use Rattle.console_words.specs.Numbers.{unsigned_of}
use Rattle.console_words.proofs.Numbers.{read_on}
use Rattle.console_words.proofs.read_unsigned.Given as goal

abbrev pub invariant-loop-b : goal.invariant-loop-b
invariant-loop-b l = (l.n < 2 ^ 64) × (unsigned_of l.word ≡ read_on l.n (drop l.b-index l.word))
