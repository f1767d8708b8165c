-- The words of the rest are those behind the words passed.
use Rattle.std.proofs.Common.{◌≡◌, drop}
use Rattle.console_words.specs.Words.{words}
use Rattle.console_entries.proofs.behind_five.Given as goal

abbrev pub invariant-loop : goal.invariant-loop
invariant-loop l = words l.rest ≡ drop l.counter (words l.line)
