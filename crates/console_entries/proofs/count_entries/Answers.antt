-- By what is counted and what is left.
use Rattle.console_entries.proofs.Entries.{none_counted, all_counted, not_counted}
use Rattle.console_entries.proofs.count_entries.Goals as goal

pub loop-behind-init : goal.loop-behind-init
loop-behind-init c = none_counted c.args.line.now

pub returns-in-None : goal.returns-in-None
returns-in-None c = all_counted _ _ _ c.loop-behind.invariant c.in-None.ensures

pub returns-in-Some-split_word : goal.returns-in-Some-split_word
returns-in-Some-split_word c = not_counted _ _ _ c.loop-behind.invariant c.in-Some-split_word.ensures.words_are c.in_default.ensures
