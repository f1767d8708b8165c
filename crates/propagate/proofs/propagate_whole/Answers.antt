-- Where the loop stops, the rows are those of the table's run, and the answer is the table's (`Ending`).
use Rattle.std.proofs.Common.{sym, arith}
use Rattle.types.specs.Sentences.{number_of}
use Rattle.types.specs.declared.Limits.{Limits}
use Rattle.calls.specs.Calls.{counted}
use Rattle.whole.specs.Inner.Usable.{Usable}
use Rattle.derive.specs.Inner.Stopped.{Stopped}
use Rattle.propagate.proofs.Ending.{longer, acts_ended}
use Rattle.propagate.proofs.propagate_whole.Goals as goal
use Rattle.propagate.proofs.propagate_whole.Goals.{After-run-end}

stopped : (c : After-run-end) (lim : Limits) → Usable lim c.args.area.now (counted c.args.counters)
    → Stopped lim c.args.area.now c.run-end.new.area c.args.counters.level.0 c.run-end.result.length (number_of c.run-end.result.sentence)
stopped c lim u =
    c.run-end.ensures.stopped lim
    (record { fitting = u.fitting; whole = u.whole; atoms = sym c.sizes_of-sizes.ensures.atoms; sentences = sym c.sizes_of-sizes.ensures.sentences })

pub overflow_sub-put : goal.overflow_sub-put
overflow_sub-put c =
    let u = c.requires.1 in
    longer _ _ _ _ _ _ _ u.whole (stopped ((goal.at.overflow_sub-put c).After-run-end) c.requires.0 u)

pub returns-in-None-clause-acts : goal.returns-in-None-clause-acts
returns-in-None-clause-acts c lim u =
    acts_ended _ _ _ _ _ _ _ u.whole (stopped ((goal.at.returns-in-None-clause-acts c).After-run-end) lim u) _ (grind arith)

pub returns-in-Some-clause-acts : goal.returns-in-Some-clause-acts
returns-in-Some-clause-acts c lim u =
    acts_ended _ _ _ _ _ _ _ u.whole (stopped ((goal.at.returns-in-Some-clause-acts c).After-run-end) lim u) _ (grind arith)
