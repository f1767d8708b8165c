-- What `ready` refuses, what it lets through, and what is done (`Changing`).
use Rattle.std.proofs.Common.{refl, arith, Ok}
use Rattle.std.proofs.lemmas.Result.{err_from_is_err_and}
use Rattle.book.specs.Table.{propagate}
use Rattle.calls.specs.Calls.{counted}
use Rattle.c_interface.specs.Interface.{next_counted}
use Rattle.c_calls.proofs.Changing.{Found, ready_refused, ready_few, ready_done, three_words, counted_words}
use Rattle.c_calls.proofs.Sentences.{sentence_small}
use Rattle.c_calls.proofs.propagate.Goals as goal
use Rattle.c_calls.proofs.propagate.Goals.{After-ready}

found : (c : After-ready) → Found c.args.lim c.args.area.now (counted c.args.counters) propagate (Unit {0}) (Ok tt)
found c = record { whole = c.is_whole.ensures.yes c.if-not-is_whole.false; code = refl }

pub returns-in_err-ready : goal.returns-in_err-ready
returns-in_err-ready c =
    let f = found (goal.at.returns-in_err-ready c).After-ready in
    let p = err_from_is_err_and c.from_residual.result c.from_residual.ensures.1 in
    record {
      changes = rw (p.1, p.2) (ready_refused f (next_counted c.args.area.now) c.args.next.now _ c.in_err-ready.ensures);
      small = rw (p.1, p.2) (ready_few f (next_counted c.args.area.now) c.args.next.now (omega arith) _ c.in_err-ready.ensures);
    }

pub returns-in-Still-clause-changes : goal.returns-in-Still-clause-changes
returns-in-Still-clause-changes c =
    let f = found (goal.at.returns-in-Still-clause-changes c).After-ready in
    ready_done f (next_counted c.args.area.now) c.args.next.now c.in_ok-ready.ensures three_words (counted_words c.args.lim c.args.area.now)
    (c.in-Still.ensures.acts c.args.lim (record { fitting = c.requires; whole = f.whole })) c.put_front.ensures refl

pub returns-in-Conflict : goal.returns-in-Conflict
returns-in-Conflict c =
    let f = found (goal.at.returns-in-Conflict c).After-ready in
    let acts = c.in-Conflict.ensures.acts c.args.lim (record { fitting = c.requires; whole = f.whole }) in
    record {
      changes = ready_done f (next_counted c.args.area.now) c.args.next.now c.in_ok-ready.ensures three_words (counted_words c.args.lim c.args.area.now)
          acts c.put_front-in-Conflict.ensures refl;
      small = sentence_small f.whole refl acts;
    }
