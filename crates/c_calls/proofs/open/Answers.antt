-- What `ready` refuses, what it lets through, and what is done (`Changing`).
use Rattle.std.proofs.Common.{refl, arith}
use Rattle.std.proofs.lemmas.Result.{err_from_is_err_and}
use Rattle.book.specs.Table.{open_level}
use Rattle.calls.specs.Calls.{counted}
use Rattle.c_interface.specs.Interface.{next_counters}
use Rattle.c_calls.proofs.Changing.{Found, asked_for, ready_refused, ready_few, ready_never, ready_done, two_words}
use Rattle.c_calls.proofs.open.Goals as goal
use Rattle.c_calls.proofs.open.Goals.{After-check_open}

found : (c : After-check_open) → Found c.args.lim c.args.area.now (counted c.args.counters) open_level (Unit {0}) c.check_open.result
found c =
    let whole = c.is_whole.ensures.yes c.if-not-is_whole.false in
    record { whole = whole; code = c.check_open.ensures c.args.area.now whole.level_is }

pub returns-in_err-ready : goal.returns-in_err-ready
returns-in_err-ready c =
    let f = found (goal.at.returns-in_err-ready c).After-check_open in
    let p = err_from_is_err_and c.from_residual.result c.from_residual.ensures.1 in
    record {
      changes = rw (p.1, p.2) (ready_refused (asked_for f (grind arith)) next_counters c.args.next.now _ c.in_err-ready.ensures);
      small = rw (p.1, p.2) (ready_few (asked_for f (grind arith)) next_counters c.args.next.now (omega arith) _ c.in_err-ready.ensures);
    }

pub returns-in_err-opened : goal.returns-in_err-opened
returns-in_err-opened c =
    let f = found (goal.at.returns-in_err-opened c).After-check_open in
    absurd (ready_never (asked_for f (grind arith)) next_counters c.args.next.now c.in_ok-ready.ensures _
    c.in_err-opened.ensures)

pub returns-clause-changes : goal.returns-clause-changes
returns-clause-changes c =
    let f = found (goal.at.returns-clause-changes c).After-check_open in
    ready_done (asked_for f (grind arith)) next_counters c.args.next.now c.in_ok-ready.ensures two_words refl
    c.in_ok-opened.ensures
    c.put_front.ensures refl
