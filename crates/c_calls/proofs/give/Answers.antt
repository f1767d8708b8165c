-- What `ready` refuses, what it lets through, and what is done (`Changing`).
use Rattle.std.proofs.Common.{refl, ℕ, w64, arith}
use mir.ValLaws.{to_z-of_z}
use Rattle.std.proofs.lemmas.Result.{err_from_is_err_and}
use Rattle.book.specs.Table.{give}
use Rattle.calls.specs.Calls.{counted}
use Rattle.c_interface.specs.Interface.{next_counters}
use Rattle.c_calls.proofs.Changing.{Found, asked_for, ready_refused, ready_few, ready_never, ready_done, two_words}
use Rattle.c_calls.proofs.give.Goals as goal
use Rattle.c_calls.proofs.give.Goals.{After-open_atom}

found : (c : After-open_atom) → Found c.args.lim c.args.area.now (counted c.args.counters) (give c.args.literal) ℕ c.open_atom.result
found c =
    let whole = c.is_whole.ensures.yes c.if-not-is_whole.false in
    record {
      whole = whole;
      code = rw (to_z-of_z w64 c.args.literal c.ranges.literal) at (c.open_atom.ensures.refusal c.args.lim _ (record { fitting = c.requires; whole = whole }));
    }

pub returns-in_err-ready : goal.returns-in_err-ready
returns-in_err-ready c =
    let f = found (goal.at.returns-in_err-ready c).After-open_atom in
    let p = err_from_is_err_and c.from_residual.result c.from_residual.ensures.1 in
    record {
      changes = rw (p.1, p.2) (ready_refused (asked_for f (grind arith)) next_counters c.args.next.now _ c.in_err-ready.ensures);
      small = rw (p.1, p.2) (ready_few (asked_for f (grind arith)) next_counters c.args.next.now (omega arith) _ c.in_err-ready.ensures);
    }

pub returns-in_err-given : goal.returns-in_err-given
returns-in_err-given c =
    let f = found (goal.at.returns-in_err-given c).After-open_atom in
    absurd (ready_never (asked_for f (grind arith)) next_counters c.args.next.now c.in_ok-ready.ensures _
    (rw (to_z-of_z w64 c.args.literal c.ranges.literal) at (c.in_err-given.ensures c.args.lim (record { fitting = c.requires; whole = f.whole }))))

pub returns-clause-changes : goal.returns-clause-changes
returns-clause-changes c =
    let f = found (goal.at.returns-clause-changes c).After-open_atom in
    ready_done (asked_for f (grind arith)) next_counters c.args.next.now c.in_ok-ready.ensures two_words refl
    (rw (to_z-of_z w64 c.args.literal c.ranges.literal) at (c.in_ok-given.ensures c.args.lim (record { fitting = c.requires; whole = f.whole })))
    c.put_front.ensures refl
