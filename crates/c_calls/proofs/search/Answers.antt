-- What `ready` refuses, what it lets through, and what is done (`Changing`).
use Rattle.std.proofs.Common.{refl, sym, ap, arith}
use Rattle.std.proofs.lemmas.Result.{err_from_is_err_and}
use Rattle.std.specs.Prelude.{Option}
use Rattle.types.specs.declared.Sentence.{Sentence}
use Rattle.book.specs.Table as table
use Rattle.calls.specs.Calls.{counted, Acts}
use Rattle.search.specs.Search.{number_of, end_returned}
use Rattle.search.proofs.Answering.{all_known, acts_searched}
use Rattle.c_interface.specs.Interface.{packed, next_searched}
use Rattle.c_calls.proofs.Changing.{Found, ready_refused, ready_few, ready_passed, ready_done, four_words}
use Rattle.c_calls.proofs.Sentences.{sentence_small}
use Rattle.c_calls.proofs.search.Goals as goal
use Rattle.c_calls.proofs.search.Goals.{After-check_search, After-search_whole-told}

found : (c : After-check_search) → Found c.args.lim c.args.area.now (counted c.args.counters) (table.search c.args.literals.now) (Unit {0}) c.check_search.result
found c = record { whole = c.is_whole.ensures.yes c.if-not-is_whole.false; code = c.check_search.ensures c.args.lim }

pub returns-in_err-ready : goal.returns-in_err-ready
returns-in_err-ready c =
    let f = found (goal.at.returns-in_err-ready c).After-check_search in
    let p = err_from_is_err_and c.from_residual.result c.from_residual.ensures.1 in
    record {
      changes = rw (p.1, p.2) (ready_refused f next_searched c.args.next.now _ c.in_err-ready.ensures);
      small = rw (p.1, p.2) (ready_few f next_searched c.args.next.now (omega arith) _ c.in_err-ready.ensures);
    }

pub search_whole-told-requires : goal.search_whole-told-requires
search_whole-told-requires c =
    let f = found (goal.at.search_whole-told-requires c).After-check_search in
    record {
      usable = record { fitting = c.requires; whole = f.whole };
      known = all_known c.args.lim c.args.area.now c.args.literals.now (ready_passed f next_searched c.args.next.now c.in_ok-ready.ensures);
    }

done : (c : After-search_whole-told) → Found c.args.lim c.args.area.now (counted c.args.counters) (table.search c.args.literals.now) (Unit {0}) c.check_search.result
    → Acts c.args.lim c.args.area.now c.search_whole-told.new.area (counted c.args.counters) (counted c.search_whole-told.result.counters)
    (table.search c.args.literals.now) (end_returned c.search_whole-told.result)
done c f =
    acts_searched c.args.lim c.args.area.now c.args.literals.now (counted c.args.counters) f.whole
    (all_known c.args.lim c.args.area.now c.args.literals.now (ready_passed f next_searched c.args.next.now c.in_ok-ready.ensures))
    _ _ c.search_whole-told.ensures.ends

pub returns-in-Some : goal.returns-in-Some
returns-in-Some c =
    let d = goal.at.returns-in-Some c in
    let f = found d.After-check_search in
    let told = done d.After-search_whole-told f in
    let named = ap {A = Option Sentence} number_of (sym c.in-Some.is) in
    record {
      changes = ready_done f next_searched c.args.next.now c.in_ok-ready.ensures four_words refl told c.put_front.ensures (ap (packed 0) named);
      small = rw named (sentence_small f.whole (ready_passed f next_searched c.args.next.now c.in_ok-ready.ensures) told);
    }

pub returns-in-None-clause-changes : goal.returns-in-None-clause-changes
returns-in-None-clause-changes c =
    let d = goal.at.returns-in-None-clause-changes c in
    let f = found d.After-check_search in
    ready_done f next_searched c.args.next.now c.in_ok-ready.ensures four_words refl (done d.After-search_whole-told f)
    c.put_front.ensures (ap {A = Option Sentence} (λ o. packed 0 (number_of o)) (sym c.in-None.is))
