-- Refused as the check of the list says, and otherwise what the loop does (`Answering`).
use Rattle.std.proofs.Common.{sym, arith, rules}
use Rattle.std.proofs.lemmas.Result.{err_from_is_err_and}
use Rattle.calls.specs.Calls.{counted}
use Rattle.whole.specs.Inner.Usable.{Usable}
use Rattle.give.proofs.Refused.{stops}
use Rattle.search.proofs.Answering.{all_known, acts_handed}
use Rattle.search.proofs.search_within.Goals as goal

pub returns-in_err-check_search-clause-acts : goal.returns-in_err-check_search-clause-acts
returns-in_err-check_search-clause-acts c =
    let u : Usable c.args.lim c.args.area.now (counted c.args.counters) = search rules in
    let p = err_from_is_err_and c.from_residual.result c.from_residual.ensures.1 in
    rw (p.1, p.2) (stops u.whole _ (c.in_err-check_search.ensures c.args.lim))

pub search_whole-requires : goal.search_whole-requires
search_whole-requires c = record {
  usable = search rules;
  known = all_known c.args.lim c.args.area.now c.args.literals.now (sym (c.in_ok-check_search.ensures c.args.lim));
}

pub returns-clause-acts : goal.returns-clause-acts
returns-clause-acts c =
    let u : Usable c.args.lim c.args.area.now (counted c.args.counters) = search rules in
    let known = all_known c.args.lim c.args.area.now c.args.literals.now (sym (c.in_ok-check_search.ensures c.args.lim)) in
    acts_handed _ _ _ _ u.whole known _ _ c.search_whole.ensures.ends _ _ (grind arith) (grind arith)
