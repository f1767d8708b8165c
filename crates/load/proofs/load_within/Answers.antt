-- A refusal is returned before a word is written; otherwise the sentences are stored and their bounds renewed.
use Rattle.std.proofs.Common.{◌≡◌, length, refl, sym, ap, arith, rules}
use Rattle.std.proofs.lemmas.List.{get_or-replicate}
use Rattle.std.proofs.lemmas.Result.{err_from_is_err_and}
use Rattle.columns.specs.declared.Answer.{Answer}
use Rattle.columns.specs.Columns.{held}
use Rattle.columns.specs.Answers.{answer}
use Rattle.columns.specs.Refusals.{load_answer}
use Rattle.columns.proofs.Answers.{refusal_some}
use Rattle.columns.proofs.Accepted.{accepted}
use Rattle.load.proofs.Ends.{refreshable, loaded}
use Rattle.load.proofs.load_within.Goals as goal

pub returns-in_err-check-clause-loads : goal.returns-in_err-check-clause-loads
returns-in_err-check-clause-loads c =
    let p = err_from_is_err_and c.from_residual.result c.from_residual.ensures.1 in
    rw (p.1, p.2) (record { answer_is = c.in_err-check.ensures; refused = λ _. refl; accepted = λ e. absurd (refusal_some _ e) })

pub invariant_of-sizes : goal.invariant_of-sizes
invariant_of-sizes c =
    let a = c.args in
    let none : answer 0 0 ≡ load_answer a.lim (length a.area.now) a.atoms.0 (held a.columns) = search rules in
    let few = (accepted a.lim (length a.area.now) a.atoms.0 (held a.columns) (ap {A = Answer} (λ r. r.code) (sym none))).shape in
    record { room = (omega (arith, c.requires.atoms, few.within.high), omega (arith, c.requires.sentences, few.within.few_sentences)) }

pub store_all-requires : goal.store_all-requires
store_all-requires c =
    let a = c.args in
    let none : answer 0 0 ≡ load_answer a.lim (length a.area.now) a.atoms.0 (held a.columns) = search rules in
    record { lim = a.lim; fitting = c.requires; accepted = accepted a.lim (length a.area.now) a.atoms.0 (held a.columns) (ap {A = Answer} (λ r. r.code) (sym none)) }

pub refresh-requires : goal.refresh-requires
refresh-requires c =
    let a = c.args in
    let none : answer 0 0 ≡ load_answer a.lim (length a.area.now) a.atoms.0 (held a.columns) = search rules in (
      a.lim,
      refreshable a.lim a.area.now _ a.atoms.0 (held a.columns) c.requires
          (accepted a.lim (length a.area.now) a.atoms.0 (held a.columns) (ap {A = Answer} (λ r. r.code) (sym none))) (search rules) _ refl,
    )

pub returns-clause-loads : goal.returns-clause-loads
returns-clause-loads c =
    let a = c.args in
    let none : answer 0 0 ≡ load_answer a.lim (length a.area.now) a.atoms.0 (held a.columns) = search rules in
    record {
      answer_is = none;
      refused = λ d. absurd (d refl);
      accepted = λ _. loaded a.lim a.area.now c.store_all.new.area a.atoms.0 (held a.columns) c.requires
          (accepted a.lim (length a.area.now) a.atoms.0 (held a.columns) (ap {A = Answer} (λ r. r.code) (sym none))) c.store_all.ensures
          c.refresh.new.area _ (λ k h. get_or-replicate 4097 k 1 0 (omega arith)) c.refresh.ensures;
    }
