-- Each arm of the match is a turn of the definition, and so is the fault that `?` passes up.
use mathlib.Core.Path.{◌≡◌, ap, ◌∙◌}
use Rattle.std.specs.Prelude.{Ok, Err}
use Rattle.std.proofs.Common.{rules}
use Rattle.opb_text.specs.declared.Refusal.TheVariants as refusal
use Rattle.opb_text.proofs.Decided.{next_is, fault_is, first, more, term, constraint, fault, end, long_answer}
use Rattle.opb_text.proofs.decide.Goals as goal
use Rattle.opb_text.proofs.decide.Goals.{in-Constraint, in-More, in-Term}

pub returns-then-text-gt65536 : goal.returns-then-text-gt65536
returns-then-text-gt65536 c = long_answer c.args.text.now c.args.sentences c.args.entries c.if-text-gt65536.true

pub loop-b-init : goal.loop-b-init
loop-b-init c = first c.args.text.now c.start-s.result c.start-s.ensures c.if-text-gt65536.false

pub loop-b-preserved : goal.loop-b-preserved
loop-b-preserved c =
    let i = c.loop-b.invariant in
    let h = c.loop-b-test.true in
    let n = next_is _ c.step.result c.map_err.ensures.cases c.map_err.ensures.variant c.in_ok-next.was in
    elim c.match-next.branch [
      | in-Constraint w ↦ rw (w.s-is, w.complete-is) (constraint i h c.step.ensures _ (n ∙ ap Ok w.in-Constraint.is))
      | in-More w ↦ rw (w.s-is, w.complete-is) (more i h c.step.ensures _ (n ∙ ap Ok w.in-More.is))
      | in-Term w ↦ rw (w.s-is, w.complete-is) (term i h c.step.ensures _ (n ∙ ap Ok w.in-Term.is))
    ]

pub returns-in_err-next : goal.returns-in_err-next
returns-in_err-next c =
    let f = fault_is _ c.step.result c.map_err.ensures.cases c.map_err.ensures.variant c.in_err-next.was in
    let refusal_is = f.2 in
    let passed_up = c.from_residual.ensures in
    let e : c.from_residual.result ≡ Err (refusal.Text f.0 c.loop-b.complete) = search rules in
    e ∙ fault c.loop-b.invariant c.loop-b-test.true c.step.ensures c.args.sentences c.args.entries f.0 f.1

pub returns : goal.returns
returns c = c.answer.ensures ∙ end c.loop-b.invariant c.args.sentences c.args.entries c.loop-b-test.false
