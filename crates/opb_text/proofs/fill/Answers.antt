-- Each arm of the match puts what it has read.
use mathlib.Core.Path.{ap, ◌∙◌}
use native.Mathlib.Omega.{arith}
use Rattle.std.specs.Prelude.{Ok}
use Rattle.opb_text.proofs.Filled.{few_variables, first, few, more, term_room, term, rows_room, constraint, no_fault, end}
use Rattle.opb_text.proofs.fill.Goals as goal
use Rattle.opb_text.proofs.fill.Goals.{in-More, in-Term, in-Constraint}

pub overflow_add-head : goal.overflow_add-head
overflow_add-head c = omega (arith, few_variables c.requires)

pub loop-b-init : goal.loop-b-init
loop-b-init c = first c.requires c.start-s.ensures

pub put_term-requires : goal.put_term-requires
put_term-requires c = term_room c.loop-b.invariant c.loop-b-test.true c.step.ensures _ (c.in-Ok.is ∙ ap Ok c.in-Term.is)

pub put_rows-requires : goal.put_rows-requires
put_rows-requires c = rows_room c.loop-b.invariant c.loop-b-test.true c.step.ensures _ (c.in-Ok.is ∙ ap Ok c.in-Constraint.is)

pub overflow_add-head-in-Constraint : goal.overflow_add-head-in-Constraint
overflow_add-head-in-Constraint c = omega (arith, few c.loop-b.invariant)

pub loop-b-preserved : goal.loop-b-preserved
loop-b-preserved c =
    let i = c.loop-b.invariant in
    let h = c.loop-b-test.true in
    elim c.match-next.branch [
      | in-More w ↦ rw (w.columns-is, w.s-is, w.head-is) (more i h c.step.ensures _ (c.in-Ok.is ∙ ap Ok w.in-More.is))
      | in-Term w ↦ rw (w.columns-is, w.s-is, w.head-is)
          (term i h c.step.ensures _ (c.in-Ok.is ∙ ap Ok w.in-Term.is) w.put_term.ensures.same w.put_term.ensures.holds)
      | in-Constraint w ↦ rw (w.columns-is, w.s-is, w.head-is)
          (constraint i h c.step.ensures _ (c.in-Ok.is ∙ ap Ok w.in-Constraint.is) w.put_rows.ensures.same w.put_rows.ensures.holds)
    ]

pub returns-in_default : goal.returns-in_default
returns-in_default c = no_fault c.loop-b.invariant c.loop-b-test.true c.step.ensures _ c.in_default.is

pub returns : goal.returns
returns c = record { same = c.loop-b.invariant.same; holds = end c.loop-b.invariant c.loop-b-test.false }
