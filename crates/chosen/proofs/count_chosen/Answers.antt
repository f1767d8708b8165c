-- A position more adds its literal or none (`Chosen`).
use Rattle.std.proofs.Common.{◌∙◌, sym, ap, length, arith}
use Rattle.chosen.proofs.Chosen.{none_chosen, counted_more, counted_same}
use Rattle.chosen.proofs.count_chosen.Goals as goal
use Rattle.chosen.proofs.count_chosen.Goals.{then-is_some, else-is_some}

pub loop-i-init : goal.loop-i-init
loop-i-init c = (omega arith, ap length (sym (none_chosen _ _ _)))

pub loop-i-preserved : goal.loop-i-preserved
loop-i-preserved c =
    elim c.if-is_some.branch [
      | then-is_some w ↦ (
        omega arith,
        omega (
          arith,
          w.found-is,
          c.loop-i.invariant.1,
          counted_more _ c.args.trail.n c.args.marks.now c.loop-i.i _ c.chosen_at.ensures (sym c.is_some.ensures ∙ w.if-is_some.true),
        ),
      )
      | else-is_some w ↦ (
        omega arith,
        omega (
          arith,
          w.found-is,
          c.loop-i.invariant.1,
          counted_same _ c.args.trail.n c.args.marks.now c.loop-i.i _ c.chosen_at.ensures (sym c.is_some.ensures ∙ w.if-is_some.false),
        ),
      )
    ]
