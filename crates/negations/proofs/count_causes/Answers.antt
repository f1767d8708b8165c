-- A place more is counted (`Loops`), and after the last one all are.
use Rattle.std.proofs.Common.{◌+◌, ◌≤◌, sym, ◌∙◌, arith}
use Rattle.area.specs.Layout.{merged_at}
use Rattle.negations.proofs.Loops.{Counted, counted_more, counted_same, counted_ends}
use Rattle.negations.proofs.count_causes.Goals as goal
use Rattle.negations.proofs.count_causes.Goals.{Joined-is_some, then-is_some, else-is_some}

again : (c : Joined-is_some) → (c.if-is_some.found ≤ c.loop-place.place + 1)
    × Counted c.args.sentence.area.now c.args.sentence.sizes.atoms c.args.sentence.sizes.sentences c.args.sentence.base c.args.limit (c.loop-place.place + 1) c.if-is_some.found
again c =
    let inside : c.loop-place.place ≤ merged_at c.args.sentence.area.now c.args.sentence.base = omega arith in
    elim c.if-is_some.branch [
      | then-is_some w ↦ (
        omega arith,
        rw w.found-is
            (counted_more c.args.sentence.ready c.args.limit c.loop-place.place inside c.loop-place.found _ c.negation_at.ensures (sym c.is_some.ensures ∙ w.if-is_some.true)
            c.loop-place.invariant.1),
      )
      | else-is_some w ↦ (
        omega arith,
        rw w.found-is
            (counted_same c.args.sentence.ready c.args.limit c.loop-place.place inside c.loop-place.found _ c.negation_at.ensures (sym c.is_some.ensures ∙ w.if-is_some.false)
            c.loop-place.invariant.1),
      )
    ]

pub loop-place-preserved : goal.loop-place-preserved
loop-place-preserved c = again (goal.at.loop-place-preserved c).Joined-is_some

pub returns-after-is_some : goal.returns-after-is_some
returns-after-is_some c =
    counted_ends c.args.sentence.ready c.args.limit (c.loop-place.place + 1) _ (omega arith) (again (goal.at.returns-after-is_some c).Joined-is_some).1
