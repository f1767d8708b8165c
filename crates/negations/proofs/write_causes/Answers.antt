-- A place more is written (`Loops`), and after the last one all are.
use Rattle.std.proofs.Common.{◌+◌, ◌≤◌, rules, arith}
use mir.Syntax.{w64}
use mir.ValLaws.{to_z-of_z}
use Rattle.area.specs.Layout.{merged_at}
use Rattle.negations.proofs.Loops.{Writing, room_here, writing_more, writing_same, writing_ends}
use Rattle.negations.proofs.write_causes.Goals as goal
use Rattle.negations.proofs.write_causes.Goals.{Joined-negation_at, in-Some, in_default}

pub bounds-list-at : goal.bounds-list-at
bounds-list-at c =
    room_here c.args.sentence.ready c.args.limit c.loop-place.place (omega arith) c.loop-place.invariant c.requires.1 c.in-Some.negation c.in-Some.ensures

again : (c : Joined-negation_at) → Writing c.args.sentence.area.now c.args.sentence.sizes.atoms c.args.sentence.sizes.sentences c.args.sentence.base c.args.limit c.args.start c.args.list.now
    (c.loop-place.place + 1) c.match-negation_at.at c.match-negation_at.list
again c =
    let inside : c.loop-place.place ≤ merged_at c.args.sentence.area.now c.args.sentence.base = omega arith in
    elim c.match-negation_at.branch [
      | in-Some w ↦ rw (w.at-is, w.list-is, to_z-of_z w64 w.in-Some.negation (search rules))
          (writing_more c.args.sentence.ready c.args.limit c.loop-place.place inside c.loop-place.invariant c.requires.1 w.in-Some.negation w.in-Some.ensures)
      | in_default w ↦ rw (w.at-is, w.list-is)
          (writing_same c.args.sentence.ready c.args.limit c.loop-place.place inside c.loop-place.invariant w.in_default.ensures)
    ]

pub loop-place-preserved : goal.loop-place-preserved
loop-place-preserved c = again (goal.at.loop-place-preserved c).Joined-negation_at

pub returns-after-negation_at : goal.returns-after-negation_at
returns-after-negation_at c =
    writing_ends c.args.sentence.ready c.args.limit (omega arith) (again (goal.at.returns-after-negation_at c).Joined-negation_at)
