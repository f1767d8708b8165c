-- A position more writes its literal or none (`Chosen`).
use Rattle.std.proofs.Common.{◌<◌, ◌∙◌, sym, ap, length, rules, arith}
use mir.Syntax.{w64}
use mir.ValLaws.{to_z-of_z}
use Rattle.chosen.proofs.Chosen.{none_chosen, none_written, same_length, same_written, room, at_next, one_written}
use Rattle.chosen.proofs.write_chosen.Goals as goal
use Rattle.chosen.proofs.write_chosen.Goals.{in-Some, in_default}

pub loop-i-init : goal.loop-i-init
loop-i-init c = (ap length (sym (none_chosen _ _ _)), none_written _ _ _ _)

pub bounds-list-at : goal.bounds-list-at
bounds-list-at c =
    room _ c.args.trail.n _ c.loop-i.i c.args.trail.len _ _ c.loop-i.invariant.1 (omega arith) c.requires.1 c.in-Some.literal c.in-Some.ensures c.loop-i.at
    c.loop-i.invariant.0

pub loop-i-preserved : goal.loop-i-preserved
loop-i-preserved c =
    let below : c.loop-i.i < c.args.trail.len = omega arith in
    elim c.match-chosen_at.branch [
      | in-Some w ↦ rw (w.at-is, w.list-is, to_z-of_z w64 w.in-Some.literal (search rules)) (
        at_next _ c.args.trail.n _ c.loop-i.i c.args.trail.len _ _ c.loop-i.invariant.1 below c.requires.1 w.in-Some.literal
            w.in-Some.ensures c.loop-i.at c.loop-i.invariant.0,
        one_written _ c.args.trail.n _ c.loop-i.i c.args.trail.len _ _ c.loop-i.invariant.1 below c.requires.1 w.in-Some.literal
            w.in-Some.ensures c.loop-i.at c.loop-i.invariant.0,
      )
      | in_default w ↦ rw (w.at-is, w.list-is) (
        c.loop-i.invariant.0 ∙ sym (same_length _ c.args.trail.n _ c.loop-i.i w.in_default.ensures),
        same_written _ c.args.trail.n _ c.loop-i.i _ _ w.in_default.ensures c.loop-i.invariant.1,
      )
    ]
