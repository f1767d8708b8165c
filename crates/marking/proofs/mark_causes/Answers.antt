-- A place's cause is marked, or it has none below the limit (`Naming`); after the last place all are.
use Rattle.std.specs.Prelude.{ℕ, get_or, None}
use Rattle.std.proofs.Common.{◌+◌, ◌≤◌, arith}
use mathlib.Core.Path.{subst}
use Rattle.meaning.specs.Merge.{scope}
use Rattle.causes.specs.Inner.Causes.{CauseAt, CauseStands}
use Rattle.area.specs.Layout.{record_at, merged_at, rule_at}
use Rattle.marking.proofs.Naming.{Naming, all_named, nothing_named, cause_named}
use Rattle.marking.proofs.mark_causes.Goals as goal
use Rattle.marking.proofs.mark_causes.Goals.{Joined-cause_at, in-Some, in_default}

-- the atom at the place that is handled, of the sentence at b
abbrev at_base : Joined-cause_at → ℕ → ℕ
at_base c b = get_or (scope (rule_at c.args.area.now c.args.sizes.atoms c.args.sizes.sentences b)) c.loop-place.place 0

pub cause_at-requires : goal.cause_at-requires
cause_at-requires c =
    let ready = c.requires.0 in (
      record { rows = ready.rows; trail_asked = ready.trail_asked; few = omega (arith, ready.position) },
      omega (arith, c.merged_at-place-end.ensures),
    )

again : (c : Joined-cause_at) → Naming c.args.area.now c.args.sizes.atoms c.args.sizes.sentences c.args.s c.args.limit c.args.marks.now
    (c.loop-place.place + 1) c.match-cause_at.marks
again c =
    let inside : c.loop-place.place ≤ merged_at c.args.area.now (record_at c.args.sizes.atoms c.args.s) = omega (arith, rw c.record_at.ensures at c.merged_at-place-end.ensures) in
    elim c.match-cause_at.branch [
      | in-Some w ↦ rw w.marks-is
          (cause_named _ _ _ _ _ _ c.requires.0 c.requires.1 _ _ c.loop-place.invariant inside w.in-Some.row (subst (λ b. CauseStands c.args.area.now c.args.sizes.atoms (at_base c b) c.args.limit w.in-Some.row) c.record_at.ensures w.in-Some.ensures))
      | in_default w ↦ rw w.marks-is
          (nothing_named _ _ _ _ _ _ c.requires.0 c.requires.1 _ _ c.loop-place.invariant inside (subst (λ b. CauseAt c.args.area.now c.args.sizes.atoms (at_base c b) c.args.limit None) c.record_at.ensures w.in_default.ensures))
    ]

pub loop-place-preserved : goal.loop-place-preserved
loop-place-preserved c = again (goal.at.loop-place-preserved c).Joined-cause_at

pub returns-after-cause_at : goal.returns-after-cause_at
returns-after-cause_at c =
    all_named _ _ _ _ _ _ c.requires.0 c.requires.1 _ _ (again (goal.at.returns-after-cause_at c).Joined-cause_at)
    (omega (arith, rw c.record_at.ensures at c.merged_at-place-end.ensures))
