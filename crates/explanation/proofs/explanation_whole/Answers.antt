-- The tests are those of the table (`Replies`), and the list is its answer (`Answers`).
use Rattle.std.proofs.Common.{◌≡◌, suc, ◌∙◌, sym, arith}
use Rattle.std.proofs.Math.ListN.{length-set}
use Rattle.std.proofs.lemmas.Result.{err_from_is_err_and}
use mir.Syntax.{w64}
use mir.Val.{to_z, of_z}
use mir.ValLaws.{to_z-of_z}
use Rattle.calls.specs.declared.Refusal.TheVariants.{Given}
use Rattle.causes.proofs.Gives.{trail_asked}
use Rattle.causes.proofs.Listing.{listing_refused}
use Rattle.located.specs.Inner.Located.{OnTrail}
use Rattle.located.proofs.Refusing.{located_refused, located_on}
use Rattle.explanation.proofs.Replies.{explain_strange, explain_absent, explain_given}
use Rattle.explanation.proofs.Answers.{Derived, reason_asked, reason_ready, others_few, explanation_short, explanation_listed}
use Rattle.explanation.proofs.explanation_whole.Goals as goal
use Rattle.explanation.proofs.explanation_whole.Goals.{In-Some}

pub locate-requires : goal.locate-requires
locate-requires c = trail_asked _ _ _ c.args.checked.fitting c.args.checked.whole

pub returns-in_err-position : goal.returns-in_err-position
returns-in_err-position c =
    let p = err_from_is_err_and c.from_residual.result c.from_residual.ensures.1 in
    rw (p.1, p.2)
    (located_refused c.args.checked.lim c.args.checked.area.now _ _ c.args.literal c.ranges.literal _ c.in_err-position.ensures
    (explain_strange c.args.checked.lim c.args.checked.area.now c.args.literal _) (explain_absent c.args.checked.lim c.args.checked.area.now c.args.literal _))

pub row_reason-requires : goal.row_reason-requires
row_reason-requires c =
    let on : OnTrail c.args.checked.area.now c.args.literal c.in_ok-position.position = located_on c.ranges.literal c.in_ok-position.ensures in
    omega (arith, on.position.inside, (trail_asked _ _ _ c.args.checked.fitting c.args.checked.whole).room.few)

pub returns-in_default : goal.returns-in_default
returns-in_default c =
    let on : OnTrail c.args.checked.area.now c.args.literal c.in_ok-position.position = located_on c.ranges.literal c.in_ok-position.ensures in
    let zero : c.row_reason.result ≡ 0 = omega (arith, c.in_default.ensures) in
    listing_refused _ _ _ _ Given
    (explain_given c.args.checked.lim c.args.checked.area.now c.args.literal _ on.known _ on.position (sym (rw c.sizes_of-sizes.ensures.atoms at c.row_reason.ensures) ∙ zero))

derived : (c : In-Some) → Derived c.args.checked.area.now c.args.literal c.in_ok-position.position c.in-Some.sentence
derived c =
    let next : c.row_reason.result ≡ suc c.in-Some.sentence = omega (arith, c.in-Some.ensures) in
    record {
      on = located_on c.ranges.literal c.in_ok-position.ensures;
      reason = sym (rw c.sizes_of-sizes.ensures.atoms at c.row_reason.ensures) ∙ next;
    }

pub invariant_of-reason : goal.invariant_of-reason
invariant_of-reason c = record {
  ready = rw (c.record_at.ensures, c.sizes_of-sizes.ensures.atoms, c.sizes_of-sizes.ensures.sentences)
      (reason_ready c.args.checked.fitting c.args.checked.whole (derived (goal.at.invariant_of-reason c).In-Some));
}

pub count_causes-needed-requires : goal.count_causes-needed-requires
count_causes-needed-requires c =
    rw c.sizes_of-sizes.ensures.atoms
    (reason_asked c.args.checked.fitting c.args.checked.whole (derived (goal.at.count_causes-needed-requires c).In-Some))

pub overflow_add-needed : goal.overflow_add-needed
overflow_add-needed c =
    let counted = rw (c.record_at.ensures, c.sizes_of-sizes.ensures.atoms, c.sizes_of-sizes.ensures.sentences) at c.count_causes-needed.ensures in
    omega (arith, counted, others_few c.args.checked.fitting c.args.checked.whole (derived (goal.at.overflow_add-needed c).In-Some))

pub returns-then-list-needed : goal.returns-then-list-needed
returns-then-list-needed c =
    explanation_short c.args.checked.fitting c.args.checked.whole (derived (goal.at.returns-then-list-needed c).In-Some) c.args.list.now
    (rw (c.record_at.ensures, c.sizes_of-sizes.ensures.atoms, c.sizes_of-sizes.ensures.sentences) at c.count_causes-needed.ensures) (omega arith)

pub write_causes-requires : goal.write_causes-requires
write_causes-requires c =
    let size = length-set c.args.list.now 0 (to_z w64 (of_z w64 c.args.literal)) in (
      rw c.sizes_of-sizes.ensures.atoms
          (reason_asked c.args.checked.fitting c.args.checked.whole (derived (goal.at.write_causes-requires c).In-Some)),
      omega (arith, size, c.count_causes-needed.ensures),
    )

pub returns : goal.returns
returns c =
    explanation_listed c.args.checked.fitting c.args.checked.whole (derived (goal.at.returns c).In-Some) c.args.list.now
    (rw (c.record_at.ensures, c.sizes_of-sizes.ensures.atoms, c.sizes_of-sizes.ensures.sentences) at c.count_causes-needed.ensures)
    (to_z-of_z w64 c.args.literal c.ranges.literal) (omega arith)
    (rw (c.record_at.ensures, c.sizes_of-sizes.ensures.atoms, c.sizes_of-sizes.ensures.sentences) at c.write_causes.ensures)
