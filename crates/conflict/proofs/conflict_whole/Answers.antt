-- The tests are those of the table (`Replies`), and the list is its answer (`Answers`).
use Rattle.std.proofs.Common.{◌-◌, arith}
use Rattle.calls.specs.declared.Refusal.TheVariants.{NoSentence}
use Rattle.causes.proofs.Listing.{listing_refused}
use Rattle.conflict.proofs.Conflicts.{ready_at, stored_at}
use Rattle.conflict.proofs.Replies.{conflict_unnumbered}
use Rattle.conflict.proofs.Answers.{conflict_asked, quiet_refused, clash_short, clash_listed}
use Rattle.conflict.proofs.conflict_whole.Goals as goal

pub returns-then-sentence-eq0 : goal.returns-then-sentence-eq0
returns-then-sentence-eq0 c =
    listing_refused _ _ _ _ NoSentence
    (conflict_unnumbered c.args.checked.lim c.args.checked.area.now c.args.sentence.0 _ _ c.sizes_of-sizes.ensures.sentences c.then-sentence-eq0.either)

pub invariant_of-clash : goal.invariant_of-clash
invariant_of-clash c = record {
  ready = rw (c.record_at.ensures, c.sizes_of-sizes.ensures.atoms, c.sizes_of-sizes.ensures.sentences)
      (ready_at c.args.checked.fitting c.args.checked.whole (c.args.sentence.0 - 1) (omega arith));
}

pub in_conflict-requires : goal.in_conflict-requires
in_conflict-requires c =
    rw (c.record_at.ensures, c.sizes_of-sizes.ensures.atoms, c.sizes_of-sizes.ensures.sentences)
    (stored_at c.args.checked.fitting c.args.checked.whole (c.args.sentence.0 - 1) (omega arith))

pub returns-then-not-in_conflict : goal.returns-then-not-in_conflict
returns-then-not-in_conflict c =
    quiet_refused c.args.checked.fitting c.args.checked.whole c.args.sentence.0 (omega arith) (omega arith) _
    (rw (c.record_at.ensures, c.sizes_of-sizes.ensures.atoms, c.sizes_of-sizes.ensures.sentences) at c.if-not-in_conflict.ensures)

pub count_causes-needed-requires : goal.count_causes-needed-requires
count_causes-needed-requires c =
    rw (c.sizes_of-sizes.ensures.atoms, c.length_of-rows.ensures)
    (conflict_asked c.args.checked.fitting c.args.checked.whole)

pub returns-then-list-needed : goal.returns-then-list-needed
returns-then-list-needed c =
    clash_short c.args.checked.fitting c.args.checked.whole c.args.sentence.0 (omega arith) (omega arith)
    (rw (c.record_at.ensures, c.sizes_of-sizes.ensures.atoms, c.sizes_of-sizes.ensures.sentences) at c.if-not-in_conflict.ensures) _
    (rw (c.record_at.ensures, c.sizes_of-sizes.ensures.atoms, c.sizes_of-sizes.ensures.sentences, c.length_of-rows.ensures) at c.count_causes-needed.ensures) (omega arith)

pub write_causes-requires : goal.write_causes-requires
write_causes-requires c = (
  rw (c.sizes_of-sizes.ensures.atoms, c.length_of-rows.ensures)
      (conflict_asked c.args.checked.fitting c.args.checked.whole),
  omega (arith, c.count_causes-needed.ensures),
)

pub returns : goal.returns
returns c =
    clash_listed c.args.checked.fitting c.args.checked.whole c.args.sentence.0 (omega arith) (omega arith)
    (rw (c.record_at.ensures, c.sizes_of-sizes.ensures.atoms, c.sizes_of-sizes.ensures.sentences) at c.if-not-in_conflict.ensures) _
    (rw (c.record_at.ensures, c.sizes_of-sizes.ensures.atoms, c.sizes_of-sizes.ensures.sentences, c.length_of-rows.ensures) at c.count_causes-needed.ensures) (omega arith)
    (rw (c.record_at.ensures, c.sizes_of-sizes.ensures.atoms, c.sizes_of-sizes.ensures.sentences, c.length_of-rows.ensures) at c.write_causes.ensures)
