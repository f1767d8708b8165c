-- The record, the entries and the unused words are told of, and a sentence is whole where these are (`Sentences`).
use Rattle.std.proofs.Common.{arith, refl, sym, ◌∙◌}
use Rattle.theory_check.proofs.Sentences.{record_wrong, entries_wrong, rest_told}
use Rattle.theory_check.proofs.sentence_ok.Goals as goal
use Rattle.theory_check.proofs.sentence_ok.Goals.{then-record_ok, else-record_ok}

pub returns-then-entries_by_kind : goal.returns-then-entries_by_kind
returns-then-entries_by_kind c = elim c.if-record_ok.branch [
  | then-record_ok w ↦
      rw w.seen-is (rest_told _ _ _ _ _ (omega arith) _ c.entry_at-at.ensures _ _ (omega arith) (omega arith) c.requires.few
      (w.if-record_ok.ensures.yes refl) (rw (sym w.value-is ∙ c.if-entries_by_kind.true) at w.entries_by_kind.ensures) c.blank.ensures)
  | else-record_ok w ↦ absurd (cc)
]

pub returns-else-entries_by_kind : goal.returns-else-entries_by_kind
returns-else-entries_by_kind c = elim c.if-record_ok.branch [
  | then-record_ok w ↦ rw (w.seen-is, c.if-entries_by_kind.false) (entries_wrong _ _ _ _ _ (omega arith) _ c.entry_at-at.ensures
      (rw (sym w.value-is ∙ c.if-entries_by_kind.false) at w.entries_by_kind.ensures))
  | else-record_ok w ↦ rw (w.seen-is, c.if-entries_by_kind.false) (record_wrong _ _ _ _ _ (omega arith) _ c.entry_at-at.ensures
      (w.if-record_ok.ensures.no refl) c.requires.stamps)
]
