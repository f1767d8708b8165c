-- The merge and the record leave the sentence stored.
use Rattle.std.proofs.Common.{◌≡◌, ◌+◌, ◌*◌, ◌≤◌, [], ◌∷◌, nat_abs, length, rules}
use Rattle.types.specs.Limits.{bound_limit}
use Rattle.numbers.specs.Words.{bias}
use Rattle.stored_sentence.proofs.Rules.{small, merge_asked, stored}
use Rattle.stored_sentence.proofs.store_one.Goals as goal

pub merge_at-set-requires : goal.merge_at-set-requires
merge_at-set-requires c =
    let a = c.args in
    rw (c.numbered.ensures, c.record_at.ensures)
    (merge_asked a.area.now a.sizes.atoms a.sizes.sentences a.s a.before a.sentence.head a.sentence.kind a.sentence.side a.sentence.bound a.sentence.weights.now a.sentence.literals.now c.requires)

pub number_word-b-requires : goal.number_word-b-requires
number_word-b-requires c =
    let a = c.args in
    let k = small a.area.now a.sizes.atoms a.sizes.sentences a.s a.before a.sentence.head a.sentence.kind a.sentence.side a.sentence.bound a.sentence.weights.now a.sentence.literals.now c.requires in
    let h : nat_abs a.sentence.bound ≤ bound_limit = k.bound_near in search rules

pub returns : goal.returns
returns c =
    let a = c.args in
    let b : c.number_word-b.result ≡ bias a.sentence.bound = search rules in
    let m = c.merge_at-set in
    let own : c.copy_from_slice.new.self ≡ a.sentence.head ∷ (a.sentence.kind + 8 * a.sentence.side + 16) ∷ bias a.sentence.bound ∷ m.result.constant ∷ 0 ∷ 0 ∷ a.before ∷ (length a.sentence.weights.now + 65536 * m.result.count) ∷ []
    = cc in
    rw c.record_at-own.ensures
    (stored a.area.now a.sizes.atoms a.sizes.sentences a.s a.before a.sentence.head a.sentence.kind a.sentence.side a.sentence.bound a.sentence.weights.now a.sentence.literals.now c.requires m.new.area m.result
    (rw (c.numbered.ensures, c.record_at.ensures) at m.ensures) c.copy_from_slice.new.self own)
