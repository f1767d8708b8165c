-- Refused as `open_atom` says; otherwise the atom is open, and the literal's word and the level are what `advance` asks (`Giving`).
use Rattle.std.proofs.Common.{◌≡◌, w64, arith}
use mir.ValLaws.{to_z-of_z}
use Rattle.std.proofs.lemmas.Result.{err_from_is_err_and}
use Rattle.numbers.specs.Words.{literal_word}
use Rattle.types.specs.declared.Limits.{Limits}
use Rattle.calls.specs.Calls.{counted}
use Rattle.whole.specs.Inner.Usable.{Usable}
use Rattle.give.proofs.Refused.{stops}
use Rattle.give.proofs.Giving.{Open, open_atom, give_advanceable, give_done}
use Rattle.give.proofs.give_whole.Goals as goal
use Rattle.give.proofs.give_whole.Goals.{In_ok-atom, After-word_of-word}

pub returns-in_err-atom : goal.returns-in_err-atom
returns-in_err-atom c lim u =
    let p = err_from_is_err_and c.from_residual.result c.from_residual.ensures.1 in
    rw (p.1, p.2) (stops u.whole _ (rw (to_z-of_z w64 c.args.literal c.ranges.literal) at (c.in_err-atom.ensures.refusal lim _ u)))

free : (c : In_ok-atom) (lim : Limits) → Usable lim c.args.area.now (counted c.args.counters) → Open c.args.area.now c.args.literal
free c lim u =
    open_atom lim _ _ u c.args.literal (rw (to_z-of_z w64 c.args.literal c.ranges.literal) at (c.in_ok-atom.ensures.refusal lim _ u))

told_word : (c : After-word_of-word) → c.word_of-word.result ≡ literal_word c.args.literal
told_word c = rw (to_z-of_z w64 c.args.literal c.ranges.literal) at c.word_of-word.ensures

pub word_of-word-requires : goal.word_of-word-requires
word_of-word-requires c =
    let u = c.requires.1 in
    let k = free ((goal.at.word_of-word-requires c).In_ok-atom) c.requires.0 u in
    let a = rw (to_z-of_z w64 c.args.literal c.ranges.literal) at c.in_ok-atom.ensures.is_atom in
    (c.in_ok-atom.ensures.is_atom, omega (arith, a, k.high, u.whole.theory.atoms_high, u.fitting.atoms))

pub advance-requires : goal.advance-requires
advance-requires c =
    let d = goal.at.advance-requires c in
    let k = free d.In_ok-atom c.requires.0 c.requires.1 in
    rw (c.sizes_of-sizes.ensures.atoms, c.sizes_of-sizes.ensures.sentences, told_word d.After-word_of-word)
    (c.requires.0, c.args.counters.level.0, give_advanceable c.requires.0 _ (counted c.args.counters) c.requires.1 c.args.literal k.low k.high k.free)

pub returns : goal.returns
returns c lim u =
    let d = goal.at.returns c in
    let k = free d.In_ok-atom lim u in
    let had = counted c.args.counters in
    let advanced = rw (c.sizes_of-sizes.ensures.atoms, c.sizes_of-sizes.ensures.sentences, told_word d.After-word_of-word) at c.advance.ensures in
    give_done lim _ had u c.args.literal k.low k.high k.free _
    (advanced lim had.level_is (give_advanceable lim _ had u c.args.literal k.low k.high k.free))
