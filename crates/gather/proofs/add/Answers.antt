-- An entry that is not taken changes nothing but the note of its literal; one that is taken is turned and put, and what it frees is added to
-- the constant.
use Rattle.std.proofs.Common.{sym, ◌∙◌, arith}
use Rattle.gather.proofs.Gathering.{weight_top, left_out, constant_low, constant_high, puttable, taken_in}
use Rattle.gather.proofs.add.Goals as goal

pub returns-then-not-takes : goal.returns-then-not-takes
returns-then-not-takes c = record { next = λ es g t. rw c.takes.ensures.1 (left_out g t (sym c.takes.ensures.0 ∙ c.if-not-takes.true)) }

pub turn-t-requires : goal.turn-t-requires
turn-t-requires c = (weight_top c.requires.gathered c.requires.takeable, c.requires.takeable.low, c.requires.takeable.high)

pub overflow_add-constant : goal.overflow_add-constant
overflow_add-constant c = omega (arith, constant_high c.requires.gathered c.requires.takeable c.turn-t.ensures)

pub overflow_sub-constant : goal.overflow_sub-constant
overflow_sub-constant c = constant_low c.requires.gathered c.requires.takeable c.turn-t.ensures

pub put-count-requires : goal.put-count-requires
put-count-requires c = puttable c.requires.gathered c.requires.takeable c.turn-t.ensures

pub returns : goal.returns
returns c = record {
  next = λ es g t. rw c.takes.ensures.1 (taken_in g t c.turn-t.ensures c.put-count.ensures (sym c.takes.ensures.0 ∙ c.if-not-takes.false));
}
