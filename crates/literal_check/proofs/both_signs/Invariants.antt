-- No literal so far is the negation of an earlier one, and in the table stands the mark of each atom met.
use Rattle.std.proofs.Common.{◌≡◌, false, length}
use Rattle.decide.specs.Below.{some_below}
use Rattle.columns.specs.Indexed.{negated_before}
use Rattle.literal_check.proofs.Marks.{Met}
use Rattle.literal_check.proofs.both_signs.Given as goal

abbrev pub invariant-loop-literal : goal.invariant-loop-literal
invariant-loop-literal l = record {
  size : length l.met ≡ 4097;
  marks : Met l.literals l.literal-index l.met;
  none : some_below l.literal-index (negated_before l.literals) ≡ false;
}
