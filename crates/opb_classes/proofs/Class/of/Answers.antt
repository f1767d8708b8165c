-- The table's rule holds at each of its 256 entries: one computed test.
use Rattle.std.proofs.Common.{◌≡◌, ℕ, ◌<◌, slice_index_or, Bool, arith}
use Rattle.opb_classes.specs.declared.TheConstants.{CLASSES}
use Rattle.opb_classes.specs.declared.Class.{Class}
use Rattle.opb_classes.specs.declared.Class.TheVariants.{Blank}
use Rattle.opb_classes.specs.Bytes.{class_of, is}
use Rattle.opb_classes.proofs.Table.{at_each}
use Rattle.opb_classes.proofs.Is.{same}
use Rattle.opb_classes.proofs.Class.of.Goals as goal

right : ℕ → Class → Bool
right b k = is k (class_of b)

table : (b : ℕ) → b < 256 → slice_index_or CLASSES.now b Blank ≡ class_of b
unfolding right
table b h = same (slice_index_or CLASSES.now b Blank) (class_of b) (at_each right CLASSES.now tt b h Blank)

pub returns : goal.returns
returns c = table c.args.b (omega arith)
