-- What is left of the table's run comes to the whole run.
use Rattle.std.proofs.Common.{◌≡◌, ◌-◌, length}
use Rattle.types.specs.declared.Limits.{Limits}
use Rattle.find.specs.Inner.Find.{Searchable}
use Rattle.derive.proofs.Reaching.{Reached}
use Rattle.derive.proofs.run.Given as goal

abbrev pub invariant-loop-area : goal.invariant-loop-area
invariant-loop-area l =
    (length l.area ≡ length l.initial.area)
    × ((lim : Limits) → Searchable lim l.initial.area l.sizes.atoms l.sizes.sentences l.len l.level → Reached lim l.initial.area l.area l.sizes.atoms l.sizes.sentences l.level l.len l.length)

abbrev pub decreases-loop-area : goal.decreases-loop-area
decreases-loop-area l = l.sizes.atoms - l.length
