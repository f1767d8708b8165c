-- The first s sentences are stored, and the entries of sentence s start at `from`.
use Rattle.std.proofs.Common.{◌≤◌, length}
use Rattle.columns.specs.Columns.{held}
use Rattle.store.proofs.Storing.{Running}
use Rattle.store.proofs.store_all.Given as goal

abbrev pub invariant-loop-s : goal.invariant-loop-s
invariant-loop-s l = record { low : l.from ≤ length l.columns.weights.now; running : Running l.n (held l.columns) l.initial.area l.area l.s l.from }
