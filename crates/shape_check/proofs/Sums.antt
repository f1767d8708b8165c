-- The sum of the counts so far, with the next one, is at most that of all.
use mathlib.Core.List.{List}
use Prim.Native.Nat.{ℕ, ◌+◌, ◌≤◌, ◌<◌}
use native.Mathlib.Omega.{arith}
use lib.ListN.{length, get_or}
use Rattle.std.proofs.lemmas.Bool.Decides.{nat_tests}
use Rattle.decide.specs.Below.{sum_first}
use Rattle.decide.proofs.Below.{sum_none, sum_step, sum_upto}

pub sum_next : (l : List ℕ) (k : ℕ) → k < length l → sum_first l k + get_or l k 0 ≤ sum_first l (length l)
sum_next l k h = omega (arith, sum_step l k, sum_upto l (k + 1) (length l) (omega arith))

pub ruleset counted = (sum_none, sum_step, sum_next, nat_tests)
