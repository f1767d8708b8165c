-- The first m entries are those of the first k whose weight is not 0, and the words from entry k on are as they were.
use Rattle.std.proofs.Common.{◌≤◌}
use Rattle.merge.proofs.Sifting.{Sifting}
use Rattle.merge.proofs.sift.Given as goal

abbrev pub invariant-loop-k : goal.invariant-loop-k
invariant-loop-k l = record { few : l.m ≤ l.k; sifting : Sifting l.fn.part l.part l.k l.m }
