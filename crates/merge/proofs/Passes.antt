-- What is collected has room in the part.
use mathlib.Core.Path.{◌≡◌}
use mathlib.Core.List.{List, []}
use Prim.Native.Nat.{ℕ, ◌*◌, ◌≤◌}
use native.Mathlib.Omega.{arith}
use lib.IntN.{ℤ}
use lib.ListN.{length}
use Rattle.meaning.specs.Meaning.{Kind, count}
use Rattle.columns.specs.Columns.{paired}
use Rattle.gather.specs.declared.Merged.{Merged}
use Rattle.gather.specs.Inner.Gather.{Mergeable, Collected}
use Rattle.gather.proofs.Taking.{paired_length}

module _ {part : List ℕ} {kind : Kind} {ws ls : List ℤ} (m : Mergeable part kind ws ls) {gathered : List ℕ} (r : Merged)
    (size : length gathered ≡ length part) (c : Collected kind (paired ws ls) gathered r.count r.constant) where
  pub few : r.count ≤ length ws
  few = omega (arith, c.few, paired_length ws ls m.same)

  pub room : (2 * r.count ≤ length gathered) × (r.count ≤ 4096)
  room = let a = m.room in let b = m.few in (omega (arith, few), omega (arith, few))
