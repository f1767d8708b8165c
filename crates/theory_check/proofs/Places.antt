-- The places of the sentences: how many entries stand before each, and that a sentence's own room is inside the area's.
use mathlib.Core.Path.{◌≡◌, refl, ap}
use mathlib.Core.List.{List}
use Prim.Native.Nat.{ℕ, ◌+◌, ◌*◌, ◌<◌, ◌≤◌}
use native.Mathlib.Omega.{arith}
use native.Mathlib.Numerals.{add-one}
use lib.ListN.{length}
use Rattle.types.specs.declared.Limits.{Limits}
use Rattle.decide.proofs.Below.{rises}
use Rattle.area.specs.Layout.{record_at, written_at, merged_at, entry_at, entries_before}
use Rattle.theory_check.specs.Theory.{PlacesOk}

pub none_before : (w : List ℕ) (n : ℕ) → entries_before w n 0 ≡ 0
unfolding entries_before
none_before w n = refl

pub one_more : (w : List ℕ) (n s : ℕ) → entries_before w n (s + 1) ≡ entries_before w n s + written_at w (record_at n s)
unfolding entries_before
one_more w n s = ap {A = ℕ} (entries_before w n) (add-one s)

-- the entries before a sentence, one sentence after the other
pub ruleset counted = (none_before, one_more)

-- sentence s in the places of all
pub record Placed (lim : Limits) (w : List ℕ) (n S s : ℕ) : Type 0 where
  pub own : record_at n s + 8 ≤ length w
  pub few : written_at w (record_at n s) ≤ lim.each
  pub merged : merged_at w (record_at n s) ≤ written_at w (record_at n s)
  pub room : entry_at w n S (record_at n s) + 2 * written_at w (record_at n s) ≤ length w

-- the rooms of the sentences, one behind the other, end where those of all do
pub room_below : (lim : Limits) (w : List ℕ) (n S s : ℕ) → PlacesOk lim w n S → s < S
    → entry_at w n S (record_at n s) + 2 * written_at w (record_at n s) ≤ 4 * n + 8 * S + 2 * entries_before w n S
room_below lim w n S s p l =
    omega (arith, (p.each s l).place, one_more w n s, rises (entries_before w n) (s + 1) S (omega arith) (λ i t. omega (arith, one_more w n i)))

pub placed : (lim : Limits) (w : List ℕ) (n S s : ℕ) → PlacesOk lim w n S → s < S → Placed lim w n S s
placed lim w n S s p l = let q = p.each s l in omega (arith, p.room, room_below lim w n S s p l)
