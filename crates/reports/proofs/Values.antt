-- A stored word's bound: 0 is below every number, 2^63 and more above, and any other word a number.
use mathlib.Core.Path.{◌≡◌, sym, ◌∙◌, ap}
use Prim.Native.Nat.{ℕ, ◌<◌}
use native.Mathlib.Omega.{arith}
use lib.IntN.{ℤ, pos, ◌-ℤ◌}
use mir.Syntax.{w64}
use mir.Val.{to_z, of_z}
use Rattle.numbers.specs.Extended.{below, at}
use Rattle.numbers.specs.Words.{half, top, unword}
use Rattle.numbers.proofs.Words.{unword_below, unword_at}
use Rattle.reports.proofs.Signs.{number_is}

pub below_is : (x : ℕ) → x ≡ 0 → below ≡ unword x
below_is x e = sym (ap {A = ℕ} unword e ∙ unword_below)

pub number_at : (x : ℕ) → ¬ (x ≡ 0) → x < top → at (to_z w64 (of_z w64 (to_z w64 x -ℤ pos half))) ≡ unword x
number_at x d h = ap {A = ℤ} at (number_is x h) ∙ sym (unword_at x (omega (arith, d)) h)
