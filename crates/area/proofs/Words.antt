-- Words that are 0 from one number to another, counted from any place.
use mathlib.Core.Path.{◌≡◌, sym, ap, ◌∙◌}
use mathlib.Core.List.{List}
use Prim.Native.Nat.{ℕ, ◌+◌, ◌-◌, ◌<◌, ◌≤◌}
use native.Mathlib.Omega.{arith}
use Rattle.area.specs.Layout.{word}

pub blank_from : (w : List ℕ) (at low high : ℕ) → ((i : ℕ) → low ≤ i → i < high → word w (at + i) ≡ 0) → (j : ℕ) → at + low ≤ j → j < at + high → word w j ≡ 0
blank_from w at low high h j l m = let e : at + (j - at) ≡ j = omega arith in ap {A = ℕ} (word w) (sym e) ∙ h (j - at) (omega arith) (omega arith)
