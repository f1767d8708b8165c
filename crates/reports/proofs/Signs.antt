-- A word below 2^63 as a signed number: each number on the way fits the machine's, so that its bits, read back, are the number itself.
use mathlib.Core.Path.{◌≡◌, sym, ◌∙◌, ap, subst}
use mathlib.Core.Logic.{⊎_elim}
use Prim.Native.Nat.{ℕ, ◌<◌, ◌≤◌}
use native.Mathlib.Omega.{arith}
use lib.IntN.{ℤ, pos, sub_ℕ, ◌-ℤ◌}
use mir.Syntax.{w64}
use mir.Val.{SFits, to_z, of_z}
use mir.ValLaws.{to_z_pos, to_z-of_z}
use Rattle.numbers.specs.Words.{half, top, unbias}
use Rattle.numbers.proofs.Words.{cases, sub_ge, sub_lt}

pub natural : (n : ℕ) → n < top → to_z w64 n ≡ pos n
natural n h = to_z_pos w64 n (omega arith)

-- ---- the number of a word

number_fits : (x : ℕ) → x < top → SFits w64 (sub_ℕ x half)
number_fits x h =
    ⊎_elim
    (λ (p : half ≤ x). subst (λ (z : ℤ). SFits w64 z) (sym (sub_ge x half p)) (record { sfits = omega arith }))
    (λ (p : x < half). subst (λ (z : ℤ). SFits w64 z) (sym (sub_lt x half p)) (record { sfits = omega arith }))
    (cases x half)

number_difference : (x : ℕ) → x < top → to_z w64 x -ℤ pos half ≡ sub_ℕ x half
number_difference x h = ap (λ (z : ℤ). z -ℤ pos half) (natural x h)

number_safe : (x : ℕ) → x < top → SFits w64 (to_z w64 x -ℤ pos half)
number_safe x h = rw (number_difference x h) (number_fits x h)

pub number_is : (x : ℕ) → x < top → to_z w64 (of_z w64 (to_z w64 x -ℤ pos half)) ≡ unbias x
unfolding unbias
number_is x h = to_z-of_z w64 (to_z w64 x -ℤ pos half) (number_safe x h) ∙ number_difference x h
