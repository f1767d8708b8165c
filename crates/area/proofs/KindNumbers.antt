-- The numbers from 4 on are the minimum's: what is left where a number is none of the others. And 1 alone is the product's.
use mathlib.Core.Path.{◌≡◌, refl}
use Prim.Native.Nat.{ℕ, zero, suc}
use Rattle.meaning.specs.Meaning.{product, minimum}
use Rattle.area.specs.Layout.{kind_of}

pub others_minimum : (x : ℕ) → ¬ (x ≡ 0) → ¬ (x ≡ 1) → ¬ (x ≡ 2) → ¬ (x ≡ 3) → minimum ≡ kind_of x
others_minimum zero a b c d = absurd (a refl)
others_minimum (suc zero) a b c d = absurd (b refl)
others_minimum (suc (suc zero)) a b c d = absurd (c refl)
others_minimum (suc (suc (suc zero))) a b c d = absurd (d refl)
others_minimum (suc (suc (suc (suc x)))) a b c d = refl

pub product_number : (x : ℕ) → kind_of x ≡ product → x ≡ 1
product_number zero e = cc
product_number (suc zero) e = refl
product_number (suc (suc zero)) e = cc
product_number (suc (suc (suc zero))) e = cc
product_number (suc (suc (suc (suc x)))) e = cc
