-- The last bit of a value word, less 1, against the sign of a literal.
use mathlib.Core.Path.{◌≡◌, refl, sym, ◌∙◌, ap}
use mathlib.Core.Bool.{Bool, true, false, not, beq}
use Prim.Native.Nat.{ℕ, zero, suc, ◌<◌}
use native.Mathlib.Omega.{arith}
use lib.IntN.{ℤ, pos, negsuc}
use lib.Dec.{eqb}
use borrow.Author.Tests.{eqb-true, eqb-false, le-ltb}
use mir.Syntax.{w64}
use mir.Val.{SFits, to_z, of_z}
use mir.ValLaws.{to_z-of_z}
use Rattle.std.specs.Int.{is_negative}
use Rattle.area.specs.Layout.{sign}

not_below : (a : ℕ) → is_negative (pos a) ≡ false
not_below a = le-ltb a 0 (omega arith)

tested : (l : ℤ) (u : ℕ) → u < 2 → not (beq (eqb u 1) (is_negative l)) ≡ not (eqb u (sign l))
tested (pos a) zero h = ap {A = Bool} (λ x. not (beq (eqb 0 1) x)) (not_below a)
tested (pos a) (suc zero) h = ap {A = Bool} (λ x. not (beq (eqb 1 1) x)) (not_below a)
tested (pos a) (suc (suc u)) h = absurd (omega arith)
tested (negsuc a) zero h = refl
tested (negsuc a) (suc zero) h = refl
tested (negsuc a) (suc (suc u)) h = absurd (omega arith)

module _ {l : ℤ} {u : ℕ} {b : Bool} (f : SFits w64 l) (h : u < 2) (told : b ≡ is_negative (to_z w64 (of_z w64 l))) where
  is : not (beq (eqb u 1) b) ≡ not (eqb u (sign l))
  is = ap {A = Bool} (λ x. not (beq (eqb u 1) x)) (told ∙ ap {A = ℤ} is_negative (to_z-of_z w64 l f)) ∙ tested l u h

  pub sign_other : not (beq (eqb u 1) b) ≡ true → ¬ (u ≡ sign l)
  sign_other e = eqb-false u (sign l) (not_true (eqb u (sign l)) (sym is ∙ e))
    where
      not_true : (x : Bool) → not x ≡ true → x ≡ false
      not_true true q = sym q
      not_true false q = refl

  pub sign_same : not (beq (eqb u 1) b) ≡ false → u ≡ sign l
  sign_same e = eqb-true u (sign l) (not_false (eqb u (sign l)) (sym is ∙ e))
    where
      not_false : (x : Bool) → not x ≡ false → x ≡ true
      not_false true q = refl
      not_false false q = sym q
