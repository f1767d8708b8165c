-- How a bool that tells of a proposition is made and used.
use mathlib.Core.Bool.{Bool, true, false, not}
use mathlib.Core.Path.{◌≡◌, sym, ap}
use Prim.Native.Nat.{ℕ}
use native.Mathlib.Omega.{arith}
use lib.Dec.{eqb}
use borrow.Author.Tests.{eqb-true, eqb-false, not-true, not-false}
use Rattle.decide.specs.Inner.Tells.{Tells}

bool_apart : {A : Type 0} → false ≡ true → A
bool_apart e = let z : ◌≡◌ {A = ℕ} 0 1 = ap {A = Bool} (elim [ true ↦ 1 | false ↦ 0 ]) e in absurd (omega arith)

pub told_yes : {P : Type 0} → P → Tells true P
told_yes p = record { yes = λ _. p; no = λ e. bool_apart (sym e) }

pub told_no : {P : Type 0} → (P → ⊥) → Tells false P
told_no n = record { yes = λ e. bool_apart e; no = λ _ p. n p }

-- after `if !f(..)`: the test was taken, so what f tells of does not hold; or it was left, so it holds
pub denied : {b : Bool} {P : Type 0} → Tells b P → not b ≡ true → P → ⊥
denied {b} t e = t.no (not-true b e)

pub granted : {b : Bool} {P : Type 0} → Tells b P → not b ≡ false → P
granted {b} t e = t.yes (not-false b e)

-- what tells of P tells of any Q that holds just when P does
pub told_same : {b : Bool} {P Q : Type 0} → Tells b P → (P → Q) → (Q → P) → Tells b Q
told_same t f g = record { yes = λ e. f (t.yes e); no = λ e q. t.no e (g q) }

pub told_equal : (a b : ℕ) → Tells (eqb a b) (a ≡ b)
told_equal a b = record { yes = eqb-true a b; no = eqb-false a b }
