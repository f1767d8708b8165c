-- How long the text of a number can be.
use mathlib.Core.Bool.{Bool, true, false, cond}
use mathlib.Core.List.{[], ◌∷◌, ◌++◌}
use Prim.Native.Nat.{ℕ, zero, suc, ◌+◌, ◌/◌, ◌%◌, ◌^◌, ◌≤◌, ◌<◌}
use native.Mathlib.Omega.{arith}
use lib.ListN.{length, length-append}
use lib.IntN.{ℤ, pos, negsuc, nat_abs}
use lib.Dec.{ltb}
use borrow.Author.Tests.{lt-ltb}
use Rattle.numbers.specs.Text.{decimal_within, decimal, signed_decimal}

longer : (k n m : ℕ) (b : Bool) → length (decimal_within m (n / 10)) ≤ k → length (cond b ((48 + n) ∷ []) (decimal_within m (n / 10) ++ ((48 + n % 10) ∷ []))) ≤ suc k
longer k n m true h = omega arith
longer k n m false h = omega (arith, length-append (decimal_within m (n / 10)) ((48 + n % 10) ∷ []))

within_length : (m n : ℕ) → length (decimal_within m n) ≤ m
unfolding decimal_within
within_length zero n = omega arith
within_length (suc m) n = longer m n m (ltb n 10) (within_length m (n / 10))

-- of any number

pub decimal_short : (n : ℕ) → length (decimal n) ≤ 20
decimal_short n = within_length 20 n

pub signed_short : (z : ℤ) → length (signed_decimal z) ≤ 21
signed_short (pos n) = omega (arith, decimal_short n)
signed_short (negsuc n) = omega (arith, decimal_short (suc n))

-- of a number below 10^k

below_length : (m k n : ℕ) → 1 ≤ k → n < 10 ^ k → length (decimal_within m n) ≤ k
unfolding decimal_within
below_length zero k n l h = omega arith
below_length (suc m) zero n l h = let b : ⊥ = omega arith in absurd b
below_length (suc m) (suc zero) n l h = rw (lt-ltb n 10 (omega arith)) (omega arith)
below_length (suc m) (suc (suc i)) n l h = longer (suc i) n m (ltb n 10) (below_length m (suc i) (n / 10) (omega arith) (omega arith))

pub decimal_length : (k n : ℕ) → 1 ≤ k → n < 10 ^ k → length (decimal n) ≤ k
decimal_length = below_length 20

pub signed_length : (k : ℕ) (z : ℤ) → 1 ≤ k → nat_abs z < 10 ^ k → length (signed_decimal z) ≤ suc k
signed_length k (pos n) l h = omega (arith, decimal_length k n l h)
signed_length k (negsuc n) l h = omega (arith, decimal_length k (suc n) l h)
