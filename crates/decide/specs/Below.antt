-- Tests, sums and products over the numbers below k, taken from 0 up, as a loop takes them.
use Rattle.std.specs.Prelude.{Bool, false, ◌||◌, List, ℕ, zero, suc, ◌+◌, ◌*◌, get_or}

-- p holds of some number below k
unfoldable pub some_below : ℕ → (ℕ → Bool) → Bool
some_below zero p = false
some_below (suc k) p = some_below k p || p k

-- the sum of the first k numbers of a list
unfoldable pub sum_first : List ℕ → ℕ → ℕ
sum_first l zero = 0
sum_first l (suc k) = sum_first l k + get_or l k 0

-- the product of f over the numbers below k
unfoldable pub product_below : ℕ → (ℕ → ℕ) → ℕ
product_below zero f = 1
product_below (suc k) f = product_below k f * f k
