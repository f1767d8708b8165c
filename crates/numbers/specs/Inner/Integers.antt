-- The two parts of an integer, by which `omega`, which reads naturals, closes linear facts over integers.
use Rattle.std.specs.Prelude.{ℕ, suc, ℤ, pos, negsuc}

-- z is its positive part less its negative part, and one of the two is 0
abbrev pub positive : ℤ → ℕ
positive (pos n) = n
positive (negsuc n) = 0

abbrev pub negative : ℤ → ℕ
negative (pos n) = 0
negative (negsuc n) = suc n
