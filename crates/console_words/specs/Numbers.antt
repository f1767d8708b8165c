-- The numbers that words are: digits, up to 2^64 - 1; with an optional sign, from -2^63 to 2^63 - 1.
use Rattle.std.specs.Prelude.{Bool, true, false, cond, ◌&&◌, [], ◌∷◌, ℕ, ◌+◌, ◌*◌, ◌-◌, eqb, leb, ℤ, pos, neg_ℤ, Option, Some, None, option_and_then}
use Rattle.console_words.specs.Words.{Word}

abbrev pub digit : ℕ → Bool
digit b = leb 48 b && leb b 57

unfoldable pub all_digits : Word → Bool
all_digits [] = true
all_digits (b ∷ bs) = digit b && all_digits bs

-- the value of digits, behind digits of the value n
unfoldable pub value_from : ℕ → Word → ℕ
value_from n [] = n
value_from n (b ∷ bs) = value_from (n * 10 + (b - 48)) bs

abbrev pub any : Word → Bool
any [] = false
any (b ∷ bs) = true

unfoldable pub unsigned_of : Word → Option ℕ
unsigned_of w = cond (any w && all_digits w && leb (value_from 0 w) 18446744073709551615) (Some (value_from 0 w)) None

abbrev pub plus : ℕ → Option ℤ
plus n = cond (leb n 9223372036854775807) (Some (pos n)) None

abbrev pub minus : ℕ → Option ℤ
minus n = cond (leb n 9223372036854775808) (Some (neg_ℤ (pos n))) None

-- `+` is 43, `-` is 45
unfoldable pub signed_of : Word → Option ℤ
signed_of [] = None
signed_of (b ∷ bs) =
    cond (eqb b 43) (option_and_then plus (unsigned_of bs))
    (cond (eqb b 45) (option_and_then minus (unsigned_of bs)) (option_and_then plus (unsigned_of (b ∷ bs))))
