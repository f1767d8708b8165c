-- Signed numbers as words of the work area. A number z is the word 2^62 + z; below every number is the word 0 and above every number
-- 2^63, so that the order of words is the order of values. A literal is the word 2 × atom, and one more where it is negative.
use Rattle.std.specs.Prelude.{cond, ℕ, suc, ◌+◌, ◌-◌, ◌*◌, ◌/◌, ◌%◌, ℤ, pos, negsuc, neg_ℤ, eqb, leb}
use Rattle.std.proofs.Math.IntN.{sub_ℕ}
use Rattle.numbers.specs.Extended.{Extended, below, at, above}

abbrev pub half : ℕ
half = 4611686018427387904

abbrev pub top : ℕ
top = 9223372036854775808

abbrev pub bias : ℤ → ℕ
bias (pos n) = half + n
bias (negsuc n) = half - 1 - n

unfoldable pub unbias : ℕ → ℤ
unbias w = sub_ℕ w half

abbrev pub word : Extended → ℕ
word below = 0
word (at z) = bias z
word above = top

unfoldable pub unword : ℕ → Extended
unword w = cond (eqb w 0) below (cond (leb top w) above (at (unbias w)))

abbrev pub literal_word : ℤ → ℕ
literal_word (pos a) = 2 * a
literal_word (negsuc a) = 2 * suc a + 1

-- 0 and 1 are no literal's word: both give 0, which no atom has
unfoldable pub literal_of : ℕ → ℤ
literal_of w = cond (eqb (w % 2) 0) (pos (w / 2)) (neg_ℤ (pos (w / 2)))
