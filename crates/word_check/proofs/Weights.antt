-- Weights and literals by their words: how far a word is from that of 0, and a literal's atom is half its word.
use mathlib.Core.Path.{◌≡◌, sym, ap, ◌∙◌}
use Prim.Native.Nat.{ℕ, ◌+◌, ◌-◌, ◌/◌, ◌%◌, ◌<◌, ◌≤◌}
use native.Mathlib.Omega.{arith}
use lib.IntN.{ℤ, pos, negsuc, nat_abs}
use lib.Signed.{le_z}
use lib.Dec.{T}
use Rattle.numbers.specs.Inner.Integers.{positive, negative}
use Rattle.numbers.specs.Words.{half, unbias, literal_of}
use Rattle.numbers.proofs.Integers.{ints}
use Rattle.numbers.proofs.Words.{one_from, unbias_parts, unbias_zero, unbias_one, literal_even, literal_odd}
use Rattle.meaning.specs.Meaning.{atom}
pub use Rattle.meaning.proofs.Trails.{atom_half}

-- ---- numbers

-- how far a word is from that of 0
pub size_word : (x : ℕ) → nat_abs (unbias x) ≡ (x - half) + (half - x)
size_word x = go (unbias x) (unbias_parts x)
  where
    go : (z : ℤ) → positive z + half ≡ negative z + x → nat_abs z ≡ (x - half) + (half - x)
    go (pos n) e = omega arith
    go (negsuc n) e = omega arith

pub from_one : (x : ℕ) → half < x → T (le_z (pos 1) (unbias x))
from_one x h = omega (ints, unbias_parts x)

pub some_weight : (x : ℕ) → ¬ (x ≡ half) → ¬ (unbias x ≡ pos 0)
some_weight x n e = n (unbias_one x half (e ∙ sym unbias_zero))

pub no_weight : (x : ℕ) → x ≡ half → unbias x ≡ pos 0
no_weight x e = ap {A = ℕ} unbias e ∙ unbias_zero

-- ---- literals

pub itself_even : (l : ℕ) → l % 2 ≡ 0 → literal_of l ≡ pos (atom (literal_of l))
itself_even l e = literal_even l e ∙ ap {A = ℕ} pos (sym (atom_half l))

negative_apart : (a b : ℕ) → negsuc a ≡ pos b → ⊥
negative_apart a b e = let z : ◌≡◌ {A = ℕ} 0 1 = cc in omega arith

pub odd_other : (l : ℕ) → 2 ≤ l → ¬ (l % 2 ≡ 0) → ¬ (literal_of l ≡ pos (atom (literal_of l)))
odd_other l h n e = negative_apart (l / 2 - 1) (atom (literal_of l)) (sym (literal_odd l h (omega arith)) ∙ e)

-- ---- what the tests need

pub ruleset of_sum = (itself_even, odd_other, some_weight, no_weight)

pub ruleset of_product = (size_word, from_one, one_from)
