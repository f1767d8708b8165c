-- The fields of word 0: with one row more, and made of four numbers. Dividing by 2^32 and by 2^48 is dividing by 2^16 again and again, so
-- that each step is linear.
use mathlib.Core.Path.{◌≡◌, sym, ◌∙◌, ap}
use Prim.Native.Nat.{ℕ, ◌+◌, ◌*◌, ◌/◌, ◌%◌, ◌<◌}
use native.Mathlib.Omega.{arith}
use Rattle.trail.specs.Inner.Header.{header_word}

twice : (x : ℕ) → x / 281474976710656 ≡ x / 4294967296 / 65536
twice x = omega arith

-- ---- one row more

step : (q : ℕ) → q % 65536 < 65535 → (q + 1) % 65536 ≡ q % 65536 + 1
step q l = omega arith

step_up : (q : ℕ) → q % 65536 < 65535 → (q + 1) / 65536 ≡ q / 65536
step_up q l = omega arith

more : (x : ℕ) → (x + 4294967296) / 4294967296 ≡ x / 4294967296 + 1
more x = omega arith

pub more_atoms : (x : ℕ) → (x + 4294967296) % 65536 ≡ x % 65536
more_atoms x = omega arith

pub more_sentences : (x : ℕ) → (x + 4294967296) / 65536 % 65536 ≡ x / 65536 % 65536
more_sentences x = omega arith

module _ (x : ℕ) (h : x / 4294967296 % 65536 < 65535) where
  pub more_length : (x + 4294967296) / 4294967296 % 65536 ≡ x / 4294967296 % 65536 + 1
  more_length = ap {A = ℕ} (λ k. k % 65536) (more x) ∙ step (x / 4294967296) h

  pub more_level : (x + 4294967296) / 281474976710656 ≡ x / 281474976710656
  more_level = twice (x + 4294967296) ∙ ap {A = ℕ} (λ k. k / 65536) (more x) ∙ step_up (x / 4294967296) h ∙ sym (twice x)

-- ---- made of its fields

low : (a b : ℕ) → a < 65536 → (a + 65536 * b) % 65536 ≡ a
low a b h = omega arith

high : (a b : ℕ) → a < 65536 → (a + 65536 * b) / 65536 ≡ b
high a b h = omega arith

module _ (n S len level : ℕ) (a : n < 65536) (b : S < 65536) (c : len < 65536) where
  upper : header_word n S len level / 65536 ≡ S + 65536 * (len + 65536 * level)
  upper = omega arith

  top : header_word n S len level / 4294967296 ≡ len + 65536 * level
  top = omega arith

  pub atoms_field : header_word n S len level % 65536 ≡ n
  atoms_field = omega arith

  pub sentences_field : header_word n S len level / 65536 % 65536 ≡ S
  sentences_field = ap {A = ℕ} (λ k. k % 65536) upper ∙ low S (len + 65536 * level) b

  pub length_field : header_word n S len level / 4294967296 % 65536 ≡ len
  length_field = ap {A = ℕ} (λ k. k % 65536) top ∙ low len level c

  pub level_field : header_word n S len level / 281474976710656 ≡ level
  level_field = twice (header_word n S len level) ∙ ap {A = ℕ} (λ k. k / 65536) top ∙ high len level c
