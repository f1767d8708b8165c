-- Digits read one after the other: the value only grows, so that one past the limit stays past it.
use Rattle.std.proofs.Common.{◌≡◌, refl, sym, ap, ◌∙◌, ℕ, suc, ◌+◌, ◌*◌, ◌-◌, ◌<◌, ◌≤◌, arith, Bool}
use Rattle.std.proofs.Common.{true, false, cond, ◌&&◌, [], ◌∷◌, length, take, drop, get_or, drop-cons, length-drop}
use Rattle.std.proofs.Math.Seq.{take_all}
use Rattle.std.proofs.Math.ListN.{drop_of_length-le}
use Rattle.std.proofs.Math.Dec.{leb}
use borrow.Author.Tests.{le-leb, lt-leb, eq-eqb, ne_eqb}
use Rattle.std.specs.Prelude.{Option, Some, None, option_and_then}
use Rattle.console_words.specs.Numbers.{all_digits, value_from, unsigned_of, plus, minus, signed_of}
use Rattle.console_words.specs.Words.{Word}

-- what is left of a word, behind digits of the value n
unfoldable pub read_on : ℕ → Word → Option ℕ
read_on n w = cond (all_digits w && leb (value_from n w) 18446744073709551615) (Some (value_from n w)) None

pub read_none : (w : Word) → length w ≡ 0 → None ≡ unsigned_of w
unfolding unsigned_of
read_none [] h = refl
read_none (b ∷ w) h = let b : ⊥ = omega arith in absurd b

pub read_first : (w : Word) → 0 < length w → unsigned_of w ≡ read_on 0 w
unfolding read_on unsigned_of
read_first [] h = let b : ⊥ = omega arith in absurd b
read_first (b ∷ w) h = refl

value_grows : (n : ℕ) (w : Word) → n ≤ value_from n w
unfolding value_from
value_grows n [] = omega arith
value_grows n (b ∷ w) = omega (arith, value_grows (n * 10 + (b - 48)) w)

module _ (w : Word) (i n : ℕ) (h : i < length w) where
  pub digit_read : 48 ≤ get_or w i 0 → get_or w i 0 ≤ 57 → read_on n (drop i w) ≡ read_on (n * 10 + (get_or w i 0 - 48)) (drop (suc i) w)
  unfolding read_on all_digits value_from
  digit_read low high = rw (drop-cons w i 0 h, le-leb 48 (get_or w i 0) low, le-leb (get_or w i 0) 57 high)

  pub below_digits : get_or w i 0 < 48 → read_on n (drop i w) ≡ None
  unfolding read_on all_digits value_from
  below_digits low = rw (drop-cons w i 0 h, lt-leb 48 (get_or w i 0) low)

  pub above_digits : 57 < get_or w i 0 → read_on n (drop i w) ≡ None
  unfolding read_on all_digits value_from
  above_digits high = rw (drop-cons w i 0 h, le-leb 48 (get_or w i 0) (omega arith), lt-leb (get_or w i 0) 57 high)

neither : (b : Bool) (x : Option ℕ) → cond (b && false) x None ≡ None
neither true x = refl
neither false x = refl

pub too_large : (n : ℕ) (w : Word) → 18446744073709551615 < n → read_on n w ≡ None
unfolding read_on
too_large n w h = rw (lt-leb (value_from n w) 18446744073709551615 (omega (arith, value_grows n w))) (neither (all_digits w) _)

pub read_all : (w : Word) (i n : ℕ) → length w ≤ i → n ≤ 18446744073709551615 → read_on n (drop i w) ≡ Some n
unfolding read_on all_digits value_from
read_all w i n h k = rw (drop_of_length-le w h, le-leb n 18446744073709551615 k)

pub ruleset digit_steps = (read_none, read_first, digit_read, below_digits, above_digits, too_large, read_all)

-- ---- the sign that a word begins with

pub no_sign : (w : Word) → length w ≡ 0 → signed_of w ≡ None
unfolding signed_of
no_sign [] h = refl
no_sign (b ∷ w) h = let b : ⊥ = omega arith in absurd b

module _ (w : Word) (some : 0 < length w) where
  first_byte : w ≡ get_or w 0 0 ∷ drop 1 w
  first_byte = drop-cons w 0 0 some

  behind : take (length w - 1) (drop 1 w) ≡ drop 1 w
  behind = take_all (length w - 1) (drop 1 w) (simp length-drop (omega arith))

  pub plus_sign : get_or w 0 0 ≡ 43 → signed_of w ≡ option_and_then plus (unsigned_of (take (length w - 1) (drop 1 w)))
  unfolding signed_of
  plus_sign e = ap signed_of first_byte ∙ rw (eq-eqb (get_or w 0 0) 43 e, behind)

  pub minus_sign : get_or w 0 0 ≡ 45 → signed_of w ≡ option_and_then minus (unsigned_of (take (length w - 1) (drop 1 w)))
  unfolding signed_of
  minus_sign e = ap signed_of first_byte ∙ rw (ne_eqb (get_or w 0 0) 43 (λ p. omega arith), eq-eqb (get_or w 0 0) 45 e, behind)

  pub only_digits : (get_or w 0 0 ≡ 43 → ⊥) → (get_or w 0 0 ≡ 45 → ⊥) → signed_of w ≡ option_and_then plus (unsigned_of w)
  unfolding signed_of
  only_digits p m = ap signed_of first_byte ∙ rw (ne_eqb (get_or w 0 0) 43 p, ne_eqb (get_or w 0 0) 45 m)
      (ap (λ v. option_and_then plus (unsigned_of v)) (sym first_byte))

pub ruleset sign_steps = (no_sign, plus_sign, minus_sign, only_digits, read_none)
