-- The digits that `io::decimal` writes are those of the definition; and a signed number is its sign and its size.
use mathlib.Core.Path.{◌≡◌, refl, sym, ap, ap₂, ◌∙◌, subst}
use mathlib.Core.Bool.{Bool, true, false}
use mathlib.Core.List.{List, [], ◌∷◌, ◌++◌}
use Prim.Native.Nat.{ℕ, zero, suc, ◌+◌, ◌-◌, ◌/◌, ◌%◌, ◌^◌, ◌≤◌, ◌<◌}
use native.Mathlib.Omega.{arith}
use native.Mathlib.Nat.{pow-le-pow_right}
use mir.Syntax.{w64}
use mir.Val.{to_z, of_z, SFits}
use mir.ValLaws.{to_z-of_z}
use lib.IntN.{ℤ, pos, negsuc, nat_abs}
use Rattle.std.specs.Prelude.{int_lt}
use lib.Dec.{leb}
use borrow.Author.Tests.{lt-ltb, le-ltb, ltb-true, leb-true, leb-false}
use Rattle.io.specs.Digits.{last_digits, hex_digit_ascii, IsDigitCount}
use Rattle.pages.specs.declared.Page.{Page}
use Rattle.pages.specs.Page.{Puts}
use Rattle.pages.specs.Lines.{named}
use Rattle.numbers.specs.Text.{decimal_within, decimal, signed_decimal}
use Rattle.pages.proofs.Laws.{then, puts_as}

last : (n : ℕ) → hex_digit_ascii (n % 10) ≡ 48 + n % 10
last n = rw (lt-ltb (n % 10) 10 (omega arith))

pub fewest_digits : (m k n : ℕ) → 1 ≤ k → k ≤ m → n < 10 ^ k → (1 < k → 10 ^ (k - 1) ≤ n) → last_digits 10 k n ≡ decimal_within m n
unfolding decimal_within
fewest_digits m zero n l h b f = let z : ⊥ = omega arith in absurd z
fewest_digits zero (suc j) n l h b f = let z : ⊥ = omega arith in absurd z
fewest_digits (suc m) (suc zero) n l h b f =
    let e : n % 10 ≡ n = omega arith in
    rw (lt-ltb n 10 (omega arith)) (ap (λ (x : ℕ). x ∷ []) (last n ∙ ap (λ (x : ℕ). 48 + x) e))
fewest_digits (suc m) (suc (suc i)) n l h b f =
    let g : 10 ^ (suc i) ≤ n = subst (λ (x : ℕ). 10 ^ x ≤ n) (let e : suc (suc i) - 1 ≡ suc i = omega arith in e) (f (omega arith)) in
    let d : 10 ^ (suc i - 1) ≤ n / 10 = subst (λ (x : ℕ). 10 ^ x ≤ n / 10) (let e : i ≡ suc i - 1 = omega arith in e) (omega arith) in
    rw (le-ltb n 10 (omega arith))
    (ap₂ (λ (xs : List ℕ) (x : ℕ). xs ++ (x ∷ [])) (fewest_digits m (suc i) (n / 10) (omega arith) (omega arith) (omega arith) (λ q. d)) (last n))

-- a number of 64 bits has at most 20 digits
few_digits : (n k : ℕ) → n < 18446744073709551616 → (1 < k → 10 ^ (k - 1) ≤ n) → (b : Bool) → b ≡ leb k 20 → k ≤ 20
few_digits n k h f true e = leb-true k 20 (sym e)
few_digits n k h f false e =
    let l : 20 < k = leb-false k 20 (sym e) in
    let g : 10 ^ 20 ≤ 10 ^ (k - 1) = pow-le-pow_right {n = 10} (omega arith) {i = 20} {j = k - 1} (omega arith) in
    let m : 10 ^ (k - 1) ≤ n = f (omega arith) in
    let b : ⊥ = omega arith in absurd b

pub number_written : {p q : Page} {text : List ℕ} {n k : ℕ} → n < 18446744073709551616 → IsDigitCount 10 1 n k → text ≡ last_digits 10 k n → Puts p q text → Puts p q (decimal n)
number_written {n = n} {k = k} h f e w =
    puts_as (e ∙ fewest_digits 20 k n f.0 (few_digits n k h f.2 (leb k 20) refl) f.1 f.2) w

-- a number below 0 is its sign and its size
pub negative_written :
    (z : ℤ) {m : ℕ} {p q s : Page} → int_lt z (pos 0) ≡ true → m ≡ nat_abs z → Puts p q (45 ∷ []) → Puts q s (decimal m) → Puts p s (signed_decimal z)
negative_written (pos n) l e f g = let b : ⊥ = omega (arith, ltb-true n 0 l) in absurd b
negative_written (negsuc n) l e f g = then f (puts_as (ap decimal e) g)

-- a number from 0 on is its size
pub positive_written : (z : ℤ) {m : ℕ} {p q : Page} → int_lt z (pos 0) ≡ false → m ≡ nat_abs z → Puts p q (decimal m) → Puts p q (signed_decimal z)
positive_written (pos n) l e f = puts_as (ap decimal e) f
positive_written (negsuc n) l e f = let b : ◌≡◌ {A = Bool} true false = l in absurd (cc)

-- a signed number reaches its callee as a word, and is the same number there

pub signed_put : {p q : Page} {z : ℤ} → SFits w64 z → Puts p q (signed_decimal (to_z w64 (of_z w64 z))) → Puts p q (signed_decimal z)
signed_put {z = z} f w = puts_as (ap signed_decimal (to_z-of_z w64 z f)) w

pub named_put : {p q : Page} (word : List ℕ) (z : ℤ) → SFits w64 z → Puts p q (named word (to_z w64 (of_z w64 z))) → Puts p q (named word z)
named_put word z f w = puts_as (ap (λ (x : ℤ). named word x) (to_z-of_z w64 z f)) w
