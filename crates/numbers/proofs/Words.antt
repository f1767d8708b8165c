-- The laws of biased words: sum, product, negation and order of words are those of the numbers and values that they stand for. The word w
-- is the number w − 2^62, so that each law is linear in the parts of that number; and a literal's word is taken apart by its parity.
use mathlib.Core.Path.{◌≡◌, refl, sym, ◌∙◌, ap}
use mathlib.Core.Bool.{Bool, true, false}
use mathlib.Core.Logic.{◌⊎◌, inl, inr, ⊎_elim}
use Prim.Native.Nat.{ℕ, zero, suc, ◌+◌, ◌-◌, ◌*◌, ◌/◌, ◌%◌, ◌≤◌, ◌<◌, min, max, zero-le, suc-le-suc}
use native.Mathlib.Omega.{arith}
use lib.IntN.{ℤ, pos, negsuc, neg_ℤ, nat_abs, sub_ℕ, ◌+ℤ◌, ◌*ℤ◌}
use lib.Signed.{le_z, mag}
use lib.Dec.{T, leb, leb→le, le→leb}
use borrow.Author.Tests.{le-ltb, lt-ltb, le-leb, lt-leb, ne_eqb}
use Rattle.numbers.specs.Inner.Integers.{positive, negative}
use Rattle.numbers.specs.Extended.{Extended, below, at, above, le_e, greater, lesser}
use Rattle.numbers.specs.Words.{half, top, bias, unbias, word, unword, literal_word, literal_of}
use Rattle.numbers.proofs.Integers.{ints, sub_parts, sum_parts, neg_parts, size_parts}

pub cases : (a b : ℕ) → (b ≤ a) ⊎ (a < b)
cases a zero = inl zero-le
cases zero (suc b) = inr (suc-le-suc zero-le)
cases (suc a) (suc b) = ⊎_elim (λ p. inl (suc-le-suc p)) (λ q. inr (suc-le-suc q)) (cases a b)

-- two tests that hold together are one
pub same_test : (p q : Bool) → (T p → T q) → (T q → T p) → p ≡ q
same_test true q f g = elim q as (λ q. T q → true ≡ q) [ true ↦ λ t. refl | false ↦ absurd ] (f tt)
same_test false q f g = elim q as (λ q. (T q → ⊥) → false ≡ q) [ true ↦ λ n. absurd (n tt) | false ↦ λ n. refl ] g

-- ---- a − b, for two naturals

pub sub_ge : (a b : ℕ) → b ≤ a → sub_ℕ a b ≡ pos (a - b)
sub_ge a b h = rw (le-ltb a b h)

pub sub_lt : (a b : ℕ) → a < b → sub_ℕ a b ≡ negsuc (b - suc a)
sub_lt a b h = rw (lt-ltb a b h)

-- ---- numbers

pub unbias_parts : (w : ℕ) → positive (unbias w) + half ≡ negative (unbias w) + w
unfolding unbias
unbias_parts w = sub_parts w half

pub one_from : (w : ℕ) → T (le_z (pos 1) (unbias w)) → half < w
one_from w h = omega (ints, unbias_parts w)

pub unbias_zero : unbias half ≡ pos 0
unfolding unbias
unbias_zero = refl

pub unbias_sum : (a b : ℕ) → half ≤ a + b → unbias (a + b - half) ≡ unbias a +ℤ unbias b
unbias_sum a b h = omega (ints, sum_parts (unbias a) (unbias b), unbias_parts a, unbias_parts b, unbias_parts (a + b - half))

pub unbias_neg : (w : ℕ) → w ≤ top → unbias (top - w) ≡ neg_ℤ (unbias w)
unbias_neg w h = omega (ints, neg_parts (unbias w), unbias_parts w, unbias_parts (top - w))

-- a word from half on is a natural
pub unbias_natural : (w : ℕ) → half ≤ w → unbias w ≡ pos (w - half)
unfolding unbias
unbias_natural w h = sub_ge w half h

pub unbias_product : (a b : ℕ) → half ≤ a → half ≤ b → unbias (half + (a - half) * (b - half)) ≡ unbias a *ℤ unbias b
unbias_product a b h k =
    let e : half + (a - half) * (b - half) - half ≡ (a - half) * (b - half) = omega arith in
    unbias_natural (half + (a - half) * (b - half)) (omega arith) ∙ ap pos e ∙ sym (rw (unbias_natural a h, unbias_natural b k))

pub bias_parts : (z : ℤ) → negative z ≤ half → bias z + negative z ≡ half + positive z
bias_parts (pos n) h = omega arith
bias_parts (negsuc n) h = omega arith

-- `mag z` is n both of n and of −(n + 1): z is from −half to half − 1
pub unbias_of : (z : ℤ) → mag z < half → unbias (bias z) ≡ z
unbias_of (pos n) h = omega (ints, unbias_parts (half + n))
unbias_of (negsuc n) h = let k : n < half = h in omega (ints, unbias_parts (half - 1 - n))

-- of any word
pub bias_of : (w : ℕ) → bias (unbias w) ≡ w
bias_of w = elim (unbias w) as (λ z. positive z + half ≡ negative z + w → bias z ≡ w) [ pos n ↦ λ e. omega arith | negsuc n ↦ λ e. omega arith ] (unbias_parts w)

pub unbias_one : (a b : ℕ) → unbias a ≡ unbias b → a ≡ b
unbias_one a b e = sym (bias_of a) ∙ ap bias e ∙ bias_of b

pub unbias_leb : (a b : ℕ) → le_z (unbias a) (unbias b) ≡ leb a b
unbias_leb a b = same_test (le_z (unbias a) (unbias b)) (leb a b) (λ t. le→leb a b (omega (ints, unbias_parts a, unbias_parts b)))
    (λ t. let h : a ≤ b = leb→le a b t in omega (ints, unbias_parts a, unbias_parts b))

-- ---- values

pub unword_below : unword 0 ≡ below
unfolding unword
unword_below = refl

pub unword_at : (w : ℕ) → 0 < w → w < top → unword w ≡ at (unbias w)
unfolding unword
unword_at w p q = rw (ne_eqb w 0 (λ e. omega arith), lt-leb top w q)

pub unword_above : (w : ℕ) → top ≤ w → unword w ≡ above
unfolding unword
unword_above w h = rw (ne_eqb w 0 (λ e. omega arith), le-leb top w h)

data Place (w : ℕ) : Type 0 where
  first : w ≡ 0 → Place w
  between : 0 < w → w < top → Place w
  last : top ≤ w → Place w

place : (w : ℕ) → Place w
place w = ⊎_elim (λ (p : w ≤ 0). first (omega arith)) (λ (p : 0 < w). ⊎_elim (λ (q : top ≤ w). last q) (λ (q : w < top). between p q) (cases w top))
    (cases 0 w)

-- a value has a word of its own if it is below or above every number, or a number z with |z| < half
abbrev pub Representable : Extended → Type 0
Representable below = Unit {0}
Representable (at z) = nat_abs z < half
Representable above = Unit {0}

pub unword_word : (v : Extended) → Representable v → unword (word v) ≡ v
unword_word below r = unword_below
unword_word (at z) r =
    let s : positive z + negative z < half = omega (arith, size_parts z) in
    let e : bias z + negative z ≡ half + positive z = bias_parts z (omega arith) in
    unword_at (bias z) (omega arith) (omega arith) ∙ ap at (omega (ints, unbias_parts (bias z)))
unword_word above r = unword_above top (omega arith)

pub word_unword : (w : ℕ) → w ≤ top → word (unword w) ≡ w
word_unword w h = go (place w)
  where
    go : Place w → word (unword w) ≡ w
    go (first e) = rw (e, unword_below)
    go (between p q) = rw (unword_at w p q) (bias_of w)
    go (last p) = rw (unword_above w p) (omega arith)

word_le : (a b : ℕ) → a ≤ b → le_e (unword a) (unword b) ≡ true
word_le a b h = go (place a) (place b)
  where
    go : Place a → Place b → le_e (unword a) (unword b) ≡ true
    go (first e) y = rw (e, unword_below)
    go (between p q) (first e) = let n : ⊥ = omega arith in absurd n
    go (between p q) (between r s) = rw (unword_at a p q, unword_at b r s) (unbias_leb a b ∙ le-leb a b h)
    go (between p q) (last r) = rw (unword_at a p q, unword_above b r)
    go (last p) y = rw (unword_above a p, unword_above b (omega arith))

word_gt : (a b : ℕ) → b < a → b < top → le_e (unword a) (unword b) ≡ false
word_gt a b h k = go (place a) (place b)
  where
    go : Place a → Place b → le_e (unword a) (unword b) ≡ false
    go (first e) y = let n : ⊥ = omega arith in absurd n
    go (between p q) (first e) = rw (unword_at a p q, e, unword_below)
    go (between p q) (between r s) = rw (unword_at a p q, unword_at b r s) (unbias_leb a b ∙ lt-leb a b h)
    go (between p q) (last r) = let n : ⊥ = omega arith in absurd n
    go (last p) (first e) = rw (unword_above a p, e, unword_below)
    go (last p) (between r s) = rw (unword_above a p, unword_at b r s)
    go (last p) (last r) = let n : ⊥ = omega arith in absurd n

-- for any word b. Of any two words it fails exactly where top ≤ b < a: both are words of `above`
pub word_leb : (a b : ℕ) → a ≤ top → le_e (unword a) (unword b) ≡ leb a b
word_leb a b h = ⊎_elim (λ (p : a ≤ b). word_le a b p ∙ sym (le-leb a b p)) (λ (p : b < a). word_gt a b p (omega arith) ∙ sym (lt-leb a b p)) (cases b a)

-- of any two words
pub unword_max : (a b : ℕ) → unword (max a b) ≡ greater (unword a) (unword b)
unword_max a b = ⊎_elim (λ (p : a ≤ b). let e : max a b ≡ b = omega arith in rw (e, word_le a b p))
    (λ (p : b < a). let e : max a b ≡ a = omega arith in ⊎_elim (λ (q : top ≤ b). rw (e, unword_above a (omega arith), unword_above b q))
    (λ (q : b < top). rw (e, word_gt a b p q)) (cases b top)) (cases b a)

pub unword_min : (a b : ℕ) → unword (min a b) ≡ lesser (unword a) (unword b)
unword_min a b = ⊎_elim (λ (p : a ≤ b). let e : min a b ≡ a = omega arith in rw (e, word_le a b p))
    (λ (p : b < a). let e : min a b ≡ b = omega arith in ⊎_elim (λ (q : top ≤ b). rw (e, unword_above a (omega arith), unword_above b q))
    (λ (q : b < top). rw (e, word_gt a b p q)) (cases b top)) (cases b a)

-- ---- literals

pub literal_even : (w : ℕ) → w % 2 ≡ 0 → literal_of w ≡ pos (w / 2)
unfolding literal_of
literal_even w e = rw e

pub literal_odd : (w : ℕ) → 2 ≤ w → w % 2 ≡ 1 → literal_of w ≡ negsuc (w / 2 - 1)
unfolding literal_of
literal_odd w h e = rw e (omega (ints, neg_parts (pos (w / 2))))

pub literal_none : (w : ℕ) → w < 2 → literal_of w ≡ pos 0
unfolding literal_of
literal_none zero h = refl
literal_none (suc zero) h = refl
literal_none (suc (suc w)) h = let b : ⊥ = omega arith in absurd b

pub parity : (w : ℕ) → (w % 2 ≡ 0) ⊎ (w % 2 ≡ 1)
parity w = ⊎_elim (λ (p : w % 2 ≤ 0). inl (omega arith)) (λ (p : 0 < w % 2). inr (omega arith)) (cases 0 (w % 2))

pub literal_of_word : (l : ℤ) → literal_of (literal_word l) ≡ l
literal_of_word (pos a) = literal_even (2 * a) (omega arith) ∙ ap pos (omega arith)
literal_of_word (negsuc a) = literal_odd (2 * suc a + 1) (omega arith) (omega arith) ∙ ap negsuc (omega arith)

-- it is true of 0 too, and not of 1
pub literal_word_of : (w : ℕ) → 2 ≤ w → literal_word (literal_of w) ≡ w
literal_word_of w h = ⊎_elim (λ (e : w % 2 ≡ 0). rw (literal_even w e) (omega arith)) (λ (e : w % 2 ≡ 1). rw (literal_odd w h e) (omega arith)) (parity w)

pub literal_atom : (w : ℕ) → 2 ≤ w → nat_abs (literal_of w) ≡ w / 2
literal_atom w h = ⊎_elim (λ (e : w % 2 ≡ 0). rw (literal_even w e)) (λ (e : w % 2 ≡ 1). rw (literal_odd w h e) (omega arith)) (parity w)

-- the opposite literal's word
pub opposite_even : (w : ℕ) → 2 ≤ w → w % 2 ≡ 0 → literal_of (w + 1) ≡ neg_ℤ (literal_of w)
opposite_even w h e = let o : (w + 1) % 2 ≡ 1 = omega arith in rw (literal_odd (w + 1) (omega arith) o, literal_even w e) (omega (ints, neg_parts (pos (w / 2))))

pub opposite_odd : (w : ℕ) → 2 ≤ w → w % 2 ≡ 1 → literal_of (w - 1) ≡ neg_ℤ (literal_of w)
opposite_odd w h e = let o : (w - 1) % 2 ≡ 0 = omega arith in rw (literal_even (w - 1) o, literal_odd w h e) (omega (ints, neg_parts (negsuc (w / 2 - 1))))
