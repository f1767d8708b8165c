-- Linear facts over integers by `omega`, which reads naturals: an integer is its positive part less its negative part, and each order,
-- equality, sum and negation of integers is one of the parts.
-- `omega (ints, sum_parts a b, neg_parts c)` closes a goal, and reads hypotheses, of the forms `T (le_z x y)`, `T (not (le_z x y))`,
-- `x ≤ℤ y` and `x ≡ y`; it wants `sum_parts a b` for each sum a +ℤ b, `neg_parts c` for each neg_ℤ c, and
-- `size_parts d` for each nat_abs d, that stands in one of them.
use mathlib.Core.Path.{◌≡◌, refl, sym, ◌∙◌, ap}
use mathlib.Core.Bool.{Bool, true, false, cond, not}
use Prim.Native.Nat.{ℕ, zero, suc, ◌+◌, ◌*◌, ◌-◌, ◌≤◌, ◌<◌, zero-le}
use native.Mathlib.Omega.{arith}
use native.Mathlib.Nat.{mul-le-mul, mul_assoc}
use lib.IntN.{ℤ, pos, negsuc, neg_ℤ, nat_abs, sub_ℕ, ◌+ℤ◌, ◌*ℤ◌, zero-*ℤ, *ℤ_comm, neg_ℤ-neg_ℤ}
use lib.Signed.{le_z, ◌≤ℤ◌}
use lib.Dec.{T, not_T, ltb, leb→le, le→leb, ltb→lt, nltb→le, nleb→lt}
use Rattle.numbers.specs.Inner.Integers.{positive, negative}

-- ---- an order of integers as one of naturals, and back

pub le_z→ : (a b : ℤ) → T (le_z a b) → positive a + negative b ≤ positive b + negative a
le_z→ (pos a) (pos b) t = omega (arith, leb→le a b t)
le_z→ (pos a) (negsuc b) t = absurd t
le_z→ (negsuc a) (pos b) t = omega arith
le_z→ (negsuc a) (negsuc b) t = omega (arith, leb→le b a t)

pub →le_z : (a b : ℤ) → positive a + negative b ≤ positive b + negative a → T (le_z a b)
→le_z (pos a) (pos b) h = le→leb a b (omega arith)
→le_z (pos a) (negsuc b) h = absurd (omega arith)
→le_z (negsuc a) (pos b) h = tt
→le_z (negsuc a) (negsuc b) h = le→leb b a (omega arith)

pub sub_parts : (a b : ℕ) → positive (sub_ℕ a b) + b ≡ negative (sub_ℕ a b) + a
sub_parts a b = go (ltb a b) (λ t. ltb→lt a b t) (λ t. nltb→le a b t)
  where
    go : (c : Bool) → (T c → a < b) → (T (not c) → b ≤ a) → positive (cond c (negsuc (b - suc a)) (pos (a - b))) + b ≡ negative (cond c (negsuc (b - suc a)) (pos (a - b))) + a
    go true l g = omega (arith, l tt)
    go false l g = omega (arith, g tt)

pub sum_parts : (a b : ℤ) → positive (a +ℤ b) + (negative a + negative b) ≡ negative (a +ℤ b) + (positive a + positive b)
sum_parts (pos a) (pos b) = omega arith
sum_parts (pos a) (negsuc b) = omega (arith, sub_parts a (suc b))
sum_parts (negsuc a) (pos b) = omega (arith, sub_parts b (suc a))
sum_parts (negsuc a) (negsuc b) = omega arith

-- ---- the order's laws that the aggregates use

pub le_z_refl : (a : ℤ) → T (le_z a a)
le_z_refl a = omega (arith, →le_z)

pub le_z_trans : (a b c : ℤ) → T (le_z a b) → T (le_z b c) → T (le_z a c)
le_z_trans a b c h k = omega (arith, le_z→, →le_z)

pub not_le_z→ : (a b : ℤ) → T (not (le_z a b)) → positive b + negative a < positive a + negative b
not_le_z→ (pos a) (pos b) t = omega (arith, nleb→lt a b t)
not_le_z→ (pos a) (negsuc b) t = omega arith
not_le_z→ (negsuc a) (pos b) t = absurd t
not_le_z→ (negsuc a) (negsuc b) t = omega (arith, nleb→lt b a t)

pub →not_le_z : (a b : ℤ) → positive b + negative a < positive a + negative b → T (not (le_z a b))
→not_le_z a b h = not_T (le_z a b) (λ t. omega (arith, le_z→ a b t))

pub le_z_total : (a b : ℤ) → T (not (le_z a b)) → T (le_z b a)
le_z_total a b h = omega (arith, not_le_z→, →le_z)

pub sum_mono : (a b c d : ℤ) → T (le_z a b) → T (le_z c d) → T (le_z (a +ℤ c) (b +ℤ d))
sum_mono a b c d h k = omega (arith, le_z→, →le_z, sum_parts a c, sum_parts b d)

abbrev pub Natural : ℤ → Type 0
Natural z = T (le_z (pos 0) z)

pub product_natural : (a b : ℤ) → Natural a → Natural b → Natural (a *ℤ b)
product_natural (pos a) (pos b) h k = le→leb 0 (a * b) zero-le
product_natural (pos a) (negsuc b) h k = absurd k
product_natural (negsuc a) b h k = absurd h

pub product_mono : (a b c d : ℤ) → Natural a → Natural c → T (le_z a b) → T (le_z c d) → T (le_z (a *ℤ c) (b *ℤ d))
product_mono (pos a) (pos b) (pos c) (pos d) p q h k = le→leb (a * c) (b * d) (mul-le-mul (leb→le a b h) (leb→le c d k))
product_mono (pos a) (pos b) (pos c) (negsuc d) p q h k = absurd k
product_mono (pos a) (pos b) (negsuc c) d p q h k = absurd q
product_mono (pos a) (negsuc b) c d p q h k = absurd h
product_mono (negsuc a) b c d p q h k = absurd p

-- ---- equality, negation, size and the library's order, and the rules together

pub same_parts : (a b : ℤ) → positive a + negative b ≡ positive b + negative a → a ≡ b
same_parts (pos a) (pos b) h = ap pos (omega arith)
same_parts (pos a) (negsuc b) h = absurd (omega arith)
same_parts (negsuc a) (pos b) h = absurd (omega arith)
same_parts (negsuc a) (negsuc b) h = ap negsuc (omega arith)

pub parts_same : (a b : ℤ) → a ≡ b → positive a + negative b ≡ positive b + negative a
parts_same a b e = rw e (omega arith)

pub neg_parts : (a : ℤ) → positive (neg_ℤ a) + positive a ≡ negative (neg_ℤ a) + negative a
neg_parts (pos zero) = refl
neg_parts (pos (suc n)) = omega arith
neg_parts (negsuc n) = omega arith

pub size_parts : (a : ℤ) → nat_abs a ≡ positive a + negative a
size_parts (pos n) = omega arith
size_parts (negsuc n) = omega arith

pub le_ℤ→ : (a b : ℤ) → a ≤ℤ b → positive a + negative b ≤ positive b + negative a
le_ℤ→ a b h = le_z→ a b h.le

pub →le_ℤ : (a b : ℤ) → positive a + negative b ≤ positive b + negative a → a ≤ℤ b
→le_ℤ a b h = record { le = →le_z a b h }

pub ruleset ints = (arith, le_z→, →le_z, not_le_z→, →not_le_z, same_parts, parts_same, le_ℤ→, →le_ℤ)

-- ---- sizes

-- one of the two parts is 0
pub near : (z : ℤ) (m : ℕ) → positive z ≤ m + negative z → negative z ≤ m + positive z → nat_abs z ≤ m
near (pos n) m p q = omega arith
near (negsuc n) m p q = omega arith

pub sum_size : (a b : ℤ) → nat_abs (a +ℤ b) ≤ nat_abs a + nat_abs b
sum_size a b = let p = sum_parts a b in near (a +ℤ b) (nat_abs a + nat_abs b) (omega (ints, size_parts a, size_parts b)) (omega (ints, size_parts a, size_parts b))

pub neg_size : (a : ℤ) → nat_abs (neg_ℤ a) ≡ nat_abs a
neg_size (pos zero) = refl
neg_size (pos (suc n)) = refl
neg_size (negsuc n) = refl

-- ---- the product is associative, which the library lacks

neg_left : (a b : ℤ) → neg_ℤ a *ℤ b ≡ neg_ℤ (a *ℤ b)
neg_left (pos zero) b = zero-*ℤ b ∙ ap neg_ℤ (sym (zero-*ℤ b))
neg_left (pos (suc n)) (pos m) = refl
neg_left (pos (suc n)) (negsuc m) = sym (neg_ℤ-neg_ℤ (pos (suc n * suc m)))
neg_left (negsuc n) (pos m) = sym (neg_ℤ-neg_ℤ (pos (suc n * m)))
neg_left (negsuc n) (negsuc m) = refl

neg_right : (a b : ℤ) → a *ℤ neg_ℤ b ≡ neg_ℤ (a *ℤ b)
neg_right a b = *ℤ_comm a (neg_ℤ b) ∙ neg_left b a ∙ ap neg_ℤ (*ℤ_comm b a)

assoc₁ : (a b : ℕ) (c : ℤ) → (pos a *ℤ pos b) *ℤ c ≡ pos a *ℤ (pos b *ℤ c)
assoc₁ a b (pos c) = ap pos (mul_assoc a b c)
assoc₁ a b (negsuc c) = neg_right (pos (a * b)) (pos (suc c)) ∙ ap neg_ℤ (ap pos (mul_assoc a b (suc c))) ∙ sym (neg_right (pos a) (pos (b * suc c)))

assoc₂ : (a : ℕ) (b c : ℤ) → (pos a *ℤ b) *ℤ c ≡ pos a *ℤ (b *ℤ c)
assoc₂ a (pos b) c = assoc₁ a b c
assoc₂ a (negsuc b) c = neg_left (pos (a * suc b)) c ∙ ap neg_ℤ (assoc₁ a (suc b) c) ∙ sym (neg_right (pos a) (pos (suc b) *ℤ c))
    ∙ ap (λ x. pos a *ℤ x) (sym (neg_left (pos (suc b)) c))

pub *ℤ_assoc : (a b c : ℤ) → (a *ℤ b) *ℤ c ≡ a *ℤ (b *ℤ c)
*ℤ_assoc (pos a) b c = assoc₂ a b c
*ℤ_assoc (negsuc a) b c =
    ap (λ x. x *ℤ c) (neg_left (pos (suc a)) b) ∙ neg_left (pos (suc a) *ℤ b) c ∙ ap neg_ℤ (assoc₂ (suc a) b c) ∙ sym (neg_left (pos (suc a)) (b *ℤ c))
