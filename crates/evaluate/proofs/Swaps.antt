-- One contribution replaced by another, on words: the new sum is the old one with the one added and the other taken off, and the new
-- product the old one multiplied by the one and divided by the other.
use mathlib.Core.Path.{◌≡◌, refl, sym, ◌∙◌, ap}
use mathlib.Core.List.{List, [], ◌∷◌}
use Prim.Native.Nat.{ℕ, ◌+◌, ◌-◌, ◌*◌, ◌/◌, ◌≤◌, ◌<◌}
use native.Mathlib.Omega.{arith}
use native.Mathlib.Nat.{mul_assoc, mul_comm, mul-one, mul_right_comm, div-eq_of_eq-mul_left}
use Rattle.numbers.specs.Words.{half}
use Rattle.kinds.specs.declared.Kind.{Kind}
use Rattle.kinds.specs.declared.Kind.TheVariants.{Product}
use Rattle.extremes.specs.Inner.Words.{combined, folded}
use Rattle.extremes.specs.Inner.Room.{Steps, Room}

-- two lists that differ in one place, where x is replaced by y
pub data Swapped (x y : ℕ) : List ℕ → List ℕ → Type 0 where
  here : {r : List ℕ} → Swapped x y (x ∷ r) (y ∷ r)
  there : {z : ℕ} {xs ys : List ℕ} → Swapped x y xs ys → Swapped x y (z ∷ xs) (z ∷ ys)

pub same_swap : {x : ℕ} {xs ys : List ℕ} → Swapped x x xs ys → xs ≡ ys
same_swap here = refl
same_swap (there {z} s) = ap (λ l. z ∷ l) (same_swap s)

-- ---- sums and counts

module _ (k : Kind) (is : (a b : ℕ) → combined k a b ≡ a + b - half) (low : (a b : ℕ) → Steps k a b → half < a + b) where
  -- folds from a and from b stay as far apart as a and b
  shift : (a b : ℕ) (r : List ℕ) → Room k a r → Room k b r → folded k a r + b ≡ folded k b r + a
  unfolding folded Room
  shift a b [] p q = omega arith
  shift a b (z ∷ r) p q =
      let ih : folded k (combined k a z) r + combined k b z ≡ folded k (combined k b z) r + combined k a z = shift (combined k a z) (combined k b z) r p.1 q.1 in
      omega (arith, is a z, is b z, low a z p.0, low b z q.0)

  pub sum_swap : (x y acc : ℕ) {xs ys : List ℕ} → Swapped x y xs ys → Room k acc xs → Room k acc ys → folded k acc ys + x ≡ folded k acc xs + y
  unfolding folded Room
  sum_swap x y acc (here {r}) p q =
      let e : folded k (combined k acc y) r + combined k acc x ≡ folded k (combined k acc x) r + combined k acc y = shift (combined k acc y) (combined k acc x) r q.1 p.1 in
      omega (arith, is acc x, is acc y, low acc x p.0, low acc y q.0)
  sum_swap x y acc (there {z} s) p q = sum_swap x y (combined k acc z) s p.1 q.1

-- ---- products

times : List ℕ → ℕ
times [] = 1
times (x ∷ xs) = (x - half) * times xs

folded_times : (acc : ℕ) (xs : List ℕ) → half ≤ acc → folded Product acc xs ≡ half + (acc - half) * times xs
unfolding folded times
folded_times acc [] h = omega (arith, mul-one (acc - half))
folded_times acc (x ∷ xs) h =
    let e : half + (acc - half) * (x - half) - half ≡ (acc - half) * (x - half) = omega arith in
    folded_times (half + (acc - half) * (x - half)) xs (omega arith)
    ∙ ap (λ z. half + z * times xs) e
    ∙ ap (λ z. half + z) (mul_assoc (acc - half) (x - half) (times xs))

times_swap : (x y : ℕ) {xs ys : List ℕ} → Swapped x y xs ys → times ys * (x - half) ≡ times xs * (y - half)
unfolding times
times_swap x y (here {r}) =
    let a = x - half in
    let b = y - half in
    mul_right_comm b (times r) a ∙ ap (λ z. z * times r) (mul_comm b a) ∙ mul_right_comm a b (times r)
times_swap x y (there {z} {xs} {ys} s) =
    mul_assoc (z - half) (times ys) (x - half) ∙ ap (λ t. (z - half) * t) (times_swap x y s) ∙ sym (mul_assoc (z - half) (times xs) (y - half))

pub product_swap : (acc x y : ℕ) {xs ys : List ℕ} → Swapped x y xs ys → half ≤ acc → half < x
    → half + (folded Product acc xs - half) * (y - half) / (x - half) ≡ folded Product acc ys
product_swap acc x y {xs} {ys} s h p =
    let a = acc - half in
    let e : folded Product acc xs - half ≡ a * times xs = omega (arith, folded_times acc xs h) in
    let q : a * times xs * (y - half) ≡ a * times ys * (x - half) =
    mul_assoc a (times xs) (y - half) ∙ ap (λ z. a * z) (sym (times_swap x y s)) ∙ sym (mul_assoc a (times ys) (x - half)) in
    let positive : 0 < x - half = omega arith in
    ap (λ z. half + z * (y - half) / (x - half)) e ∙ ap (λ z. half + z) (div-eq_of_eq-mul_left positive q) ∙ sym (folded_times acc ys h)
