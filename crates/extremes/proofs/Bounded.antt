-- No fold over a whole sentence wraps, whatever the values: each contribution is the weight or the empty value, so that a sum moves by no
-- more than the sizes of all its weights together, and a product never passes the product of all its weights.
use mathlib.Core.Path.{◌≡◌, sym, subst}
use mathlib.Core.Bool.{Bool}
use mathlib.Core.Logic.{◌⊎◌, inl, inr, ⊎_elim}
use mathlib.Core.List.{List, [], ◌∷◌}
use Prim.Native.Nat.{ℕ, ◌+◌, ◌-◌, ◌*◌, ◌/◌, ◌≤◌, ◌<◌}
use native.Mathlib.Omega.{arith}
use native.Mathlib.Nat.{mul_assoc, mul-le-mul, le_refl, mul-pos}
use Rattle.numbers.specs.Words.{half, top}
use Rattle.kinds.specs.declared.Kind.{Kind}
use Rattle.kinds.specs.declared.Kind.TheVariants.{Sum, Product, Count, Max, Min}
use Rattle.extremes.specs.Inner.Words.{empty_word, combined, reach_word, contributions}
use Rattle.extremes.specs.Inner.Room.{Steps, Room}
use Rattle.extremes.proofs.Values.{reach_one}
use Rattle.extremes.proofs.Contributions.{Proper, Legal}

-- how far a word is from the word of 0
abbrev pub far : ℕ → ℕ
far w = (w - half) + (half - w)

unfoldable pub spread : List ℕ → ℕ
spread [] = 0
spread (w ∷ []) = 0
spread (w ∷ l ∷ rest) = far w + spread rest

unfoldable pub factors : List ℕ → ℕ
factors [] = 1
factors (w ∷ []) = 1
factors (w ∷ l ∷ rest) = (w - half) * factors rest

-- from acc on there is room for all the words
abbrev pub Bounded : Kind → ℕ → List ℕ → Type 0
Bounded Sum acc words = (spread words < acc) × (acc + spread words < top)
Bounded Product acc words = (half ≤ acc) × ((acc - half) * factors words < half)
Bounded Count acc words = (spread words < acc) × (acc + spread words < top)
Bounded Max acc words = Unit {0}
Bounded Min acc words = Unit {0}

-- ---- a step

abbrev Stepped : Kind → ℕ → List ℕ → ℕ → Type 0
Stepped k acc rest x = Steps k acc x × Bounded k (combined k acc x) rest

step_sum : (acc w l : ℕ) (rest : List ℕ) (x : ℕ) → Bounded Sum acc (w ∷ l ∷ rest) → (x ≡ w) ⊎ (x ≡ half) → Stepped Sum acc rest x
unfolding spread
step_sum acc w l rest x s (inl e) = ((omega arith, omega arith), (omega arith, omega arith))
step_sum acc w l rest x s (inr e) = ((omega arith, omega arith), (omega arith, omega arith))

factors_positive : (n : ℕ) (words : List ℕ) → Legal Product n words → 0 < factors words
unfolding factors Legal
factors_positive n [] g = omega arith
factors_positive n (w ∷ []) g = omega arith
factors_positive n (w ∷ l ∷ rest) g = let p : 0 < w - half = omega (arith, g.0.weight.0) in mul-pos p (factors_positive n rest g.1)

grows : (a b : ℕ) → 0 < b → a ≤ a * b
grows a b h = omega (arith, mul-le-mul (le_refl a) h)

step_product : (n acc w l : ℕ) (rest : List ℕ) (x : ℕ) → half < w → Legal Product n rest → Bounded Product acc (w ∷ l ∷ rest) → (x ≡ w) ⊎ (x ≡ half + 1) → Stepped Product acc rest x
unfolding factors
step_product n acc w l rest x p g s h =
    let a = acc - half in
    let F = factors rest in
    let low : half ≤ x = ⊎_elim (λ e. omega arith) (λ e. omega arith) h in
    let le : x - half ≤ w - half = ⊎_elim (λ e. omega arith) (λ e. omega arith) h in
    let all : a * (x - half) * F ≤ a * ((w - half) * F) =
    subst (λ z. a * (x - half) * F ≤ z) (mul_assoc a (w - half) F) (mul-le-mul (mul-le-mul (le_refl a) le) (le_refl F)) in
    let one : a * (x - half) ≤ a * (x - half) * F = grows (a * (x - half)) F (factors_positive n rest g) in
    let e : half + a * (x - half) - half ≡ a * (x - half) = omega arith in
    ((s.0, low, omega arith), (omega arith, subst (λ z. z * F < half) (sym e) (omega arith)))

bounded_step : (k : Kind) (n acc w l : ℕ) (rest : List ℕ) (x : ℕ) → Proper k n w l → Legal k n rest → Bounded k acc (w ∷ l ∷ rest) → (x ≡ w) ⊎ (x ≡ empty_word k) → Stepped k acc rest x
bounded_step Sum n acc w l rest x f g s h = step_sum acc w l rest x s h
bounded_step Product n acc w l rest x f g s h = step_product n acc w l rest x f.weight.0 g s h
bounded_step Count n acc w l rest x f g s h = step_sum acc w l rest x s h
bounded_step Max n acc w l rest x f g s h = (tt, tt)
bounded_step Min n acc w l rest x f g s h = (tt, tt)

-- ---- the fold

pub bounded_room : (k : Kind) (n : ℕ) (u : Bool) (v : ℕ → ℕ) (acc : ℕ) (words : List ℕ) → Legal k n words → Bounded k acc words → Room k acc (contributions k u v words)
unfolding contributions Room Legal
bounded_room k n u v acc [] g s = tt
bounded_room k n u v acc (w ∷ []) g s = tt
bounded_room k n u v acc (w ∷ l ∷ rest) g s =
    let x = reach_word u (empty_word k) w l (v (l / 2)) in
    let q : Stepped k acc rest x = bounded_step k n acc w l rest x g.0 g.1 s (reach_one u (empty_word k) w l (v (l / 2))) in
    (q.0, bounded_room k n u v (combined k acc x) rest g.1 q.1)
