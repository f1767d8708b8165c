-- One contribution replaced by another in a maximum or a minimum: where it was the best, the second best is left, and otherwise the best;
-- and where it was the empty value, nothing is lost. One argument for both.
use mathlib.Core.Path.{◌≡◌, refl, sym, ◌∙◌, ap}
use mathlib.Core.Bool.{Bool, true, false, cond}
use mathlib.Core.Logic.{⊎_elim}
use mathlib.Core.List.{List, [], ◌∷◌}
use Prim.Native.Nat.{ℕ, ◌≤◌, ◌<◌}
use native.Mathlib.Omega.{arith}
use lib.Dec.{eqb}
use borrow.Author.Tests.{eqb-true, eqb-false}
use Rattle.numbers.proofs.Words.{cases}
use Rattle.extremes.specs.Inner.Words.{combined, furthest_word, nearest_word, folded}
use Rattle.evaluate.specs.Inner.Words.{best_kind, second_best}
use Rattle.evaluate.proofs.Swaps.{Swapped, here, there}

combined_best : (u : Bool) (a b : ℕ) → combined (best_kind u) a b ≡ furthest_word u a b
combined_best true a b = refl
combined_best false a b = refl

-- ---- the furthest of two words

assoc : (u : Bool) (a b z : ℕ) → furthest_word u (furthest_word u a b) z ≡ furthest_word u a (furthest_word u b z)
assoc true a b z = omega arith
assoc false a b z = omega arith

comm : (u : Bool) (a b : ℕ) → furthest_word u a b ≡ furthest_word u b a
comm true a b = omega arith
comm false a b = omega arith

idem : (u : Bool) (a : ℕ) → furthest_word u a a ≡ a
idem true a = omega arith
idem false a = omega arith

-- the second best does not pass the best
behind : (u : Bool) (a s x : ℕ) → furthest_word u s a ≡ a → furthest_word u (furthest_word u s (nearest_word u a x)) (furthest_word u a x) ≡ furthest_word u a x
behind true a s x h = omega arith
behind false a s x h = omega arith

-- the best so far stays the best
lower : (u : Bool) (b s z top : ℕ) → furthest_word u s b ≡ b → furthest_word u (furthest_word u b z) top ≡ top → top ≡ b
    → (furthest_word u b z ≡ b) × (furthest_word u s (nearest_word u b z) ≡ furthest_word u s z) × (furthest_word u (furthest_word u s z) b ≡ b)
lower true b s z top h p e = (omega arith, omega arith, omega arith)
lower false b s z top h p e = (omega arith, omega arith, omega arith)

-- x is the best of x and of the others, whose best the first ones do not pass
hit : (u : Bool) (acc second x others : ℕ) → furthest_word u second acc ≡ acc → furthest_word u acc others ≡ others → x ≡ furthest_word u x others
    → (furthest_word u acc x ≡ x) × (furthest_word u second (nearest_word u acc x) ≡ acc) × (furthest_word u acc x ≡ furthest_word u x others)
hit true acc second x others h k e = (omega arith, omega arith, omega arith)
hit false acc second x others h k e = (omega arith, omega arith, omega arith)

miss : (u : Bool) (x others : ℕ) → (x ≡ furthest_word u x others → ⊥) → furthest_word u x others ≡ others
miss true x others n = ⊎_elim (λ (h : others ≤ x). absurd (n (omega arith))) (λ (h : x < others). omega arith) (cases x others)
miss false x others n = ⊎_elim (λ (h : others ≤ x). omega arith) (λ (h : x < others). absurd (n (omega arith))) (cases x others)

-- ---- folds

module _ (u : Bool) where
  abbrev best : ℕ → List ℕ → ℕ
  best = folded (best_kind u)

  -- one value goes in first or last
  pull : (a b : ℕ) (r : List ℕ) → best (furthest_word u a b) r ≡ furthest_word u a (best b r)
  unfolding folded
  pull a b [] = refl
  pull a b (z ∷ r) = rw (combined_best u (furthest_word u a b) z, combined_best u b z, assoc u a b z) (pull a (furthest_word u b z) r)

  passes : (a : ℕ) (r : List ℕ) → furthest_word u a (best a r) ≡ best a r
  passes a r = sym (pull a a r) ∙ ap (λ z. best z r) (idem u a)

  -- where nothing passes b, the second best is the best from s on
  runner : (b s : ℕ) (r : List ℕ) → furthest_word u s b ≡ b → best b r ≡ b → second_best u b s r ≡ best s r
  unfolding folded second_best
  runner b s [] h e = refl
  runner b s (z ∷ r) h e =
      let l = lower u b s z (best (furthest_word u b z) r) h (passes (furthest_word u b z) r) (sym (ap (λ t. best t r) (combined_best u b z)) ∙ e) in
      rw (combined_best u s z, l.0, l.1) (runner b (furthest_word u s z) r l.2 (sym (ap (λ t. best t r) (combined_best u b z ∙ l.0)) ∙ e))

  pub best_swap : (x y acc second : ℕ) {xs ys : List ℕ} → Swapped x y xs ys → furthest_word u second acc ≡ acc
      → furthest_word u (cond (eqb x (best acc xs)) (second_best u acc second xs) (best acc xs)) y ≡ best acc ys
  unfolding folded second_best
  best_swap x y acc second (here {r}) h = go (eqb x E) refl
    where
      M : ℕ
      M = best acc r

      E : ℕ
      E = best (combined (best_kind u) acc x) r

      S : ℕ
      S = second_best u (furthest_word u acc x) (furthest_word u second (nearest_word u acc x)) r

      target : best (combined (best_kind u) acc y) r ≡ furthest_word u M y
      target = ap (λ t. best t r) (combined_best u acc y ∙ comm u acc y) ∙ pull y acc r ∙ comm u y M

      furthest_is : E ≡ furthest_word u x M
      furthest_is = ap (λ t. best t r) (combined_best u acc x ∙ comm u acc x) ∙ pull x acc r

      go : (c : Bool) → eqb x E ≡ c → furthest_word u (cond c S E) y ≡ best (combined (best_kind u) acc y) r
      go true e =
          let q = hit u acc second x M h (passes acc r) (eqb-true x E e ∙ furthest_is) in
          let s : S ≡ M =
          ap (λ t. second_best u (furthest_word u acc x) t r) q.1
          ∙ runner (furthest_word u acc x) acc r (sym (assoc u acc acc x) ∙ ap (λ z. furthest_word u z x) (idem u acc)) (ap (λ t. best t r) (sym (combined_best u acc x)) ∙ furthest_is ∙ sym q.2) in
          ap (λ t. furthest_word u t y) s ∙ sym target
      go false e = ap (λ t. furthest_word u t y) (furthest_is ∙ miss u x M (λ z. eqb-false x E e (z ∙ sym furthest_is))) ∙ sym target
  best_swap x y acc second (there {z} {xs} {ys} s) h =
      rw (combined_best u acc z)
      (best_swap x y (furthest_word u acc z) (furthest_word u second (nearest_word u acc z)) s (behind u acc second z h))

  -- a contribution that the start passes, replaced
  pub empty_swap : (empty y acc : ℕ) {xs ys : List ℕ} → furthest_word u acc empty ≡ acc → Swapped empty y xs ys → best acc ys ≡ furthest_word u (best acc xs) y
  unfolding folded
  empty_swap empty y acc h (here {r}) =
      ap (λ t. best t r) (combined_best u acc y ∙ comm u acc y) ∙ pull y acc r ∙ comm u y (best acc r)
      ∙ ap (λ t. furthest_word u (best t r) y) (sym (combined_best u acc empty ∙ h))
  empty_swap empty y acc h (there {z} {xs} {ys} s) =
      rw (combined_best u acc z)
      (empty_swap empty y (furthest_word u acc z)
      (assoc u acc z empty ∙ ap (furthest_word u acc) (comm u z empty) ∙ sym (assoc u acc empty z) ∙ ap (λ t. furthest_word u t z) h) s)
