-- A rule of a table, proved at all of its entries by one test that antt computes, one entry after the other.
use mathlib.Core.Path.{◌∙◌, subst, sym}
use mathlib.Core.Bool.{Bool, true, false, ◌&&◌}
use mathlib.Core.List.{List, [], ◌∷◌}
use Prim.Native.Nat.{ℕ, zero, suc, ◌+◌, ◌<◌}
use native.Mathlib.Nat.{add-zero, zero-add, add-suc, suc-add, le_of_suc-le-suc, not-suc-le-zero}
use lib.Dec.{T}
use lib.ListN.{length, get_or}

first_of : (a b : Bool) → T (a && b) → T a
first_of true b t = tt
first_of false b t = t

second_of : (a b : Bool) → T (a && b) → T b
second_of true b t = t
second_of false b t = absurd t

module _ {A : Type 0} (f : ℕ → A → Bool) where
  -- the test passes at each entry of the list and its place, counted from i
  abbrev pub every : ℕ → List A → Bool
  every i [] = true
  every i (x ∷ xs) = f i x && every (suc i) xs

  at_from : (xs : List A) (i : ℕ) → T (every i xs) → (k : ℕ) → k < length xs → (d : A) → T (f (i + k) (get_or xs k d))
  at_from [] i t k h d = absurd (not-suc-le-zero h)
  at_from (x ∷ xs) i t zero h d = subst (λ (m : ℕ). T (f m x)) (sym (add-zero i)) (first_of (f i x) (every (suc i) xs) t)
  at_from (x ∷ xs) i t (suc k) h d =
      subst (λ (m : ℕ). T (f m (get_or xs k d))) (suc-add i k ∙ sym (add-suc i k))
      (at_from xs (suc i) (second_of (f i x) (every (suc i) xs) t) k (le_of_suc-le-suc h) d)

  pub at_each : (xs : List A) → T (every 0 xs) → (k : ℕ) → k < length xs → (d : A) → T (f k (get_or xs k d))
  at_each xs t k h d = subst (λ (m : ℕ). T (f m (get_or xs k d))) (zero-add k) (at_from xs 0 t k h d)
