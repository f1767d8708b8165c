-- The tests on a written sentence's entries are those over its two columns, entry by entry. Tests over the numbers below k+1 are the one
-- at 0 and those over the numbers below k, one on; by this a list's test is that over its places.
use mathlib.Core.Path.{◌≡◌, refl, sym, ap, ap₂, ◌∙◌}
use mathlib.Core.Bool.{Bool, true, false, ◌||◌, or_assoc, or_comm}
use mathlib.Core.List.{List, [], ◌∷◌}
use Prim.Native.Nat.{ℕ, zero, suc, ◌<◌}
use native.Mathlib.Omega.{arith}
use lib.IntN.{ℤ, pos, neg_ℤ, nat_abs, ◌*ℤ◌}
use lib.ListN.{length}
use Rattle.std.specs.List.{list_any}
use Rattle.decide.specs.Below.{some_below, product_below}
use Rattle.decide.proofs.Below.{product_front}
use Rattle.meaning.specs.Meaning.{atom, Entry, same, multiplied}
use Rattle.meaning.proofs.Trails.{atom_size}
use Rattle.area.specs.Whole.{weights_of}
use Rattle.columns.specs.Columns.{paired}
use Rattle.columns.specs.Refusals.{some_entry, both_signs}
use Rattle.columns.specs.Indexed.{nth, negated_before, negated}

-- ---- tests over the numbers below k

some_first : (k : ℕ) (p : ℕ → Bool) → some_below (suc k) p ≡ (p 0 || some_below k (λ i. p (suc i)))
unfolding some_below
some_first zero p = or_comm false (p 0)
some_first (suc k) p = ap (λ b. b || p (suc k)) (some_first k p) ∙ or_assoc (p 0) (some_below k (λ i. p (suc i))) (p (suc k))

-- some number of a list passes, as `any` looks for it
pub some_of : (p : ℤ → Bool) (xs : List ℤ) → list_any p xs ≡ some_below (length xs) (λ i. p (nth xs i))
unfolding some_below
some_of p [] = refl
some_of p (x ∷ xs) = ap (λ b. p x || b) (some_of p xs) ∙ sym (some_first (length xs) (λ i. p (nth (x ∷ xs) i)))

-- some number's size passes, which is its atom
pub some_size : (p : ℕ → Bool) (xs : List ℤ) → list_any (λ x. p (nat_abs x)) xs ≡ some_below (length xs) (λ i. p (atom (nth xs i)))
unfolding some_below
some_size p [] = refl
some_size p (x ∷ xs) = ap₂ {A = Bool} {B = Bool} (λ a b. a || b) (ap {A = ℕ} p (sym (atom_size x))) (some_size p xs)
    ∙ sym (some_first (length xs) (λ i. p (atom (nth (x ∷ xs) i))))

some_same : (k : ℕ) (p q : ℕ → Bool) → ((i : ℕ) → p i ≡ q i) → some_below k p ≡ some_below k q
unfolding some_below
some_same zero p q e = refl
some_same (suc k) p q e = ap₂ (λ a b. a || b) (some_same k p q e) (e k)

-- two by two, in another order
exchange : (a b x y : Bool) → ((a || b) || (x || y)) ≡ ((a || x) || (b || y))
exchange true b x y = refl
exchange false b x y = elim b as (λ b. false || b || (x || y) ≡ false || x || (b || y)) [ true ↦ elim x as (λ x. false || true || (x || y) ≡ false || x || (true || y)) [ true ↦ refl | false ↦ refl ] | false ↦ refl ]

some_or : (k : ℕ) (p q : ℕ → Bool) → some_below k (λ i. p i || q i) ≡ (some_below k p || some_below k q)
unfolding some_below
some_or zero p q = refl
some_or (suc k) p q = ap (λ b. b || (p k || q k)) (some_or k p q) ∙ exchange (some_below k p) (some_below k q) (p k) (q k)

-- ---- entries in pairs

pub paired_length : (ws ls : List ℤ) → length ws ≡ length ls → length (paired ws ls) ≡ length ls
unfolding paired
paired_length [] [] e = refl
paired_length [] (l ∷ ls) e = e
paired_length (w ∷ ws) [] e = refl
paired_length (w ∷ ws) (l ∷ ls) e = ap suc (paired_length ws ls (omega arith))

pub paired_weights : (ws ls : List ℤ) → length ws ≡ length ls → weights_of (paired ws ls) ≡ ws
unfolding paired
paired_weights [] ls e = refl
paired_weights (w ∷ ws) [] e = absurd (omega arith)
paired_weights (w ∷ ws) (l ∷ ls) e = ap (λ x. w ∷ x) (paired_weights ws ls (omega arith))

-- a test of entries, by their places
some_paired : (q : Entry → Bool) (ws ls : List ℤ) → length ws ≡ length ls → some_entry q (paired ws ls) ≡ some_below (length ls) (λ i. q (record { weight = nth ws i; literal = nth ls i }))
unfolding some_entry paired some_below
some_paired q [] [] e = refl
some_paired q [] (l ∷ ls) e = absurd (omega arith)
some_paired q (w ∷ ws) [] e = absurd (omega arith)
some_paired q (w ∷ ws) (l ∷ ls) e =
    ap (λ b. q (record { weight = w; literal = l }) || b) (some_paired q ws ls (omega arith))
    ∙ sym (some_first (length ls) (λ i. q (record { weight = nth (w ∷ ws) i; literal = nth (l ∷ ls) i })))

module _ (p : ℤ → Bool) (ws ls : List ℤ) (e : length ws ≡ length ls) where
  pub some_literal : some_entry (λ e. p e.literal) (paired ws ls) ≡ some_below (length ls) (λ i. p (nth ls i))
  some_literal = some_paired (λ e. p e.literal) ws ls e

  pub some_weight : some_entry (λ e. p e.weight) (paired ws ls) ≡ some_below (length ws) (λ i. p (nth ws i))
  some_weight = some_paired (λ e. p e.weight) ws ls e ∙ ap {A = ℕ} (λ k. some_below k (λ i. p (nth ws i))) (sym e)

-- ---- both signs: of the first entry with a later one, or among the later ones

pub both_signs_paired : (ws ls : List ℤ) → length ws ≡ length ls → both_signs (paired ws ls) ≡ negated ls
unfolding both_signs paired some_below
both_signs_paired [] [] e = refl
both_signs_paired [] (l ∷ ls) e = absurd (omega arith)
both_signs_paired (w ∷ ws) [] e = refl
both_signs_paired (w ∷ ws) (l ∷ ls) e =
    let f : length ws ≡ length ls = omega arith in
    ap₂ (λ a b. a || b) (some_literal (λ x. same x (neg_ℤ l)) ws ls f) (both_signs_paired ws ls f)
    ∙ sym (some_or (length ls) (λ j. same (nth ls j) (neg_ℤ l)) (negated_before ls))
    ∙ some_same (length ls) (λ j. same (nth ls j) (neg_ℤ l) || negated_before ls j) (λ j. negated_before (l ∷ ls) (suc j))
    (λ j. sym (some_first j (λ i. same (nth (l ∷ ls) (suc j)) (neg_ℤ (nth (l ∷ ls) i))))) ∙ sym (some_first (length ls) (negated_before (l ∷ ls)))

-- ---- the product of natural weights

pub multiplied_natural : (ws : List ℤ) → ((i : ℕ) → i < length ws → nth ws i ≡ pos (nat_abs (nth ws i)))
    → multiplied ws ≡ pos (product_below (length ws) (λ i. nat_abs (nth ws i)))
unfolding product_below
multiplied_natural [] h = refl
multiplied_natural (w ∷ ws) h = ap₂ (λ x y. x *ℤ y) (h 0 (omega arith)) (multiplied_natural ws (λ i l. h (suc i) (omega arith)))
    ∙ ap pos (sym (product_front (length ws) (λ i. nat_abs (nth (w ∷ ws) i))))
