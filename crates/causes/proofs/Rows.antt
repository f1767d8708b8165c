-- The literals among the first rows, by their positions: the literal that `pick` finds of an atom, the row of a literal, and that a literal
-- stands there. Each is found at the one position that has it.
use mathlib.Core.Path.{◌≡◌, refl, sym, ◌∙◌, ap}
use mathlib.Core.Bool.{Bool, true, false, cond}
use mathlib.Core.Logic.{inl, inr, ⊎_elim}
use mathlib.Core.List.{List, ◌∷◌}
use Prim.Native.Nat.{ℕ, zero, suc, ◌<◌}
use native.Mathlib.Omega.{arith}
use native.Mathlib.Nat.{eq-or-lt_of_le}
use native.Mathlib.Decide.{ℕ_discrete}
use lib.IntN.{ℤ}
use lib.Dec.{T, eqb}
use borrow.Author.Tests.{eq-eqb, ne_eqb}
use Rattle.meaning.specs.Meaning.{atom, same}
use Rattle.meaning.proofs.Orders.{is_true, is_false}
use Rattle.meaning.proofs.Members.{same→eq, eq→same}
use Rattle.book.specs.Rows.{trail, pick, Standpoint, row_of, any}
use Rattle.book.specs.Means.{Among}
use Rattle.book.proofs.Tests.{any_tells, stands_told}
use Rattle.area.specs.Layout.{row_at, rows_from}

-- below k + 1, and not k
below : (i k : ℕ) → i < suc k → ¬ (i ≡ k) → i < k
below i k l d = ⊎_elim {A = i ≡ k} {B = i < k} (λ q. absurd (d q)) (λ q. q) (eq-or-lt_of_le (omega arith))

module _ (w : List ℕ) (n : ℕ) where
  abbrev literal : ℕ → ℤ
  literal i = (row_at w n i).literal

  -- ---- the literal of an atom

  pub pick_none : (a k : ℕ) → ((i : ℕ) → i < k → ¬ (atom (literal i) ≡ a)) → (rest : List ℤ) → pick (trail (rows_from w n k)) a rest ≡ rest
  unfolding rows_from pick
  pick_none a zero off rest = refl
  pick_none a (suc k) off rest =
      ap {A = Bool} (λ b. cond b (literal k ∷ rest) (pick (trail (rows_from w n k)) a rest)) (ne_eqb (atom (literal k)) a (off k (omega arith)))
      ∙ pick_none a k (λ i l. off i (omega arith)) rest

  pub pick_one : (a i k : ℕ) → i < k → atom (literal i) ≡ a → ((j : ℕ) → j < k → atom (literal j) ≡ a → j ≡ i)
      → (rest : List ℤ) → pick (trail (rows_from w n k)) a rest ≡ literal i ∷ rest
  unfolding rows_from pick
  pick_one a i zero l e once rest = let b : ⊥ = omega arith in absurd b
  pick_one a i (suc k) l e once rest = go (ℕ_discrete (atom (literal k)) a) (λ m. pick_one a i k m e (λ j q. once j (omega arith)) rest)
    where
      go : Dec (atom (literal k) ≡ a) → (i < k → pick (trail (rows_from w n k)) a rest ≡ literal i ∷ rest)
          → cond (eqb (atom (literal k)) a) (literal k ∷ rest) (pick (trail (rows_from w n k)) a rest) ≡ literal i ∷ rest
      go (yes q) ih =
          ap {A = Bool} (λ b. cond b (literal k ∷ rest) (pick (trail (rows_from w n k)) a rest)) (eq-eqb (atom (literal k)) a q)
          ∙ ap {A = ℕ} (λ j. literal j ∷ rest) (once k (omega arith) q)
      go (no d) ih =
          ap {A = Bool} (λ b. cond b (literal k ∷ rest) (pick (trail (rows_from w n k)) a rest)) (ne_eqb (atom (literal k)) a d)
          ∙ ih (below i k l (λ (q : i ≡ k). d (ap {A = ℕ} (λ j. atom (literal j)) (sym q) ∙ e)))

  -- ---- the row of a literal

  pub row_of_one : (l : ℤ) (i k : ℕ) → i < k → literal i ≡ l → ((j : ℕ) → j < k → literal j ≡ l → j ≡ i)
      → row_of l (rows_from w n k) ≡ record { mine = row_at w n i; before = rows_from w n i }
  unfolding rows_from row_of
  row_of_one l i zero m e once = let b : ⊥ = omega arith in absurd b
  row_of_one l i (suc k) m e once =
      go (same (literal k) l) (λ t. same→eq (literal k) l t) (λ q. eq→same (literal k) l q) (λ q. row_of_one l i k q e (λ j p. once j (omega arith)))
    where
      go : (b : Bool) → (T b → literal k ≡ l) → (literal k ≡ l → T b)
          → (i < k → row_of l (rows_from w n k) ≡ record { mine = row_at w n i; before = rows_from w n i })
          → cond b (record { mine = row_at w n k; before = rows_from w n k }) (row_of l (rows_from w n k)) ≡ record { mine = row_at w n i; before = rows_from w n i }
      go true y z ih = ap {A = ℕ} {B = Standpoint} (λ j. record { mine = row_at w n j; before = rows_from w n j }) (once k (omega arith) (y tt))
      go false y z ih = ih (below i k m (λ (q : i ≡ k). z (ap {A = ℕ} literal (sym q) ∙ e)))

  -- ---- a literal among them

  pub row_among : (i k : ℕ) → i < k → Among (literal i) (trail (rows_from w n k))
  unfolding rows_from
  row_among i zero l = let b : ⊥ = omega arith in absurd b
  row_among i (suc k) l =
      ⊎_elim {A = i ≡ k} {B = i < k} (λ (q : i ≡ k). inl (ap {A = ℕ} literal q)) (λ (q : i < k). inr (row_among i k q)) (eq-or-lt_of_le (omega arith))

  pub among_row : (l : ℤ) (k : ℕ) → Among l (trail (rows_from w n k)) → (i : ℕ) × (i < k) × (literal i ≡ l)
  unfolding rows_from
  among_row l zero h = absurd h
  among_row l (suc k) (inl e) = (k, omega arith, sym e)
  among_row l (suc k) (inr h) = let x = among_row l k h in (x.0, omega (arith, x.1), x.2)

  pub stands_at : (l : ℤ) (i k : ℕ) → i < k → literal i ≡ l → any (same l) (trail (rows_from w n k)) ≡ true
  stands_at l i k m e =
      is_true (any_tells (same l) (trail (rows_from w n k)) (literal i) (row_among i k m) (eq→same l (literal i) (sym e)))

  pub stands_not : (l : ℤ) (k : ℕ) → ((i : ℕ) → i < k → ¬ (literal i ≡ l)) → any (same l) (trail (rows_from w n k)) ≡ false
  stands_not l k off =
      is_false (λ t. let x = among_row l k (stands_told l (trail (rows_from w n k)) t) in off x.0 x.1 x.2)
