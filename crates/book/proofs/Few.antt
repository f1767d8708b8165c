-- No more rows than atoms: the rows are of atoms 1 to N, each once. By induction on N: leaving out one atom shortens a list of different
-- atoms by at most one.
use mathlib.Core.Path.{◌≡◌, refl, sym, ◌∙◌, ap, subst}
use mathlib.Core.Bool.{cond, not}
use mathlib.Core.Logic.{inl, inr}
use mathlib.Core.List.{List, [], ◌∷◌}
use Prim.Native.Nat.{ℕ, zero, suc, ◌≤◌}
use native.Mathlib.Omega.{arith}
use lib.ListN.{length}
use lib.Dec.{T, eqb, eqb→eq, T_not, eqb_refl}
use Rattle.meaning.specs.Meaning.{atom, Sentence, On, Each}
use Rattle.book.specs.Rows.{Row, trail}
use Rattle.book.specs.Sound.{Within, Sound}
use Rattle.book.proofs.Tests.{either}

abbrev pub Off : ℕ → List ℕ → Type 0
Off a bs = Each (λ b. ¬ (b ≡ a)) bs

abbrev pub Distinct : List ℕ → Type 0
Distinct [] = Unit {0}
Distinct (a ∷ bs) = Off a bs × Distinct bs

abbrev without : ℕ → List ℕ → List ℕ
without a [] = []
without a (b ∷ bs) = cond (eqb a b) (without a bs) (b ∷ without a bs)

without_off : (a : ℕ) (bs : List ℕ) → Off a bs → without a bs ≡ bs
without_off a [] h = refl
without_off a (b ∷ bs) h =
    either (λ xs. xs ≡ b ∷ without a bs) (eqb a b) (λ t. absurd (h.0 (sym (eqb→eq a b t)))) (λ _. refl) ∙ ap (λ x. b ∷ x) (without_off a bs h.1)

without_each : (P : ℕ → Type 0) (a : ℕ) (bs : List ℕ) → Each P bs → Each P (without a bs)
without_each P a [] h = tt
without_each P a (b ∷ bs) h = either (Each P) (eqb a b) (λ _. without_each P a bs h.1) (λ _. (h.0, without_each P a bs h.1))

without_distinct : (a : ℕ) (bs : List ℕ) → Distinct bs → Distinct (without a bs)
without_distinct a [] h = tt
without_distinct a (b ∷ bs) h =
    let ih = without_distinct a bs h.1 in
    either Distinct (eqb a b) (λ _. ih) (λ _. (without_each (λ x. ¬ (x ≡ b)) a bs h.0, ih))

without_length : (a : ℕ) (bs : List ℕ) → Distinct bs → length bs ≤ suc (length (without a bs))
without_length a [] h = omega arith
without_length a (b ∷ bs) h =
    either (λ xs. suc (length bs) ≤ suc (length xs)) (eqb a b)
    (λ t. omega (arith, ap length (ap (λ x. without x bs) (eqb→eq a b t) ∙ without_off b bs h.0))) (λ _. omega (arith, without_length a bs h.1))

-- without suc n, within suc n is within n
below_top : (n : ℕ) (bs : List ℕ) → Each (Within (suc n)) bs → Each (Within n) (without (suc n) bs)
below_top n [] h = tt
below_top n (b ∷ bs) h =
    let ih = below_top n bs h.1 in
    let other : T (not (eqb (suc n) b)) → ¬ (suc n ≡ b) = λ t e. T_not (eqb (suc n) b) t (subst (λ x. T (eqb (suc n) x)) e (eqb_refl (suc n))) in
    either (Each (Within n)) (eqb (suc n) b) (λ _. ih) (λ t. ((h.0.0, omega (arith, h.0.1, other t)), ih))

pub few : (n : ℕ) (bs : List ℕ) → Each (Within n) bs → Distinct bs → length bs ≤ n
few zero [] h d = omega arith
few zero (b ∷ bs) h d = absurd (let low = h.0.0 in let high = h.0.1 in omega (arith, low, high))
few (suc n) bs h d =
    let k = few n (without (suc n) bs) (below_top n bs h) (without_distinct (suc n) bs d) in
    let l = without_length (suc n) bs d in omega (arith, k, l)

-- ---- rows

abbrev pub atoms_of : List Row → List ℕ
atoms_of [] = []
atoms_of (r ∷ rs) = atom r.literal ∷ atoms_of rs

pub lengths : (rs : List Row) → length (atoms_of rs) ≡ length rs
lengths [] = refl
lengths (r ∷ rs) = ap suc (lengths rs)

module _ (n : ℕ) (ss : List Sentence) where
  off_atoms : (a : ℕ) (rs : List Row) → ¬ (On a (trail rs)) → Off a (atoms_of rs)
  off_atoms a [] h = tt
  off_atoms a (r ∷ rs) h = ((λ e. h (inl e)), off_atoms a rs (λ o. h (inr o)))

  within : (v : ℕ) (rs : List Row) → Sound n ss v rs → Each (Within n) (atoms_of rs)
  within v [] h = tt
  within v (r ∷ rs) h = (h.0.atom_within, within r.level rs h.1)

  distinct : (v : ℕ) (rs : List Row) → Sound n ss v rs → Distinct (atoms_of rs)
  distinct v [] h = tt
  distinct v (r ∷ rs) h = (off_atoms (atom r.literal) rs h.0.off, distinct r.level rs h.1)

  pub few_rows : (v : ℕ) (rs : List Row) → Sound n ss v rs → length rs ≤ n
  few_rows v rs h = let k = few n (atoms_of rs) (within v rs h) (distinct v rs h) in let l = lengths rs in omega (arith, k, l)
