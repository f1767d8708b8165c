-- What a trail says of a full assignment: the truths of its own atoms, and nothing of the others. So a literal of an atom that is not on
-- a consistent trail can be put on.
use mathlib.Core.Path.{◌≡◌, refl, sym, ◌∙◌, ap, subst}
use mathlib.Core.Bool.{Bool, true, false, not, cond, true≢false}
use mathlib.Core.Logic.{◌⊎◌, inl, inr, ⊎_elim}
use mathlib.Core.List.{List, [], ◌∷◌}
use Prim.Native.Nat.{ℕ, zero, suc, ◌/◌, ◌≤◌, ◌<◌}
use native.Mathlib.Omega.{arith}
use native.Mathlib.Decide.{ℕ_discrete}
use lib.IntN.{ℤ, pos, negsuc, neg_ℤ, nat_abs}
use lib.Dec.{T, eqb, eqb→eq}
use borrow.Author.Tests.{eq-eqb, ne_eqb}
use Rattle.numbers.specs.Words.{literal_of}
use Rattle.numbers.proofs.Words.{cases, literal_none, literal_atom}
use Rattle.meaning.specs.Meaning.{Assignment, atom, truth, holds, Agrees, Consistent, On}
use Rattle.meaning.specs.Computed.{Standing, free, fixed, standing_of, is_free}

-- ---- literals

-- the truth of its atom under which a literal holds
pub truth_wanted : (l : ℤ) (b : Bool) → truth l b ≡ true → b ≡ truth l true
truth_wanted (pos n) b e = e
truth_wanted (negsuc n) true e = sym e
truth_wanted (negsuc n) false e = refl

pub truth_settable : (l : ℤ) → truth l (truth l true) ≡ true
truth_settable l = elim l as (λ l. truth l (truth l true) ≡ true) [ pos a ↦ refl | negsuc a ↦ refl ]

pub atom_size : (l : ℤ) → atom l ≡ nat_abs l
atom_size l = elim l as (λ l. atom l ≡ nat_abs l) [ pos a ↦ refl | negsuc a ↦ refl ]

-- of every word: 0 and 1 are of no atom
pub atom_half : (w : ℕ) → atom (literal_of w) ≡ w / 2
atom_half w =
    ⊎_elim (λ (p : 2 ≤ w). atom_size (literal_of w) ∙ literal_atom w p) (λ (p : w < 2). ap {A = ℤ} atom (literal_none w p) ∙ omega arith) (cases w 2)

pub literal_low : (w : ℕ) → 1 ≤ atom (literal_of w) → 2 ≤ w
literal_low w h = omega (arith, atom_half w)

pub opposite_atom : (l : ℤ) → atom (neg_ℤ l) ≡ atom l
opposite_atom (pos zero) = refl
opposite_atom (pos (suc a)) = refl
opposite_atom (negsuc a) = refl

pub opposite_truth : (l : ℤ) → 1 ≤ atom l → (b : Bool) → truth (neg_ℤ l) b ≡ not (truth l b)
opposite_truth (pos zero) n b = absurd (omega arith)
opposite_truth (pos (suc a)) n b = refl
opposite_truth (negsuc a) n true = refl
opposite_truth (negsuc a) n false = refl

pub opposite_holds : (l : ℤ) → 1 ≤ atom l → (σ : Assignment) → holds σ (neg_ℤ l) ≡ not (holds σ l)
opposite_holds l n σ = opposite_truth l n (σ (atom (neg_ℤ l))) ∙ ap (λ a. not (truth l (σ a))) (opposite_atom l)

-- an atom has two literals
pub two_literals : (l : ℤ) (a : ℕ) → atom l ≡ a → (l ≡ pos a) ⊎ (l ≡ neg_ℤ (pos a))
two_literals (pos n) a e = inl (ap pos e)
two_literals (negsuc n) a e = inr (ap (λ x. neg_ℤ (pos x)) e)

-- two literals of an atom that hold together are one
pub literal_unique : (l m : ℤ) → atom l ≡ atom m → (b : Bool) → truth l b ≡ true → truth m b ≡ true → l ≡ m
literal_unique (pos a) (pos c) e b h g = ap pos e
literal_unique (pos a) (negsuc c) e b h g = absurd (true≢false (sym g ∙ ap not h))
literal_unique (negsuc a) (pos c) e b h g = absurd (true≢false (sym h ∙ ap not g))
literal_unique (negsuc a) (negsuc c) e b h g = ap negsuc (omega arith)

-- ---- standings

pub free_fixed : {b : Bool} → free ≡ fixed b → ⊥
free_fixed e = subst (λ s. T (is_free s)) e tt

pub fixed_injective : {b c : Bool} → fixed b ≡ fixed c → b ≡ c
fixed_injective e = cc

pub is_free_of : (s : Standing) → T (is_free s) → s ≡ free
is_free_of s = elim s as (λ s. T (is_free s) → s ≡ free) [ free ↦ λ h. refl | fixed b ↦ absurd ]

pub standing_same : (l : ℤ) (t : List ℤ) → standing_of (l ∷ t) (atom l) ≡ fixed (truth l true)
unfolding standing_of
standing_same l t = ap (λ c. cond c (fixed (truth l true)) (standing_of t (atom l))) (eq-eqb (atom l) (atom l) refl)

pub standing_other : (l : ℤ) (t : List ℤ) (a : ℕ) → ¬ (a ≡ atom l) → standing_of (l ∷ t) a ≡ standing_of t a
unfolding standing_of
standing_other l t a n = ap (λ c. cond c (fixed (truth l true)) (standing_of t a)) (ne_eqb (atom l) a (λ e. n (sym e)))

pub fixed_agrees : (σ : Assignment) (t : List ℤ) (a : ℕ) (b : Bool) → Agrees σ t → standing_of t a ≡ fixed b → σ a ≡ b
unfolding standing_of
fixed_agrees σ [] a b g e = absurd (free_fixed e)
fixed_agrees σ (l ∷ t) a b g e = elim (eqb (atom l) a) as (λ c. (T c → atom l ≡ a) → cond c (fixed (truth l true)) (standing_of t a) ≡ fixed b → σ a ≡ b)
    [ true ↦ λ same e. ap σ (sym (same tt)) ∙ truth_wanted l (σ (atom l)) g.0 ∙ fixed_injective e | false ↦ λ same e. fixed_agrees σ t a b g.1 e ]
    (eqb→eq (atom l) a) e

-- ---- an atom is on the trail, or free

pub off_free : (t : List ℤ) (a : ℕ) → ¬ (On a t) → standing_of t a ≡ free
unfolding standing_of
off_free [] a n = refl
off_free (l ∷ t) a n = standing_other l t a (λ e. n (inl (sym e))) ∙ off_free t a (λ o. n (inr o))

pub free_off : (t : List ℤ) (a : ℕ) → standing_of t a ≡ free → ¬ (On a t)
free_off [] a e o = o
free_off (l ∷ t) a e o = go (ℕ_discrete (atom l) a) (λ g. free_off t a g) o
  where
    go : Dec (atom l ≡ a) → (standing_of t a ≡ free → ¬ (On a t)) → On a (l ∷ t) → ⊥
    go (yes q) ih h = free_fixed (sym e ∙ ap (standing_of (l ∷ t)) (sym q) ∙ standing_same l t)
    go (no n) ih (inl q) = n q
    go (no n) ih (inr h) = ih (sym (standing_other l t a (λ q. n (sym q))) ∙ e) h

pub on_fixed : (t : List ℤ) (a : ℕ) → On a t → (b : Bool) × (standing_of t a ≡ fixed b)
on_fixed t a o =
    elim (standing_of t a) as (λ s. standing_of t a ≡ s → (b : Bool) × (standing_of t a ≡ fixed b)) [ free ↦ λ e. absurd (free_off t a e o) | fixed b ↦ λ e. (b, e) ] refl

-- ---- assignments that agree

-- one with the truths of an agreeing one at the trail's atoms agrees too
pub agrees_from : (σ τ : Assignment) (t : List ℤ) → ((a : ℕ) → On a t → τ a ≡ σ a) → Agrees σ t → Agrees τ t
agrees_from σ τ [] same g = tt
agrees_from σ τ (l ∷ t) same g = (ap (truth l) (same (atom l) (inl refl)) ∙ g.0, agrees_from σ τ t (λ a h. same a (inr h)) g.1)

-- one atom set anew
abbrev pub with_atom : Assignment → ℕ → Bool → Assignment
with_atom σ a b = λ x. cond (eqb a x) b (σ x)

pub with_same : (σ : Assignment) (a : ℕ) (b : Bool) → with_atom σ a b a ≡ b
with_same σ a b = ap (λ c. cond c b (σ a)) (eq-eqb a a refl)

pub with_other : (σ : Assignment) (a : ℕ) (b : Bool) (x : ℕ) → ¬ (x ≡ a) → with_atom σ a b x ≡ σ x
with_other σ a b x n = ap (λ c. cond c b (σ x)) (ne_eqb a x (λ e. n (sym e)))

pub agrees_with : (σ : Assignment) (t : List ℤ) (a : ℕ) (b : Bool) → ¬ (On a t) → Agrees σ t → Agrees (with_atom σ a b) t
agrees_with σ t a b n g = agrees_from σ (with_atom σ a b) t (λ x h. with_other σ a b x (λ q. n (subst (λ y. On y t) q h))) g

-- ---- a literal put on

pub put_on : (l : ℤ) (t : List ℤ) → ¬ (On (atom l) t) → Consistent t → Consistent (l ∷ t)
put_on l t n c =
    let b : Bool = truth l true in (
      with_atom c.0 (atom l) b,
      (ap (truth l) (with_same c.0 (atom l) b) ∙ truth_settable l, agrees_with c.0 t (atom l) b n c.1),
    )

pub put_on_free : (l : ℤ) (t : List ℤ) → standing_of t (atom l) ≡ free → Consistent t → Consistent (l ∷ t)
put_on_free l t e c = put_on l t (free_off t (atom l) e) c
