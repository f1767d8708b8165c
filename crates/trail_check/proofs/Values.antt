-- The value word that rows give an atom: that of the place that has the atom, or 0 where none has.
use mathlib.Core.Path.{◌≡◌, refl, sym, ◌∙◌, ap}
use mathlib.Core.Bool.{cond}
use mathlib.Core.Logic.{⊎_elim}
use mathlib.Core.List.{List, ◌∷◌}
use Prim.Native.Nat.{ℕ, zero, suc, ◌+◌, ◌*◌, ◌/◌, ◌%◌, ◌<◌, ◌≤◌}
use native.Mathlib.Omega.{arith}
use native.Mathlib.Nat.{eq-or-lt_of_le}
use native.Mathlib.Decide.{ℕ_discrete}
use lib.ListN.{length}
use borrow.Author.Tests.{eq-eqb, ne_eqb}
use Rattle.numbers.specs.Words.{literal_of}
use Rattle.numbers.proofs.Words.{cases, literal_even, literal_odd}
use Rattle.meaning.specs.Meaning.{atom}
use Rattle.book.specs.Rows.{Row}
use Rattle.area.specs.Layout.{literal_at, row_at, rows_from, sign, value_word}
use Rattle.trail_check.proofs.Rows.{rows_length, atom_of}

pub sign_of : (x : ℕ) → 2 ≤ x → sign (literal_of x) ≡ x % 2
sign_of x h = ⊎_elim
    (λ (p : x % 2 ≤ 0). let e : x % 2 ≡ 0 = omega arith in ap sign (literal_even x e) ∙ sym e)
    (λ (p : 0 < x % 2). let e : x % 2 ≡ 1 = omega arith in ap sign (literal_odd x h e) ∙ sym e) (cases 0 (x % 2))

pub value_word_same : (r : Row) (rs : List Row) (a : ℕ) → atom r.literal ≡ a → value_word (r ∷ rs) a ≡ 1 + 2 * length rs + sign r.literal
unfolding value_word
value_word_same r rs a e = ap (λ b. cond b (1 + 2 * length rs + sign r.literal) (value_word rs a)) (eq-eqb (atom r.literal) a e)

pub value_word_other : (r : Row) (rs : List Row) (a : ℕ) → ¬ (atom r.literal ≡ a) → value_word (r ∷ rs) a ≡ value_word rs a
unfolding value_word
value_word_other r rs a e = ap (λ b. cond b (1 + 2 * length rs + sign r.literal) (value_word rs a)) (ne_eqb (atom r.literal) a e)

-- the atom is at a place below k, which its value word says, or at none
pub data Found (w : List ℕ) (n k a : ℕ) : Type 0 where
  here : (i : ℕ) → i < k → literal_at w n i / 2 ≡ a → value_word (rows_from w n k) a ≡ 1 + 2 * i + literal_at w n i % 2 → Found w n k a
  nowhere : ((i : ℕ) → i < k → ¬ (literal_at w n i / 2 ≡ a)) → value_word (rows_from w n k) a ≡ 0 → Found w n k a

module _ (w : List ℕ) (n a : ℕ) (low : 1 ≤ a) where
  pub found : (k : ℕ) → Found w n k a
  unfolding rows_from value_word
  found zero = nowhere (λ i l e. let b : ⊥ = omega arith in absurd b) refl
  found (suc k) = go (ℕ_discrete (atom (row_at w n k).literal) a) (found k)
    where
      at_k : atom (row_at w n k).literal ≡ literal_at w n k / 2
      at_k = atom_of (literal_at w n k)

      go : Dec (atom (row_at w n k).literal ≡ a) → Found w n k a → Found w n (suc k) a
      go (yes e) f = let q : literal_at w n k / 2 ≡ a = sym at_k ∙ e in here k (omega arith) q
          (value_word_same (row_at w n k) (rows_from w n k) a e ∙ omega (arith, rows_length w n k, sign_of (literal_at w n k) (omega arith)))
      go (no d) (here i l e v) = here i (omega arith) e (value_word_other (row_at w n k) (rows_from w n k) a d ∙ v)
      go (no d) (nowhere f v) = nowhere off (value_word_other (row_at w n k) (rows_from w n k) a d ∙ v)
        where
          off : (i : ℕ) → i < suc k → ¬ (literal_at w n i / 2 ≡ a)
          off i l e = ⊎_elim {A = i ≡ k} {B = i < k}
              (λ (q : i ≡ k). d (at_k ∙ ap (λ j. literal_at w n j / 2) (sym q) ∙ e))
              (λ (q : i < k). f i q e) (eq-or-lt_of_le (omega arith))
