-- The fold of values in which the propagator computes. A value may go in first or last, since combining is associative and commutative;
-- so folding over all entries, with the empty value for those that are not chosen, gives the aggregate of the chosen weights.
use mathlib.Core.Path.{◌≡◌, refl, sym, ◌∙◌, ap}
use mathlib.Core.Bool.{true, false, not, cond}
use mathlib.Core.List.{List, [], ◌∷◌}
use Prim.Native.Nat.{ℕ, zero, suc, ◌<◌}
use native.Mathlib.Nat.{le_of_suc-le-suc, not-suc-le-zero}
use lib.ListN.{length, take, get_or}
use lib.IntN.{ℤ, pos, +ℤ_idl}
use lib.Dec.{T}
use Rattle.numbers.specs.Extended.{Extended, below, at, above}
use Rattle.meaning.specs.Meaning.{Assignment, holds, Entry, entry_atom, chosen, Kind, sum, product, count, maximum, minimum, aggregate, empty, mixes, Each}
use Rattle.meaning.specs.Merge.{Merged, raised, merged_value}
use Rattle.meaning.specs.Computed.{combine, gather, starting, given}
use Rattle.meaning.proofs.Orders.{combine_assoc, combine_swap, combine_empty, empty_combine}

pub each_map : {A : Type 0} (P Q : A → Type 0) (xs : List A) → ((x : A) → P x → Q x) → Each P xs → Each Q xs
each_map P Q [] f h = tt
each_map P Q (x ∷ xs) f h = (f x h.0, each_map P Q xs f h.1)

-- ---- folds

module _ {A : Type 0} (k : Kind) where
  -- one more, as a loop goes
  pub gather_next : (f : A → Extended) (v : Extended) (xs : List A) (d : A) (i : ℕ) → i < length xs → gather k f v (take (suc i) xs) ≡ combine k (gather k f v (take i xs)) (f (get_or xs i d))
  unfolding gather
  gather_next f v [] d i h = absurd (not-suc-le-zero h)
  gather_next f v (x ∷ xs) d zero h = refl
  gather_next f v (x ∷ xs) d (suc i) h = gather_next f (combine k v (f x)) xs d i (le_of_suc-le-suc h)

  pub gather_same : (f g : A → Extended) (v : Extended) (xs : List A) → Each (λ x. f x ≡ g x) xs → gather k f v xs ≡ gather k g v xs
  unfolding gather
  gather_same f g v [] h = refl
  gather_same f g v (x ∷ xs) h = ap (λ y. gather k f (combine k v y) xs) h.0 ∙ gather_same f g (combine k v (g x)) xs h.1

  -- a value can go in first or last
  pub gather_last : (f : A → Extended) (v w : Extended) (xs : List A) → gather k f (combine k v w) xs ≡ combine k (gather k f v xs) w
  unfolding gather
  gather_last f v w [] = refl
  gather_last f v w (x ∷ xs) = ap (λ u. gather k f u xs) (combine_swap k v w (f x)) ∙ gather_last f (combine k v (f x)) w xs

-- ---- the aggregate as a fold

pub aggregate_next : (k : Kind) (w : ℤ) (ws : List ℤ) → aggregate k (w ∷ ws) ≡ combine k (at w) (aggregate k ws)
aggregate_next k w ws = elim k as (λ k. aggregate k (w ∷ ws) ≡ combine k (at w) (aggregate k ws)) [ sum ↦ refl | product ↦ refl | count ↦ refl | maximum ↦ refl | minimum ↦ refl ]

-- what an entry contributes under an assignment
abbrev pub contribution : Kind → Assignment → Entry → Extended
contribution k σ e = given k e (σ (entry_atom e))

module _ (k : Kind) (σ : Assignment) where
  chosen_next : (e : Entry) (es : List Entry) → aggregate k (chosen σ (e ∷ es)) ≡ combine k (contribution k σ e) (aggregate k (chosen σ es))
  chosen_next e es =
      elim (holds σ e.literal) as (λ b. aggregate k (cond b (e.weight ∷ chosen σ es) (chosen σ es)) ≡ combine k (cond b (at e.weight) (empty k)) (aggregate k (chosen σ es)))
      [ true ↦ aggregate_next k e.weight (chosen σ es) | false ↦ sym (empty_combine k (aggregate k (chosen σ es))) ]

  pub gather_chosen : (v : Extended) (es : List Entry) → gather k (contribution k σ) v es ≡ combine k v (aggregate k (chosen σ es))
  unfolding gather
  gather_chosen v [] = sym (combine_empty k v)
  gather_chosen v (e ∷ es) =
      let g : Extended = contribution k σ e in
      gather_chosen (combine k v g) es ∙ combine_assoc k v g (aggregate k (chosen σ es)) ∙ ap (combine k v) (sym (chosen_next e es))

-- ---- the constant

pub raised_zero : (v : Extended) → raised (pos 0) v ≡ v
raised_zero v = elim v as (λ v. raised (pos 0) v ≡ v) [ below ↦ refl | at z ↦ ap at (+ℤ_idl z) | above ↦ refl ]

raised_combine : (c : ℤ) (v : Extended) → raised c v ≡ combine sum (at c) v
raised_combine c v = elim v as (λ v. raised c v ≡ combine sum (at c) v) [ below ↦ refl | at z ↦ refl | above ↦ refl ]

-- a constant of 0 changes nothing, and a kind that has another starts its fold there
pub raised_starting : (k : Kind) (c : ℤ) (v : Extended) → (T (not (mixes k)) → c ≡ pos 0) → raised c v ≡ combine k (starting k c) v
raised_starting sum c v h = raised_combine c v
raised_starting product c v h = ap (λ x. raised x v) (h tt) ∙ raised_zero v ∙ sym (empty_combine product v)
raised_starting count c v h = raised_combine c v
raised_starting maximum c v h = ap (λ x. raised x v) (h tt) ∙ raised_zero v ∙ sym (empty_combine maximum v)
raised_starting minimum c v h = ap (λ x. raised x v) (h tt) ∙ raised_zero v ∙ sym (empty_combine minimum v)

pub merged_gather : (k : Kind) (m : Merged) (σ : Assignment) → (T (not (mixes k)) → m.constant ≡ pos 0)
    → merged_value k m σ ≡ gather k (λ e. given k e (σ (entry_atom e))) (starting k m.constant) m.entries
unfolding merged_value
merged_gather k m σ h =
    raised_starting k m.constant (aggregate k (chosen σ m.entries)) h ∙ sym (gather_chosen k σ (starting k m.constant) m.entries)
