-- The fold on words stands for the fold of values: an entry's contribution stands for how far the entry reaches by its atom's standing,
-- and each step stands for a combination.
use mathlib.Core.Path.{◌≡◌, refl, sym, ◌∙◌, ap, subst}
use mathlib.Core.Bool.{Bool, cond}
use mathlib.Core.Logic.{◌⊎◌, inl, inr, ⊎_elim}
use mathlib.Core.List.{List, [], ◌∷◌}
use Prim.Native.Nat.{ℕ, ◌-◌, ◌/◌, ◌%◌, ◌≤◌, ◌<◌}
use native.Mathlib.Omega.{arith}
use lib.IntN.{ℤ, pos, negsuc}
use lib.Dec.{eqb}
use borrow.Author.Tests.{ne_eqb}
use Rattle.numbers.specs.Extended.{at}
use Rattle.numbers.specs.Words.{top, unbias, unword, literal_of}
use Rattle.numbers.proofs.Words.{cases, parity, unword_at, literal_even, literal_odd}
use Rattle.meaning.specs.Meaning.{atom, truth, empty}
use Rattle.meaning.specs.Computed.{further_of, combine, gather, given, fixed, standing_of, reach, extreme_of}
use Rattle.meaning.proofs.Orders.{furthest_comm}
use Rattle.meaning.proofs.Trails.{atom_half}
use Rattle.area.specs.Layout.{standing_word, entry_of, entries_of}
use Rattle.kinds.specs.declared.Kind.{Kind}
use Rattle.extremes.specs.Inner.Words.{meant, empty_word, combined, furthest_word, reach_word, contributions, folded}
use Rattle.extremes.specs.Inner.Room.{Room}
use Rattle.extremes.proofs.Values.{direction, unword_furthest, In, in_empty, unword_empty, reach_one, combined_in, combined_means}

-- ---- words of entries

-- a weight that the kind computes with, and a literal of an atom 1 to n
pub record Proper (k : Kind) (n w l : ℕ) : Type 0 where
  pub weight : In k w
  pub low : 0 < w
  pub high : w < top
  pub literal : 2 ≤ l
  pub atom_high : l / 2 ≤ n

unfoldable pub Legal : Kind → ℕ → List ℕ → Type 0
Legal k n [] = Unit {0}
Legal k n (w ∷ []) = Unit {0}
Legal k n (w ∷ l ∷ rest) = Proper k n w l × Legal k n rest

-- the values of atoms 1 to n are those of the trail
abbrev pub ShowsIn : ℕ → (ℕ → ℕ) → List ℤ → Type 0
ShowsIn n v t = (a : ℕ) → 1 ≤ a → a ≤ n → standing_of t a ≡ standing_word (v a)

-- ---- one contribution

-- a value word that is not 0
standing_set : (x : ℕ) → 0 < x → standing_word x ≡ fixed (eqb (x % 2) 1)
standing_set x h = rw (ne_eqb x 0 (λ e. omega arith))

reach_set : (u : Bool) (empty w l x : ℕ) → 0 < x → reach_word u empty w l x ≡ cond (eqb (x % 2) (l % 2)) empty w
reach_set u empty w l x h = rw (ne_eqb x 0 (λ e. omega arith))

module _ (k : Kind) (u : Bool) (n w l : ℕ) (fine : Proper k n w l) where
  weight_is : unword w ≡ at (unbias w)
  weight_is = unword_at w fine.low fine.high

  reach_means : (x : ℕ) → unword (reach_word u (empty_word k) w l x) ≡ reach (direction u) (given (meant k) (entry_of w l)) (standing_word x)
  reach_means x = go (parity l) (cases 0 x) (parity x)
    where
      open_is : unword (furthest_word u w (empty_word k)) ≡ further_of (direction u) (at (unbias w)) (empty (meant k))
      open_is = unword_furthest u w (empty_word k) ∙ rw (weight_is, unword_empty k)

      set : (e : ℤ) → literal_of l ≡ e → (s b : ℕ) → 0 < x → x % 2 ≡ s → l % 2 ≡ b
          → unword (cond (eqb s b) (empty_word k) w) ≡ cond (truth e (eqb s 1)) (at (unbias w)) (empty (meant k))
          → unword (reach_word u (empty_word k) w l x) ≡ reach (direction u) (given (meant k) (entry_of w l)) (standing_word x)
      set e q s b h p r is =
          let same : unword (cond (eqb (x % 2) (l % 2)) (empty_word k) w) ≡ cond (truth (literal_of l) (eqb (x % 2) 1)) (at (unbias w)) (empty (meant k)) = rw (p, r, q) is in
          ap unword (reach_set u (empty_word k) w l x h) ∙ same ∙ sym (ap (reach (direction u) (given (meant k) (entry_of w l))) (standing_set x h))

      go : (l % 2 ≡ 0) ⊎ (l % 2 ≡ 1) → (x ≤ 0) ⊎ (0 < x) → (x % 2 ≡ 0) ⊎ (x % 2 ≡ 1)
          → unword (reach_word u (empty_word k) w l x) ≡ reach (direction u) (given (meant k) (entry_of w l)) (standing_word x)
      go (inl e) (inl z) p = let o : x ≡ 0 = omega arith in rw (o, literal_even l e) open_is
      go (inr e) (inl z) p = let o : x ≡ 0 = omega arith in rw (o, literal_odd l fine.literal e) (open_is ∙ furthest_comm (direction u) (at (unbias w)) (empty (meant k)))
      go (inl e) (inr z) (inl p) = set (pos (l / 2)) (literal_even l e) 0 0 z p e (unword_empty k)
      go (inl e) (inr z) (inr p) = set (pos (l / 2)) (literal_even l e) 1 0 z p e weight_is
      go (inr e) (inr z) (inl p) = set (negsuc (l / 2 - 1)) (literal_odd l fine.literal e) 0 1 z p e weight_is
      go (inr e) (inr z) (inr p) = set (negsuc (l / 2 - 1)) (literal_odd l fine.literal e) 1 1 z p e (unword_empty k)

  reach_in : (x : ℕ) → In k (reach_word u (empty_word k) w l x)
  reach_in x = ⊎_elim (λ e. subst (In k) (sym e) fine.weight) (λ e. subst (In k) (sym e) (in_empty k)) (reach_one u (empty_word k) w l x)

-- ---- the fold

module _ (n : ℕ) (k : Kind) (u : Bool) (v : ℕ → ℕ) where
  pub folded_means : (t : List ℤ) → ShowsIn n v t → (acc : ℕ) (words : List ℕ) → Legal k n words → In k acc → Room k acc (contributions k u v words)
      → unword (folded k acc (contributions k u v words)) ≡ gather (meant k) (extreme_of (meant k) (direction u) t) (unword acc) (entries_of words)
  unfolding contributions folded Room Legal entries_of gather
  folded_means t sh acc [] g p r = refl
  folded_means t sh acc (w ∷ []) g p r = refl
  folded_means t sh acc (w ∷ l ∷ rest) g p r =
      let x = reach_word u (empty_word k) w l (v (l / 2)) in
      let xin : In k x = reach_in k u n w l g.0 (v (l / 2)) in
      let low : 1 ≤ l / 2 = omega (arith, g.0.literal) in
      let stands : standing_of t (atom (literal_of l)) ≡ standing_word (v (l / 2)) = ap (standing_of t) (atom_half l) ∙ sh (l / 2) low g.0.atom_high in
      folded_means t sh (combined k acc x) rest g.1 (combined_in k acc x p xin r.0) r.1
      ∙ ap (λ z. gather (meant k) (extreme_of (meant k) (direction u) t) z (entries_of rest))
      (combined_means k acc x p xin r.0
      ∙ ap (combine (meant k) (unword acc))
      (reach_means k u n w l g.0 (v (l / 2)) ∙ ap (reach (direction u) (given (meant k) (entry_of w l))) (sym stands)))

  pub folded_in : (acc : ℕ) (words : List ℕ) → Legal k n words → In k acc → Room k acc (contributions k u v words) → In k (folded k acc (contributions k u v words))
  unfolding contributions folded Room Legal
  folded_in acc [] g p r = p
  folded_in acc (w ∷ []) g p r = p
  folded_in acc (w ∷ l ∷ rest) g p r =
      let x = reach_word u (empty_word k) w l (v (l / 2)) in
      folded_in (combined k acc x) rest g.1 (combined_in k acc x p (reach_in k u n w l g.0 (v (l / 2))) r.0) r.1
