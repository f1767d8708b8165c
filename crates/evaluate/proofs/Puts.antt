-- A literal of an open entry put on the trail replaces that entry's contribution, and no other. The wanted literal leaves it at its
-- furthest, and the opposite one makes it the nearest.
use mathlib.Core.Path.{◌≡◌, refl, sym, ◌∙◌, ap, subst}
use mathlib.Core.Bool.{Bool, true, false, cond}
use mathlib.Core.Logic.{◌⊎◌, ⊎_elim}
use mathlib.Core.List.{List, [], ◌∷◌}
use Prim.Native.Nat.{ℕ, ◌+◌, ◌-◌, ◌/◌, ◌%◌, ◌≤◌}
use native.Mathlib.Omega.{arith}
use lib.IntN.{ℤ, neg_ℤ}
use lib.Dec.{eqb}
use borrow.Author.Tests.{eq-eqb, ne_eqb, eqb-true, eqb-false}
use Rattle.numbers.specs.Words.{literal_of}
use Rattle.numbers.proofs.Words.{parity, literal_even, literal_odd, opposite_even, opposite_odd}
use Rattle.meaning.specs.Meaning.{atom, truth}
use Rattle.meaning.specs.Computed.{fixed, standing_of}
use Rattle.meaning.specs.Represents.{Off}
use Rattle.meaning.proofs.Trails.{atom_half, standing_same, standing_other}
use Rattle.area.specs.Layout.{standing_word, entries_of}
use Rattle.area.specs.Whole.{DistinctAtoms}
use Rattle.kinds.specs.declared.Kind.{Kind}
use Rattle.extremes.specs.Inner.Words.{empty_word, furthest_word, nearest_word, reach_word, contributions}
use Rattle.evaluate.specs.Inner.Words.{opposite_word, wanted_word}
use Rattle.extremes.proofs.Values.{sides}
use Rattle.extremes.proofs.Contributions.{Proper, Legal, ShowsIn}
use Rattle.evaluate.proofs.Swaps.{Swapped, here, there}

-- ---- opposite literals

opposite_of_even : (l : ℕ) → l % 2 ≡ 0 → opposite_word l ≡ l + 1
opposite_of_even l e = rw (eq-eqb (l % 2) 0 e)

opposite_of_odd : (l : ℕ) → l % 2 ≡ 1 → opposite_word l ≡ l - 1
opposite_of_odd l e = rw (ne_eqb (l % 2) 0 (λ q. omega arith))

-- the opposite has the atom and the other sign, and its opposite is the literal
pub record Opposite (l o : ℕ) : Type 0 where
  pub real : 2 ≤ o
  pub atom : o / 2 ≡ l / 2
  pub sign : o % 2 + l % 2 ≡ 1
  pub back : opposite_word o ≡ l
  pub literal : literal_of o ≡ neg_ℤ (literal_of l)

pub opposite : (l : ℕ) → 2 ≤ l → Opposite l (opposite_word l)
opposite l h =
    ⊎_elim
    (λ (e : l % 2 ≡ 0). let z : l + 1 - 1 ≡ l = omega arith in
    rw (opposite_of_even l e) (record { real = omega arith; atom = omega arith; sign = omega arith; back = opposite_of_odd (l + 1) (omega arith) ∙ z; literal = opposite_even l h e }))
    (λ (e : l % 2 ≡ 1). let z : (l - 1) + 1 ≡ l = omega arith in
    rw (opposite_of_odd l e) (record { real = omega arith; atom = omega arith; sign = omega arith; back = opposite_of_even (l - 1) (omega arith) ∙ z; literal = opposite_odd l h e }))
    (parity l)

-- ---- one value set

unfoldable pub with_value : (ℕ → ℕ) → ℕ → ℕ → ℕ → ℕ
with_value v a x b = cond (eqb a b) x (v b)

value_same : (v : ℕ → ℕ) (a x b : ℕ) → b ≡ a → with_value v a x b ≡ x
unfolding with_value
value_same v a x b e = rw (eq-eqb a b (sym e))

pub value_other : (v : ℕ → ℕ) (a x b : ℕ) → ¬ (b ≡ a) → with_value v a x b ≡ v b
unfolding with_value
value_other v a x b d = rw (ne_eqb a b (λ e. d (sym e)))

-- the literal o put on
abbrev pub put : (ℕ → ℕ) → ℕ → ℕ → ℕ
put v o = with_value v (o / 2) (1 + o % 2)

put_standing : (o : ℕ) → 2 ≤ o → standing_word (1 + o % 2) ≡ fixed (truth (literal_of o) true)
put_standing o h =
    ⊎_elim
    (λ (e : o % 2 ≡ 0). rw (e, literal_even o e))
    (λ (e : o % 2 ≡ 1). rw (e, literal_odd o h e))
    (parity o)

pub put_shows : (n : ℕ) (v : ℕ → ℕ) (t : List ℤ) (o : ℕ) → 2 ≤ o → ShowsIn n v t → ShowsIn n (put v o) (literal_of o ∷ t)
put_shows n v t o h sh a low high = go (eqb a (o / 2)) (λ e. eqb-true a (o / 2) e) (λ e. eqb-false a (o / 2) e)
  where
    place : atom (literal_of o) ≡ o / 2
    place = atom_half o

    go : (c : Bool) → (c ≡ true → a ≡ o / 2) → (c ≡ false → ¬ (a ≡ o / 2)) → standing_of (literal_of o ∷ t) a ≡ standing_word (put v o a)
    go true y d =
        ap (standing_of (literal_of o ∷ t)) (y refl ∙ sym place) ∙ standing_same (literal_of o) t ∙ sym (put_standing o h)
        ∙ ap standing_word (sym (value_same v (o / 2) (1 + o % 2) a (y refl)))
    go false y d =
        standing_other (literal_of o) t a (λ q. d refl (q ∙ place)) ∙ sh a low high ∙ ap standing_word (sym (value_other v (o / 2) (1 + o % 2) a (d refl)))

-- ---- one entry

-- the entry of weight w and literal l is among the words
pub data Member (w l : ℕ) : List ℕ → Type 0 where
  first : {rest : List ℕ} → Member w l (w ∷ l ∷ rest)
  later : {w' l' : ℕ} {rest : List ℕ} → Member w l rest → Member w l (w' ∷ l' ∷ rest)

pub member_proper : (k : Kind) (n : ℕ) {w l : ℕ} {words : List ℕ} → Member w l words → Legal k n words → Proper k n w l
unfolding Legal
member_proper k n first g = g.0
member_proper k n (later e) g = member_proper k n e g.1

pub member_off : (k : Kind) (n a : ℕ) {w l : ℕ} {words : List ℕ} → Member w l words → Legal k n words → Off a (entries_of words) → ¬ (l / 2 ≡ a)
unfolding entries_of Legal
member_off k n a {w} {l} first g o q = o.0 (atom_half l ∙ q)
member_off k n a (later e) g o q = member_off k n a e g.1 o.1 q

module _ (k : Kind) (n : ℕ) (u : Bool) (v : ℕ → ℕ) where
  unchanged : (a x : ℕ) (words : List ℕ) → Legal k n words → Off a (entries_of words) → contributions k u (with_value v a x) words ≡ contributions k u v words
  unfolding contributions entries_of Legal
  unchanged a x [] g o = refl
  unchanged a x (w ∷ []) g o = refl
  unchanged a x (w ∷ l ∷ rest) g o =
      ap (λ z. reach_word u (empty_word k) w l z ∷ contributions k u (with_value v a x) rest) (value_other v a x (l / 2) (λ q. o.0 (atom_half l ∙ q)))
      ∙ ap (λ z. reach_word u (empty_word k) w l (v (l / 2)) ∷ z) (unchanged a x rest g.1 o.1)

  -- the entry's own contribution goes from what v gives it to what x gives it
  swap_at : (x : ℕ) {w l : ℕ} {words : List ℕ} → Member w l words → Legal k n words → DistinctAtoms (entries_of words)
      → Swapped (reach_word u (empty_word k) w l (v (l / 2))) (reach_word u (empty_word k) w l x) (contributions k u v words) (contributions k u (with_value v (l / 2) x) words)
  unfolding contributions entries_of Legal
  swap_at x {w} {l} (first {rest}) g d =
      let off : Off (l / 2) (entries_of rest) = subst (λ z. Off z (entries_of rest)) (atom_half l) d.0 in
      rw (value_same v (l / 2) x (l / 2) refl, unchanged (l / 2) x rest g.1 off) here
  swap_at x {w} {l} (later {w'} {l'} {rest} e) g d =
      let off : Off (l' / 2) (entries_of rest) = subst (λ z. Off z (entries_of rest)) (atom_half l') d.0 in
      rw (value_other v (l / 2) x (l' / 2) (λ q. member_off k n (l' / 2) e g.1 off (sym q))) (there (swap_at x e g.1 d.1))

  -- an open entry with one of its literals put on
  pub put_swaps : {w l : ℕ} {words : List ℕ} → Member w l words → Legal k n words → DistinctAtoms (entries_of words) → v (l / 2) ≡ 0
      → (o y : ℕ) → o / 2 ≡ l / 2 → reach_word u (empty_word k) w l (1 + o % 2) ≡ y
      → Swapped (furthest_word u w (empty_word k)) y (contributions k u v words) (contributions k u (put v o) words)
  put_swaps e g d open_is o y a is = rw (a, ← is) (rw open_is at (swap_at (1 + o % 2) e g d))

-- ---- the wanted literal

own_reach : (u : Bool) (empty w l : ℕ) → reach_word u empty w l (1 + l % 2) ≡ w
own_reach u empty w l =
    ⊎_elim
    (λ (e : l % 2 ≡ 0). rw e)
    (λ (e : l % 2 ≡ 1). rw e)
    (parity l)

opposite_reach : (u : Bool) (empty w l o : ℕ) → Opposite l o → reach_word u empty w l (1 + o % 2) ≡ empty
opposite_reach u empty w l o h =
    ⊎_elim
    (λ (e : l % 2 ≡ 0). let f : o % 2 ≡ 1 = omega arith in rw (e, f))
    (λ (e : l % 2 ≡ 1). let f : o % 2 ≡ 0 = omega arith in rw (e, f))
    (parity l)

-- the wanted literal contributes the furthest, and its opposite the nearest
pub record Wanted (u : Bool) (empty w l o : ℕ) : Type 0 where
  pub real : 2 ≤ o
  pub atom : o / 2 ≡ l / 2
  pub gives : reach_word u empty w l (1 + o % 2) ≡ furthest_word u w empty
  pub loses : reach_word u empty w l (1 + opposite_word o % 2) ≡ nearest_word u w empty

pub wanted_is : (u : Bool) (empty w l : ℕ) → 2 ≤ l → Wanted u empty w l (wanted_word u empty w l)
wanted_is u empty w l h = go (eqb x w) refl (sides u w empty)
  where
    x : ℕ
    x = furthest_word u w empty

    go : (c : Bool) → eqb x w ≡ c → ((x ≡ w) × (nearest_word u w empty ≡ empty)) ⊎ ((x ≡ empty) × (nearest_word u w empty ≡ w)) → Wanted u empty w l (wanted_word u empty w l)
    go true e s =
        let q : x ≡ w = eqb-true x w e in
        let near : nearest_word u w empty ≡ empty = ⊎_elim (λ z. z.1) (λ z. z.1 ∙ sym q ∙ z.0) s in
        rw e (record { real = h; atom = refl; gives = own_reach u empty w l ∙ sym q; loses = opposite_reach u empty w l (opposite_word l) (opposite l h) ∙ sym near })
    go false e s =
        let q : (x ≡ empty) × (nearest_word u w empty ≡ w) = ⊎_elim (λ z. absurd (eqb-false x w e z.0)) (λ z. z) s in
        let back : reach_word u empty w l (1 + opposite_word (opposite_word l) % 2) ≡ w = rw (opposite l h).back (own_reach u empty w l) in
        rw e
        (record { real = (opposite l h).real; atom = (opposite l h).atom; gives = opposite_reach u empty w l (opposite_word l) (opposite l h) ∙ sym q.0; loses = back ∙ sym q.1 })
