-- One position handled and then those below it: together they mark what is reached from the top position down. A cause stands before
-- its position, so that no later step reaches the position itself.
use mathlib.Core.Path.{◌≡◌, refl, ◌∙◌, subst}
use mathlib.Core.Logic.{inl, inr, ⊎_elim}
use mathlib.Core.List.{List}
use Prim.Native.Nat.{ℕ, suc, ◌-◌, ◌<◌, ◌≤◌}
use native.Mathlib.Omega.{arith}
use native.Mathlib.Nat.{eq-or-lt_of_le}
use lib.ListN.{length, get_or}
use Rattle.area.specs.Layout.{row_at}
use Rattle.marking.specs.Inner.Marks.{Markable, Marked, CauseNamed, Cause, MarkStep, Reached, start, next, Adds}

pub markable_below : {w : List ℕ} {n S p : ℕ} {m : List ℕ} → Markable w n S p m → (q : ℕ) → q ≤ p → (m' : List ℕ) → length m' ≡ length m
    → Markable w n S q m'
markable_below {p = p} r q l m' e = record {
  rows = r.rows;
  position = omega (arith, r.position);
  trail_asked = r.trail_asked;
  reasons = r.reasons;
  sentence = r.sentence;
  room = omega (arith, r.room);
}

module _ (w : List ℕ) (n S : ℕ) where
  -- ---- one position

  none_added : (k : ℕ) (m : List ℕ) → ((i : ℕ) → ¬ (MarkStep w n S m k i)) → Adds (MarkStep w n S m k) m m
  none_added k m none = record { size = refl; kept = λ i h. h; added = λ i p. absurd (none i p); only = λ i h. inl h }

  pub unmarked_adds : (k : ℕ) (m : List ℕ) → get_or m k 0 ≡ 0 → Adds (MarkStep w n S m k) m m
  unmarked_adds k m e = none_added k m (λ i x. let h = x.0 in omega (arith, h))

  pub given_adds : (k : ℕ) (m : List ℕ) → (row_at w n k).reason ≡ 0 → Adds (MarkStep w n S m k) m m
  given_adds k m e = none_added k m (λ i x. let r = x.1.reason in omega (arith, r))

  pub derived_adds : (k : ℕ) (m m' : List ℕ) → Marked m k → (s : ℕ) → (row_at w n k).reason ≡ suc s → Adds (CauseNamed w n S s k) m m'
      → Adds (MarkStep w n S m k) m m'
  derived_adds k m m' marked s derived a = record {
    size = a.size;
    kept = a.kept;
    added = λ i x. a.added i (named i x);
    only = λ i h. ⊎_elim inl (λ x. inr (marked, record { sentence = s; reason = derived; named = x })) (a.only i h);
  }
    where
      named : (i : ℕ) → MarkStep w n S m k i → CauseNamed w n S s k i
      named i x =
          let r = x.1.reason in
          let e : x.1.sentence ≡ s = omega (arith, r) in subst (λ j. CauseNamed w n S j k i) e x.1.named

  -- ---- position 0

  pub swept_first : (p : ℕ) (m m₁ : List ℕ) → p ≡ 0 → Adds (MarkStep w n S m p) m m₁ → Adds (Reached w n S p m) m m₁
  swept_first p m m₁ e a = record {
    size = a.size;
    kept = a.kept;
    added = λ i r. reached i r;
    only = λ i h. ⊎_elim inl (λ x. inr (next {k = p} (omega arith) (start x.0) x.1)) (a.only i h);
  }
    where
      reached : (i : ℕ) → Reached w n S p m i → Marked m₁ i
      reached i (start h) = a.kept i h
      reached i (next {k} l r c) = let f = c.named.earlier in absurd (omega (arith, f, l, e))

  -- ---- a later position, and then those below it

  module _ (p : ℕ) (low : 1 ≤ p) (m m₁ : List ℕ) (a : Adds (MarkStep w n S m p) m m₁) where
    own : Reached w n S (p - 1) m₁ p → Marked m p
    own (start h) = ⊎_elim (λ x. x) (λ x. x.0) (a.only p h)
    own (next {k} l r c) = let f = c.named.earlier in absurd (omega (arith, f, l))

    fewer : (j : ℕ) → Reached w n S p m j → Reached w n S (p - 1) m₁ j
    fewer j (start h) = start (a.kept j h)
    fewer j (next {k} l r c) =
        ⊎_elim {A = k ≡ p} {B = k < p}
        (λ (e : k ≡ p). start (a.added j (own (subst (Reached w n S (p - 1) m₁) e (fewer k r)), subst (λ x. Cause w n S x j) e c)))
        (λ (q : k < p). next {k = k} (omega arith) (fewer k r) c)
        (eq-or-lt_of_le l)

    more : (j : ℕ) → Reached w n S (p - 1) m₁ j → Reached w n S p m j
    more j (start h) = ⊎_elim start (λ x. next {k = p} (omega arith) (start x.0) x.1) (a.only j h)
    more j (next {k} l r c) = next {k = k} (omega arith) (more k r) c

    pub swept_later : (m' : List ℕ) → Adds (Reached w n S (p - 1) m₁) m₁ m' → Adds (Reached w n S p m) m m'
    swept_later m' b = record {
      size = b.size ∙ a.size;
      kept = λ i h. b.kept i (a.kept i h);
      added = λ i r. b.added i (fewer i r);
      only = λ i h. inr (more i (⊎_elim start (λ r. r) (b.only i h)));
    }
