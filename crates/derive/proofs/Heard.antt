-- What the table's speech says of the rules: where nothing is said every rule is silent, and a derived literal is of an open atom, since
-- only such a literal can be due.
use mathlib.Core.Path.{◌≡◌, refl, subst}
use mathlib.Core.Bool.{Bool, true, false, cond, ◌&&◌}
use mathlib.Core.List.{List, [], ◌∷◌}
use Prim.Native.Nat.{ℕ, zero, suc, ◌+◌, ◌<◌}
use native.Mathlib.Omega.{arith}
use lib.IntN.{ℤ, pos, neg_ℤ}
use Rattle.meaning.specs.Meaning.{atom, Said, silent, conflict, forced, Each}
use Rattle.meaning.specs.Merge.{Rule, scope}
use Rattle.meaning.specs.Computed.{Standing, free, fixed, standing_of, refuted, is_free, due, first_due, first_said}
use Rattle.book.specs.Table.{Speech, nothing, conflicts, derives, spoken, first_to_speak}
use Rattle.book.specs.Book.{judged_all}
use Rattle.area.specs.Layout.{atoms_of, sentences_of, record_at, rule_at, rules_from, theory_of}

-- ---- a forced literal is of an open atom

due_free : (r : Rule) (t : List ℤ) (l : ℤ) → due r t l ≡ true → standing_of t (atom l) ≡ free
due_free r t l e = go (standing_of t (atom l)) (refuted r (neg_ℤ l ∷ t)) e
  where
    go : (s : Standing) (b : Bool) → (is_free s && b) ≡ true → s ≡ free
    go free b e = refl
    go (fixed c) b e = let z : ◌≡◌ {A = ℕ} 0 1 = cc in let f : ⊥ = omega arith in absurd f

first_due_free : (r : Rule) (t : List ℤ) (atoms : List ℕ) (l : ℤ) → first_due r t atoms ≡ forced l → standing_of t (atom l) ≡ free
unfolding first_due
first_due_free r t [] l e = let z : ◌≡◌ {A = ℕ} 0 1 = cc in let f : ⊥ = omega arith in absurd f
first_due_free r t (a ∷ rest) l e = go (due r t (pos a)) (due r t (neg_ℤ (pos a))) refl refl e (first_due_free r t rest l)
  where
    go : (x y : Bool) → due r t (pos a) ≡ x → due r t (neg_ℤ (pos a)) ≡ y
        → cond x (forced (pos a)) (cond y (forced (neg_ℤ (pos a))) (first_due r t rest)) ≡ forced l
        → (first_due r t rest ≡ forced l → standing_of t (atom l) ≡ free) → standing_of t (atom l) ≡ free
    go true y ex ey e ih = let q : pos a ≡ l = cc in due_free r t l (subst (λ (z : ℤ). due r t z ≡ true) q ex)
    go false true ex ey e ih = let q : neg_ℤ (pos a) ≡ l = cc in due_free r t l (subst (λ (z : ℤ). due r t z ≡ true) q ey)
    go false false ex ey e ih = ih e

forced_free : (r : Rule) (t : List ℤ) (l : ℤ) → first_said r t ≡ forced l → standing_of t (atom l) ≡ free
unfolding first_said
forced_free r t l e = go (refuted r t) e
  where
    go : (x : Bool) → cond x conflict (first_due r t (scope r)) ≡ forced l → standing_of t (atom l) ≡ free
    go true e = let z : ◌≡◌ {A = ℕ} 0 1 = cc in let f : ⊥ = omega arith in absurd f
    go false e = first_due_free r t (scope r) l e

-- ---- the speech of a list of rules

module _ (t : List ℤ) where
  abbrev Told : List Rule → Speech → Type 0
  Told rs nothing = Each (λ r. first_said r t ≡ silent) rs
  Told rs (conflicts k) = Unit {0}
  Told rs (derives k l) = standing_of t (atom l) ≡ free

  told_later : (r : Rule) (rs : List Rule) (y : Speech) → first_said r t ≡ silent → Told rs y → Told (r ∷ rs) y
  told_later r rs nothing e h = (e, h)
  told_later r rs (conflicts k) e h = tt
  told_later r rs (derives k l) e h = h

  told : (k : ℕ) (rs : List Rule) → Told rs (first_to_speak k (judged_all rs) t)
  unfolding first_to_speak
  told k [] = tt
  told k (r ∷ rs) = go (first_said r t) refl (told (suc k) rs)
    where
      go : (y : Said) → first_said r t ≡ y → Told rs (first_to_speak (suc k) (judged_all rs) t) → Told (r ∷ rs) (spoken y k (first_to_speak (suc k) (judged_all rs) t))
      go silent e h = told_later r rs (first_to_speak (suc k) (judged_all rs) t) e h
      go conflict e h = tt
      go (forced l) e h = forced_free r t l e

  pub derived_open : (rs : List Rule) (k : ℕ) (l : ℤ) → first_to_speak 1 (judged_all rs) t ≡ derives k l → standing_of t (atom l) ≡ free
  derived_open rs k l e = subst (Told rs) e (told 1 rs)

-- ---- the rules of an area

module _ (P : Rule → Type 0) (w : List ℕ) (n S : ℕ) where
  rule_of_each : (s k i : ℕ) → Each P (rules_from w n S s k) → i < k → P (rule_at w n S (record_at n (s + i)))
  unfolding rules_from
  rule_of_each s zero i h l = let b : ⊥ = omega arith in absurd b
  rule_of_each s (suc k) zero h l = let e : s ≡ s + 0 = omega arith in subst (λ (j : ℕ). P (rule_at w n S (record_at n j))) e h.0
  rule_of_each s (suc k) (suc i) h l =
      let e : suc s + i ≡ s + suc i = omega arith in
      subst (λ (j : ℕ). P (rule_at w n S (record_at n j))) e (rule_of_each (suc s) k i h.1 (omega arith))

pub all_silent : (w : List ℕ) (t : List ℤ) → first_to_speak 1 (judged_all (theory_of w)) t ≡ nothing → (s : ℕ) → s < sentences_of w
    → first_said (rule_at w (atoms_of w) (sentences_of w) (record_at (atoms_of w) s)) t ≡ silent
all_silent w t e s l =
    let q : 0 + s ≡ s = omega arith in
    subst (λ (j : ℕ). first_said (rule_at w (atoms_of w) (sentences_of w) (record_at (atoms_of w) j)) t ≡ silent) q
    (rule_of_each (λ r. first_said r t ≡ silent) w (atoms_of w) (sentences_of w) 0 (sentences_of w) s (subst (Told t (theory_of w)) e (told t 1 (theory_of w))) l)
