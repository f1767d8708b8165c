-- When a trail conflicts with a sentence, and what it forces: exact, for a set that stands for the sentence's own and a consistent trail.
-- A comparison keeps its truth further towards it, so that a sentence conflicts exactly where the extreme does not have the head's
-- truth. A literal is forced exactly when its opposite, put on, conflicts: so one theorem serves the head, the entries and all other atoms.
use mathlib.Core.Path.{◌≡◌, refl, sym, ◌∙◌, ap, subst}
use mathlib.Core.Bool.{Bool, true, false, not, beq, true≢false, ◌&&◌}
use mathlib.Core.List.{List, ◌∷◌}
use Prim.Native.Nat.{◌≤◌}
use lib.IntN.{ℤ, neg_ℤ}
use lib.Dec.{T}
use Rattle.numbers.specs.Extended.{Extended, Direction}
use Rattle.meaning.specs.Meaning.{Assignment, atom, truth, holds, Sentence, value, Agrees, Consistent, Satisfiable, Conflicting, Forces, On, Open}
use Rattle.meaning.specs.Merge.{Merged, Rule, rule_with}
use Rattle.meaning.specs.Computed.{Standing, free, fixed, standing_of, extreme, towards, compared, refuted_at, refuted, is_free, due}
use Rattle.meaning.specs.Represents.{Off, Represents}
use Rattle.meaning.proofs.Orders.{towards_keeps}
use Rattle.meaning.proofs.Trails.{opposite_atom, opposite_holds, is_free_of, standing_same, standing_other, fixed_agrees, off_free, free_off, with_atom, with_same, agrees_with, put_on}
use Rattle.meaning.proofs.Extremes.{extreme_bounds, extreme_attained, value_outside, extreme_outside}

-- ---- tests

pub and_first : (a b : Bool) → T (a && b) → T a
and_first a b = elim a as (λ a. T (a && b) → T a) [ true ↦ λ h. tt | false ↦ λ h. h ]

pub and_second : (a b : Bool) → T (a && b) → T b
and_second a b = elim a as (λ a. T (a && b) → T b) [ true ↦ λ h. h | false ↦ absurd ]

pub and_both : (a b : Bool) → T a → T b → T (a && b)
and_both a b = elim a as (λ a. T a → T b → T (a && b)) [ true ↦ λ h k. k | false ↦ λ h k. h ]

beq_same : (b : Bool) → T (not (beq b b)) → ⊥
beq_same b = elim b as (λ b. T (not (beq b b)) → ⊥) [ true ↦ λ h. h | false ↦ λ h. h ]

beq_equal : (b c : Bool) → ¬ (T (not (beq b c))) → b ≡ c
beq_equal true c = elim c as (λ c. ¬ (T (not (beq true c))) → true ≡ c) [ true ↦ λ n. refl | false ↦ λ n. absurd (n tt) ]
beq_equal false c = elim c as (λ c. ¬ (T (not (beq false c))) → false ≡ c) [ true ↦ λ n. absurd (n tt) | false ↦ λ n. refl ]

-- ---- conflict

module _ (s : Sentence) (m : Merged) (t : List ℤ) (p : Represents s m) where
  abbrev at_extreme : Bool → Extended
  at_extreme b = extreme (towards s.side b) (rule_with s m) t

  pub refuted_conflict : T (refuted (rule_with s m) t) → Conflicting s t
  refuted_conflict h σ g sat = go (standing_of t s.head) refl h
    where
      go : (x : Standing) → standing_of t s.head ≡ x → T (refuted_at (rule_with s m) t x) → ⊥
      go free e h = h
      go (fixed b) e h =
          let reached : compared (rule_with s m) (at_extreme b) ≡ b = towards_keeps s.side s.bound b (value s σ) (at_extreme b)
          (sym sat ∙ fixed_agrees σ t s.head b g e) (extreme_bounds (towards s.side b) s m t p σ g) in
          beq_same b (subst (λ c. T (not (beq b c))) reached h)

  -- a free head takes the comparison's truth, and otherwise the assignment that attains the extreme satisfies
  pub satisfiable_test : Consistent t → ¬ (T (refuted (rule_with s m) t)) → Satisfiable s t
  satisfiable_test c n = go (standing_of t s.head) refl n
    where
      go : (x : Standing) → standing_of t s.head ≡ x → ¬ (T (refuted_at (rule_with s m) t x)) → Satisfiable s t
      go free e n =
          let σ : Assignment = c.0 in
          let b : Bool = compared (rule_with s m) (value s σ) in (
            with_atom σ s.head b,
            agrees_with σ t s.head b (free_off t s.head e) c.1,
            with_same σ s.head b ∙ ap (compared (rule_with s m)) (sym (value_outside s m p σ s.head b p.headless)),
          )
      go (fixed b) e n =
          let τ : (σ : Assignment) × Agrees σ t × (value s σ ≡ at_extreme b) = extreme_attained (towards s.side b) s m t p c in
          (τ.0, τ.1, fixed_agrees τ.0 t s.head b τ.1 e ∙ beq_equal b (compared (rule_with s m) (at_extreme b)) n ∙ ap (compared (rule_with s m)) (sym τ.2))

  pub conflict_refuted : Consistent t → Conflicting s t → T (refuted (rule_with s m) t)
  conflict_refuted c f = elim (refuted (rule_with s m) t) as (λ x. (¬ (T x) → Satisfiable s t) → T x)
      [ true ↦ λ h. tt | false ↦ λ h. let σ : Satisfiable s t = h (λ x. x) in f σ.0 σ.1 σ.2 ] (satisfiable_test c)

  -- a trail conflicts with a sentence exactly when the test says so
  pub conflict_test : Consistent t → (Conflicting s t → T (refuted (rule_with s m) t)) × (T (refuted (rule_with s m) t) → Conflicting s t)
  conflict_test c = (conflict_refuted c, refuted_conflict)

-- ---- forced

module _ (s : Sentence) (t : List ℤ) (l : ℤ) (n : 1 ≤ atom l) where
  one_or_other : (b c : Bool) → c ≡ not b → ¬ (c ≡ true) → b ≡ true
  one_or_other b c = elim b as (λ b. c ≡ not b → ¬ (c ≡ true) → b ≡ true) [ true ↦ λ e h. refl | false ↦ λ e h. absurd (h e) ]

  -- a literal is forced exactly when its opposite, put on, conflicts
  pub forced_conflict : Forces s t l → Conflicting s (neg_ℤ l ∷ t)
  forced_conflict f σ g sat = true≢false (sym g.0 ∙ opposite_holds l n σ ∙ ap not (f σ g.1 sat))

  pub conflict_forced : Conflicting s (neg_ℤ l ∷ t) → Forces s t l
  conflict_forced c σ g sat = one_or_other (holds σ l) (holds σ (neg_ℤ l)) (opposite_holds l n σ) (λ e. c σ (e, g) sat)

opposite_off : (l : ℤ) (t : List ℤ) → ¬ (On (atom l) t) → ¬ (On (atom (neg_ℤ l)) t)
opposite_off l t n o = n (subst (λ a. On a t) (opposite_atom l) o)

-- an open literal is forced exactly when the test refutes its opposite
pub due_test : (s : Sentence) (m : Merged) (t : List ℤ) (l : ℤ) → 1 ≤ atom l → Represents s m → Consistent t
    → ((Open t l × Forces s t l) → T (due (rule_with s m) t l)) × (T (due (rule_with s m) t l) → Open t l × Forces s t l)
due_test s m t l n p c = (
  λ h. and_both open_test refuted_test (subst (λ x. T (is_free x)) (sym (off_free t (atom l) h.0.off)) tt)
      (conflict_refuted s m (neg_ℤ l ∷ t) p (put_on (neg_ℤ l) t (opposite_off l t h.0.off) c) (forced_conflict s t l n h.1)),
  λ h. (
    record { literal = n; off = free_off t (atom l) (is_free_of (standing_of t (atom l)) (and_first open_test refuted_test h)) },
    conflict_forced s t l n (refuted_conflict s m (neg_ℤ l ∷ t) p (and_second open_test refuted_test h)),
  ),
)
  where
    open_test : Bool
    open_test = is_free (standing_of t (atom l))

    refuted_test : Bool
    refuted_test = refuted (rule_with s m) (neg_ℤ l ∷ t)

-- the test reads the head's standing and the extremes alone
pub refuted_alike : (r : Rule) (t t' : List ℤ) → standing_of t r.head ≡ standing_of t' r.head → ((d : Direction) → extreme d r t ≡ extreme d r t') → refuted r t ≡ refuted r t'
refuted_alike r t t' h e = ap (refuted_at r t) h ∙ (elim (standing_of t' r.head) as (λ x. refuted_at r t x ≡ refuted_at r t' x)
    [ free ↦ refl | fixed b ↦ ap (λ v. not (beq b (compared r v))) (e (towards r.side b)) ])

-- ---- the test with a literal put on, by where the literal stands

-- outside the rule: the test is the trail's own
pub refuted_outside : (r : Rule) (t : List ℤ) (l : ℤ) → ¬ (r.head ≡ atom l) → Off (atom l) r.set.entries → refuted r (l ∷ t) ≡ refuted r t
refuted_outside r t l n off = refuted_alike r (l ∷ t) t (standing_other l t r.head n) (λ d. extreme_outside d r l t off)

-- the head: the comparison does not have the literal's truth even at the extreme towards it
pub refuted_head : (r : Rule) (t : List ℤ) (l : ℤ) → atom l ≡ r.head → Off r.head r.set.entries
    → refuted r (l ∷ t) ≡ not (beq (truth l true) (compared r (extreme (towards r.side (truth l true)) r t)))
refuted_head r t l e off = ap (λ a. refuted_at r (l ∷ t) (standing_of (l ∷ t) a)) (sym e) ∙ ap (refuted_at r (l ∷ t)) (standing_same l t)
    ∙ ap (λ v. not (beq (truth l true) (compared r v))) (extreme_outside (towards r.side (truth l true)) r l t (subst (λ a. Off a r.set.entries) (sym e) off))

-- another atom, with the head free: nothing is refuted
pub refuted_headless : (r : Rule) (t : List ℤ) (l : ℤ) → ¬ (r.head ≡ atom l) → standing_of t r.head ≡ free → refuted r (l ∷ t) ≡ false
refuted_headless r t l n e = ap (refuted_at r (l ∷ t)) (standing_other l t r.head n ∙ e)

-- and with the head fixed: the extreme with the literal put on
pub refuted_entry : (r : Rule) (t : List ℤ) (l : ℤ) (b : Bool) → ¬ (r.head ≡ atom l) → standing_of t r.head ≡ fixed b
    → refuted r (l ∷ t) ≡ not (beq b (compared r (extreme (towards r.side b) r (l ∷ t))))
refuted_entry r t l b n e = ap (refuted_at r (l ∷ t)) (standing_other l t r.head n ∙ e)

-- ---- outside its atoms a sentence that can be satisfied forces nothing

pub outside_unforced : (s : Sentence) (m : Merged) (t : List ℤ) (l : ℤ) → Represents s m → Consistent t → Satisfiable s t → Open t l
    → ¬ (s.head ≡ atom l) → Off (atom l) m.entries → ¬ (Forces s t l)
outside_unforced s m t l p c sat o n off f =
    let e : atom (neg_ℤ l) ≡ atom l = opposite_atom l in
    let same_test : refuted (rule_with s m) (neg_ℤ l ∷ t) ≡ refuted (rule_with s m) t =
    refuted_outside (rule_with s m) t (neg_ℤ l) (λ q. n (q ∙ e)) (subst (λ a. Off a m.entries) (sym e) off) in
    let h : T (refuted (rule_with s m) (neg_ℤ l ∷ t)) =
    conflict_refuted s m (neg_ℤ l ∷ t) p (put_on (neg_ℤ l) t (opposite_off l t o.off) c) (forced_conflict s t l o.literal f) in
    refuted_conflict s m t p (subst T same_test h) sat.0 sat.1 sat.2
