-- Columns that refusal 1 leaves: they belong together, and each sentence's entries stand within the entry columns, behind those of the
-- sentences before it, since the counts add up to the entries.
use mathlib.Core.Path.{◌≡◌, refl, sym, ◌∙◌}
use mathlib.Core.Bool.{Bool, true, false, not, ◌||◌}
use mathlib.Core.List.{[], ◌∷◌}
use Prim.Native.Nat.{ℕ, ◌+◌, ◌<◌, ◌≤◌}
use native.Mathlib.Omega.{arith}
use lib.Dec.{ltb, eqb}
use lib.ListN.{length, get_or}
use borrow.Author.Tests.{ltb-false, eqb-true, eqb-false, not-false}
use Rattle.types.specs.declared.Limits.{Limits}
use Rattle.decide.specs.Below.{sum_first}
use Rattle.decide.proofs.Below.{sum_step, sum_upto}
use Rattle.columns.specs.Columns.{Columns}
use Rattle.columns.specs.Refusals.{misshapen}
use Rattle.columns.specs.Indexed.{Sizes, sizes, above_limits, unequal_sizes}
use Rattle.columns.specs.Decides.{Limited, Equal, Shaped}
use Rattle.columns.proofs.Clauses.{none_holds}

-- ---- the test in the three parts that the code decides

regroup : (a k s b c l x : Bool) → (a || k || s || b || c || l || x) ≡ (a || (k || s || b || c || l) || x)
regroup a k s b c l x = elim a as (λ a. a || k || s || b || c || l || x ≡ a || (k || s || b || c || l) || x) [ true ↦ refl | false ↦ refl ]

abbrev pub limits_passed : Limits → ℕ → Columns → Bool
limits_passed lim n c = above_limits lim n (length c.heads) (length c.weights)

abbrev pub counts_add_up : Columns → Bool
counts_add_up c = eqb (sum_first c.counts (length c.counts)) (length c.weights)

pub misshapen_is : (lim : Limits) (n : ℕ) (c : Columns) → misshapen lim n c ≡ (limits_passed lim n c || unequal_sizes (sizes c) || not (counts_add_up c))
misshapen_is lim n c =
    regroup (limits_passed lim n c) (not (eqb (length c.kinds) (length c.heads))) (not (eqb (length c.sides) (length c.heads)))
    (not (eqb (length c.bounds) (length c.heads))) (not (eqb (length c.counts) (length c.heads)))
    (not (eqb (length c.literals) (length c.weights))) (not (counts_add_up c))

-- ---- what each part leaves

pub limited : (lim : Limits) (n sentences entries : ℕ) → above_limits lim n sentences entries ≡ false → Limited lim n sentences entries
limited lim n sentences entries e =
    let h = none_holds (eqb n 0) (ltb lim.atoms n ∷ ltb lim.sentences sentences ∷ ltb lim.entries entries ∷ []) e in
    let z : n ≡ 0 → ⊥ = eqb-false n 0 h.0 in
    record {
      low = omega arith;
      high = ltb-false lim.atoms n h.1.0;
      few_sentences = ltb-false lim.sentences sentences h.1.1.0;
      few_entries = ltb-false lim.entries entries h.1.1.1.0;
    }

same : (a b : ℕ) → not (eqb a b) ≡ false → a ≡ b
same a b e = eqb-true a b (not-false (eqb a b) e)

pub equal : (s : Sizes) → unequal_sizes s ≡ false → Equal s
equal s e =
    let h = none_holds (not (eqb s.kinds s.heads))
    (not (eqb s.sides s.heads) ∷ not (eqb s.bounds s.heads) ∷ not (eqb s.counts s.heads) ∷ not (eqb s.literals s.weights) ∷ []) e in
    record {
      kinds = same s.kinds s.heads h.0;
      sides = same s.sides s.heads h.1.0;
      bounds = same s.bounds s.heads h.1.1.0;
      counts = same s.counts s.heads h.1.1.1.0;
      literals = same s.literals s.weights h.1.1.1.1.0;
    }

pub shaped : (lim : Limits) (n : ℕ) (c : Columns) → misshapen lim n c ≡ false → Shaped lim n c
shaped lim n c m =
    let h = none_holds (limits_passed lim n c) (unequal_sizes (sizes c) ∷ not (counts_add_up c) ∷ []) (sym (misshapen_is lim n c) ∙ m) in
    record {
      within = limited lim n (length c.heads) (length c.weights) h.0;
      equals = equal (sizes c) h.1.0;
      sum = same (sum_first c.counts (length c.counts)) (length c.weights) h.1.1.0;
    }

-- ---- sentence s, whose entries start at `from`

pub record Inside (c : Columns) (s from : ℕ) : Type 0 where
  pub kind : s < length c.kinds
  pub side : s < length c.sides
  pub bound : s < length c.bounds
  pub count : s < length c.counts
  pub weights : from + get_or c.counts s 0 ≤ length c.weights
  pub literals : from + get_or c.counts s 0 ≤ length c.literals
  pub next : sum_first c.counts (s + 1) ≡ from + get_or c.counts s 0

pub inside : (lim : Limits) (n : ℕ) (c : Columns) (s from : ℕ) → Shaped lim n c → s < length c.heads → from ≡ sum_first c.counts s → Inside c s from
inside lim n c s from h l f =
    let q = h.equals in
    let below : s < length c.counts = omega (arith, q.counts) in
    let step = sum_step c.counts s in
    let up = sum_upto c.counts (s + 1) (length c.counts) (omega arith) in
    record {
      kind = omega (arith, q.kinds);
      side = omega (arith, q.sides);
      bound = omega (arith, q.bounds);
      count = below;
      weights = omega (arith, h.sum, step, up);
      literals = omega (arith, h.sum, step, up, q.literals);
      next = omega (arith, step);
    }
