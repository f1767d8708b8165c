-- The tests of the refusals over the columns themselves, from entry 0 up, as the loops take them; and what a sentence is refused for.
use Rattle.std.specs.Prelude.{◌≡◌, Bool, false, not, cond, ◌||◌, ◌&&◌, List, ℕ, ℤ, pos, neg_ℤ, nat_abs, length, get_or, eqb, ltb}
use Rattle.types.specs.declared.Limits.{Limits}
use Rattle.types.specs.Limits.{bound_limit}
use Rattle.decide.specs.Below.{some_below, product_below}
use Rattle.meaning.specs.Meaning.{atom, Kind, same, mixes}
use Rattle.kinds.specs.Kinds.{weight_fits}
use Rattle.area.specs.Layout.{kind_of}
use Rattle.columns.specs.declared.SentenceColumns.{SentenceColumns}
use Rattle.columns.specs.Columns.{Columns, Written}
use Rattle.columns.specs.Refusals.{unknown, outside, strange, bound_fits, out_of_range, own_head, mixed, is_product, too_great}

abbrev pub nth : List ℤ → ℕ → ℤ
nth l i = get_or l i (pos 0)

-- 1, but for the sum of the counts: how many numbers each column has
pub record Sizes : Type 0 where
  pub heads : ℕ
  pub kinds : ℕ
  pub sides : ℕ
  pub bounds : ℕ
  pub counts : ℕ
  pub weights : ℕ
  pub literals : ℕ

abbrev pub sizes : Columns → Sizes
sizes c = record {
  heads = length c.heads;
  kinds = length c.kinds;
  sides = length c.sides;
  bounds = length c.bounds;
  counts = length c.counts;
  weights = length c.weights;
  literals = length c.literals;
}

abbrev pub above_limits : Limits → ℕ → ℕ → ℕ → Bool
above_limits lim n sentences entries = eqb n 0 || ltb lim.atoms n || ltb lim.sentences sentences || ltb lim.entries entries

abbrev pub unequal_sizes : Sizes → Bool
unequal_sizes s =
    not (eqb s.kinds s.heads) || not (eqb s.sides s.heads) || not (eqb s.bounds s.heads) || not (eqb s.counts s.heads)
    || not (eqb s.literals s.weights)

-- 3
abbrev pub unknown_shape : ℕ → ℕ → ℕ → ℕ → Bool
unknown_shape each kind side entries = ltb 4 kind || ltb 1 side || ltb each entries

-- 4
abbrev pub no_literal : ℕ → List ℤ → Bool
no_literal n literals = some_below (length literals) (λ i. outside n (atom (nth literals i)))

-- 5
abbrev pub unfit_weights : Kind → List ℤ → Bool
unfit_weights kind weights = some_below (length weights) (λ i. not (weight_fits kind (nth weights i)))

-- 6
abbrev pub head_inside : ℕ → List ℤ → Bool
head_inside head literals = some_below (length literals) (λ i. eqb (atom (nth literals i)) head)

-- 7: literal j is the negation of an earlier one
abbrev pub negated_before : List ℤ → ℕ → Bool
negated_before literals j = some_below j (λ i. same (nth literals j) (neg_ℤ (nth literals i)))

abbrev pub negated : List ℤ → Bool
negated literals = some_below (length literals) (negated_before literals)

-- 8, of the written weights
abbrev pub product_above : List ℤ → Bool
product_above weights = ltb bound_limit (product_below (length weights) (λ i. nat_abs (nth weights i)))

-- the first of 3 to 8 whose test holds, or 0
abbrev pub first_code : Bool → Bool → Bool → Bool → Bool → Bool → ℕ
first_code a b c d e f = cond a 3 (cond b 4 (cond c 5 (cond d 6 (cond e 7 (cond f 8 0)))))

-- of a sentence
abbrev pub sentence_code : Limits → ℕ → Written → ℕ
sentence_code lim n x = first_code (unknown lim x) (strange n x) (out_of_range x) (own_head x) (mixed x) (too_great x)

-- of a sentence's columns
abbrev pub column_code : Limits → (n head kind side : ℕ) → ℤ → List ℤ → List ℤ → ℕ
column_code lim n head kind side bound weights literals =
    first_code (unknown_shape lim.each kind side (length literals)) (outside n head || no_literal n literals)
    (unfit_weights (kind_of kind) weights || not (bound_fits bound)) (head_inside head literals) (not (mixes (kind_of kind)) && negated literals)
    (is_product kind && product_above weights)

-- of the sentence that is lent
abbrev pub lent_code : Limits → ℕ → SentenceColumns → ℕ
lent_code lim n x = column_code lim n x.head x.kind x.side x.bound x.weights.now x.literals.now

-- none of 3 to 8 applies to the sentence
pub record Passes (lim : Limits) (n : ℕ) (x : Written) : Type 0 where
  pub known : unknown lim x ≡ false
  pub atoms : strange n x ≡ false
  pub ranges : out_of_range x ≡ false
  pub headless : own_head x ≡ false
  pub unmixed : mixed x ≡ false
  pub small : too_great x ≡ false
