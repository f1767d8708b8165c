-- The six tests of a written sentence are those over its columns: entry i is weight i with literal i, and the merged weights have the
-- product of the written ones.
use mathlib.Core.Path.{◌≡◌, refl, sym, ap, subst, ◌∙◌}
use mathlib.Core.Bool.{true, false, not, ◌||◌, ◌&&◌}
use mathlib.Core.List.{List}
use Prim.Native.Nat.{ℕ}
use lib.IntN.{ℤ, pos, nat_abs}
use lib.ListN.{length}
use lib.Dec.{leb, ltb, eqb}
use lib.Signed.{le_z}
use borrow.Author.Tests.{lt-ltb, le-ltb, leb-true, leb-false, eqb-true}
use Rattle.types.specs.declared.Limits.{Limits}
use Rattle.types.specs.Limits.{bound_limit}
use Rattle.decide.specs.Below.{product_below}
use Rattle.decide.proofs.Below.{left_false, none_has}
use Rattle.meaning.specs.Meaning.{atom, mixes, product, multiplied}
use Rattle.meaning.specs.Merge.{merge}
use Rattle.meaning.proofs.MergingValue.{merge_product}
use Rattle.kinds.specs.Kinds.{weight_fits}
use Rattle.area.specs.Layout.{kind_of}
use Rattle.area.specs.Whole.{weights_of}
use Rattle.columns.specs.Columns.{paired, written_as}
use Rattle.columns.specs.Refusals.{unknown, outside, strange, bound_fits, out_of_range, own_head, mixed, is_product, too_great}
use Rattle.columns.specs.Indexed.{nth, unknown_shape, no_literal, unfit_weights, head_inside, negated, product_above, column_code, sentence_code}
use Rattle.columns.proofs.Clauses.{product_weight}
use Rattle.columns.proofs.Codes.{last_test}
use Rattle.columns.proofs.Paired.{paired_length, paired_weights, some_literal, some_weight, both_signs_paired, multiplied_natural}

natural_leb : (a b : ℕ) → not (leb a b) ≡ ltb b a
natural_leb a b = elim (leb a b) as (λ t. leb a b ≡ t → not t ≡ ltb b a) [ true ↦ λ e. sym (le-ltb b a (leb-true a b e)) | false ↦ λ e. sym (lt-ltb b a (leb-false a b e)) ] refl

-- ---- a sentence of two columns

module _ (lim : Limits) (n head kind side : ℕ) (bound : ℤ) (ws ls : List ℤ) (e : length ws ≡ length ls) where
  unknown_is : unknown lim (written_as head kind side bound ws ls) ≡ unknown_shape lim.each kind side (length ls)
  unknown_is = ap (unknown_shape lim.each kind side) (paired_length ws ls e)

  strange_is : strange n (written_as head kind side bound ws ls) ≡ (outside n head || no_literal n ls)
  strange_is = ap (λ b. outside n head || b) (some_literal (λ l. outside n (atom l)) ws ls e)

  out_of_range_is : out_of_range (written_as head kind side bound ws ls) ≡ (unfit_weights (kind_of kind) ws || not (bound_fits bound))
  out_of_range_is = ap (λ b. b || not (bound_fits bound)) (some_weight (λ w. not (weight_fits (kind_of kind) w)) ws ls e)

  own_head_is : own_head (written_as head kind side bound ws ls) ≡ head_inside head ls
  own_head_is = some_literal (λ l. eqb (atom l) head) ws ls e

  mixed_is : mixed (written_as head kind side bound ws ls) ≡ (not (mixes (kind_of kind)) && negated ls)
  mixed_is = ap (λ b. not (mixes (kind_of kind)) && b) (both_signs_paired ws ls e)

  written_product : unfit_weights product ws ≡ false → multiplied (weights_of (merge product (paired ws ls)).entries) ≡ pos (product_below (length ws) (λ i. nat_abs (nth ws i)))
  written_product f = merge_product (paired ws ls) ∙ ap multiplied (paired_weights ws ls e)
      ∙ multiplied_natural ws (λ i l. (product_weight (nth ws i) (none_has i (length ws) (λ k. not (weight_fits product (nth ws k))) f l)).1)

  too_great_is : unfit_weights (kind_of kind) ws ≡ false → too_great (written_as head kind side bound ws ls) ≡ (is_product kind && product_above ws)
  too_great_is f =
      elim (is_product kind) as (λ b. is_product kind ≡ b → (b && not (le_z (multiplied (weights_of (merge product (paired ws ls)).entries)) (pos bound_limit))) ≡ (b && product_above ws)) [
        | true ↦ λ k. ap (λ z. not (le_z z (pos bound_limit))) (written_product (subst (λ j. unfit_weights (kind_of j) ws ≡ false) (eqb-true kind 1 k) f))
            ∙ natural_leb (product_below (length ws) (λ i. nat_abs (nth ws i))) bound_limit
        | false ↦ λ k. refl
      ]
      refl

  -- the code by the columns is the sentence's
  pub column_code_is : column_code lim n head kind side bound ws ls ≡ sentence_code lim n (written_as head kind side bound ws ls)
  column_code_is = rw (unknown_is, strange_is, out_of_range_is, own_head_is, mixed_is)
      (last_test (unknown_shape lim.each kind side (length ls)) (outside n head || no_literal n ls) (unfit_weights (kind_of kind) ws || not (bound_fits bound))
      (head_inside head ls) (not (mixes (kind_of kind)) && negated ls) (is_product kind && product_above ws) (too_great (written_as head kind side bound ws ls))
      (λ h. sym (too_great_is (left_false (unfit_weights (kind_of kind) ws) (not (bound_fits bound)) h))))
