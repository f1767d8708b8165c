-- What the six tests leave of a sentence that passes, entry by entry: its literals are of atoms and not of the head, its weights fit, an
-- atom of a product, max or min has one sign, and the sentence is one that the book may hold.
use mathlib.Core.Path.{◌≡◌, sym, ap, subst}
use mathlib.Core.Bool.{Bool, true, false, not, ◌&&◌}
use mathlib.Core.List.{List, [], ◌∷◌}
use Prim.Native.Nat.{ℕ, ◌≤◌}
use native.Mathlib.Omega.{arith}
use lib.IntN.{ℤ, pos, negsuc, neg_ℤ}
use lib.ListN.{length}
use lib.Dec.{T, eqb, ltb}
use lib.Signed.{le_z}
use borrow.Author.Tests.{eqb-false, ltb-false, not-false}
use Rattle.types.specs.declared.Limits.{Limits}
use Rattle.decide.proofs.Below.{left_false, right_false}
use Rattle.meaning.specs.Meaning.{atom, Entry, entry_atom, product, same, mixes, multiplied, weighable, Each, OneSigned}
use Rattle.meaning.specs.Merge.{merge}
use Rattle.meaning.proofs.Orders.{T_true, T_false}
use Rattle.meaning.proofs.Gather.{each_map}
use Rattle.meaning.proofs.Members.{eq→same}
use Rattle.meaning.proofs.MergingValue.{merge_product}
use Rattle.kinds.specs.Kinds.{weight_fits}
use Rattle.kinds.proofs.Weights.{fits_weighable}
use Rattle.book.specs.Book.{WellFormed}
use Rattle.area.specs.Layout.{kind_of}
use Rattle.area.proofs.KindNumbers.{product_number}
use Rattle.area.specs.Whole.{weights_of}
use Rattle.columns.specs.Columns.{Written, sentence_of}
use Rattle.columns.specs.Refusals.{some_entry, outside, bound_fits, both_signs, is_product}
use Rattle.columns.specs.Indexed.{Passes}
use Rattle.columns.proofs.Clauses.{none_holds, is_atom}

-- what an entry has that fails the test, each has where none passes it
none_as : (p : Entry → Bool) (Q : Entry → Type 0) → ((e : Entry) → p e ≡ false → Q e) → (es : List Entry) → some_entry p es ≡ false → Each Q es
unfolding some_entry
none_as p Q f [] h = tt
none_as p Q f (e ∷ es) h = (f e (left_false (p e) (some_entry p es) h), none_as p Q f es (right_false (p e) (some_entry p es) h))

-- ---- signs

one_literal : (l m : ℤ) → atom l ≡ atom m → ¬ (l ≡ neg_ℤ m) → l ≡ m
one_literal (pos a) (pos b) e d = ap pos e
one_literal (pos a) (negsuc b) e d = absurd (d (ap pos e))
one_literal (negsuc a) (pos b) e d = absurd (d (ap {A = ℕ} (λ k. neg_ℤ (pos k)) e))
one_literal (negsuc a) (negsuc b) e d = ap negsuc (omega arith)

pub one_signed : (es : List Entry) → both_signs es ≡ false → OneSigned es
unfolding both_signs
one_signed [] h = tt
one_signed (e ∷ es) h =
    let opposite = some_entry (λ x. same x.literal (neg_ℤ e.literal)) es in (
      none_as (λ x. same x.literal (neg_ℤ e.literal)) (λ x. entry_atom x ≡ entry_atom e → x.literal ≡ e.literal)
          (λ x f q. one_literal x.literal e.literal q (λ r. T_false f (eq→same x.literal (neg_ℤ e.literal) r))) es (left_false opposite (both_signs es) h),
      one_signed es (right_false opposite (both_signs es) h),
    )

-- ---- a sentence that passes

and_false : (a b : Bool) → (a && b) ≡ false → T a → b ≡ false
and_false true b e t = e
and_false false b e t = absurd t

module _ (lim : Limits) (n : ℕ) (x : Written) (v : Passes lim n x) where
  few_kinds : (x.kind ≤ 4) × (x.side ≤ 1) × (length x.entries ≤ lim.each)
  few_kinds =
      let h = none_holds (ltb 4 x.kind) (ltb 1 x.side ∷ ltb lim.each (length x.entries) ∷ []) v.known in
      (ltb-false 4 x.kind h.0, ltb-false 1 x.side h.1.0, ltb-false lim.each (length x.entries) h.1.1.0)

  pub kind_known : x.kind ≤ 4
  kind_known = few_kinds.0

  pub side_known : x.side ≤ 1
  side_known = few_kinds.1

  pub entries_few : length x.entries ≤ lim.each
  entries_few = few_kinds.2

  abbrev strangers : Bool
  strangers = some_entry (λ e. outside n (entry_atom e)) x.entries

  pub head_atom : (1 ≤ x.head) × (x.head ≤ n)
  head_atom = is_atom n x.head (left_false (outside n x.head) strangers v.atoms)

  pub entry_atoms : Each (λ e. (1 ≤ entry_atom e) × (entry_atom e ≤ n)) x.entries
  entry_atoms = none_as (λ e. outside n (entry_atom e)) _ (λ e. is_atom n (entry_atom e)) x.entries (right_false (outside n x.head) strangers v.atoms)

  abbrev unfit : Bool
  unfit = some_entry (λ e. not (weight_fits (kind_of x.kind) e.weight)) x.entries

  pub entries_fit : Each (λ e. T (weight_fits (kind_of x.kind) e.weight)) x.entries
  entries_fit =
      none_as (λ e. not (weight_fits (kind_of x.kind) e.weight)) _ (λ e f. T_true (not-false (weight_fits (kind_of x.kind) e.weight) f)) x.entries
      (left_false unfit (not (bound_fits x.bound)) v.ranges)

  pub bound_within : T (bound_fits x.bound)
  bound_within = T_true (not-false (bound_fits x.bound) (right_false unfit (not (bound_fits x.bound)) v.ranges))

  pub entries_headless : Each (λ e. ¬ (entry_atom e ≡ x.head)) x.entries
  entries_headless = none_as (λ e. eqb (entry_atom e) x.head) _ (λ e. eqb-false (entry_atom e) x.head) x.entries v.headless

  pub entries_unmixed : T (not (mixes (kind_of x.kind))) → both_signs x.entries ≡ false
  entries_unmixed t = and_false (not (mixes (kind_of x.kind))) (both_signs x.entries) v.unmixed t

  pub merged_product_within : kind_of x.kind ≡ product → T (le_z (multiplied (weights_of (merge product x.entries).entries)) (pos 1000000000000000000))
  merged_product_within e =
      let m = le_z (multiplied (weights_of (merge product x.entries).entries)) (pos 1000000000000000000) in
      let t : T (is_product x.kind) = subst (λ (k : ℕ). T (is_product k)) (sym (product_number x.kind e)) tt in
      T_true (not-false m (and_false (is_product x.kind) (not m) v.small t))

  pub written_product_within : kind_of x.kind ≡ product → T (le_z (multiplied (weights_of x.entries)) (pos 1000000000000000000))
  written_product_within e = subst (λ (z : ℤ). T (le_z z (pos 1000000000000000000))) (merge_product x.entries) (merged_product_within e)

  pub well_formed : WellFormed n (sentence_of x)
  well_formed = record {
    head_low = head_atom.0;
    head_high = head_atom.1;
    atoms_high = each_map (λ e. (1 ≤ entry_atom e) × (entry_atom e ≤ n)) (λ e. entry_atom e ≤ n) x.entries (λ e p. p.1) entry_atoms;
    admissible = record {
      literals = each_map (λ e. (1 ≤ entry_atom e) × (entry_atom e ≤ n)) (λ e. 1 ≤ entry_atom e) x.entries (λ e p. p.0) entry_atoms;
      weights = each_map (λ e. T (weight_fits (kind_of x.kind) e.weight)) (λ e. T (weighable (kind_of x.kind) e.weight)) x.entries
          (λ e t. fits_weighable (kind_of x.kind) e.weight t) entries_fit;
      headless = entries_headless;
      signs = λ t. one_signed x.entries (entries_unmixed t);
    };
  }
