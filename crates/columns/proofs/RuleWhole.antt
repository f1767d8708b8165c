-- A sentence that passes is merged into a rule that meets load's rules: atoms are those of written entries and distinct, and the merged
-- weights and the constant are no larger than a stored theory allows.
use mathlib.Core.Path.{◌≡◌, refl, sym, subst}
use mathlib.Core.List.{List, []}
use Prim.Native.Nat.{ℕ, ◌+◌, ◌*◌, ◌≤◌}
use native.Mathlib.Omega.{arith}
use lib.IntN.{pos, negsuc, nat_abs}
use lib.ListN.{length}
use lib.Dec.{T}
use lib.Signed.{le_z}
use Rattle.types.specs.declared.Limits.{Limits}
use Rattle.meaning.specs.Meaning.{Entry, entry_atom, Kind, sum, product, count, maximum, minimum, members, multiplied, Each}
use Rattle.meaning.specs.Merge.{turned_all, collect, nonzero, constant, merge, rule_of}
use Rattle.meaning.proofs.Gather.{each_map}
use Rattle.meaning.proofs.Members.{each_both, nonzero_each, collect_each, merge_each}
use Rattle.meaning.proofs.MergingLength.{members_length}
use Rattle.meaning.proofs.MergingDistinct.{turned_all_positive, merge_distinct}
use Rattle.kinds.specs.Kinds.{weight_fits}
use Rattle.kinds.proofs.Weights.{fits_weighable, between_size, fits_size}
use Rattle.area.specs.Layout.{kind_of}
use Rattle.area.specs.Whole.{SumWeight, ProductWeight, WeightWhole, EntryWhole, weights_of, RuleWhole}
use Rattle.columns.specs.Columns.{Written, sentence_of}
use Rattle.columns.specs.Indexed.{Passes}
use Rattle.columns.proofs.Passing.{entries_few, head_atom, entry_atoms, entries_fit, bound_within, entries_headless, entries_unmixed, merged_product_within, one_signed}
use Rattle.columns.proofs.MergedSizes.{Small, Adds, collect_size, freed_size, once_size, nonzero_weights, Positive, collect_positive, factor_size, maximum_keeps, minimum_keeps, collect_kept}

-- ---- sums and counts

-- of at most `written` entries
added : (k : Kind) → Adds k → (written : ℕ) (ms : List Entry) → length ms ≤ written → Each (Small 1000000000) ms → Each (SumWeight written) (nonzero (collect k [] (turned_all ms)))
added k adds written ms l h =
    let cs = collect k [] (turned_all ms) in
    each_map (λ e. ((e.literal ≡ pos (entry_atom e)) × Small (1000000000 * written) e) × ¬ (e.weight ≡ pos 0)) (SumWeight written) (nonzero cs)
    (λ e p. record { itself = p.0.0; something = p.1; size = p.0.1 })
    (each_both (λ e. (e.literal ≡ pos (entry_atom e)) × Small (1000000000 * written) e) (λ e. ¬ (e.weight ≡ pos 0)) (nonzero cs)
    (nonzero_each (λ e. (e.literal ≡ pos (entry_atom e)) × Small (1000000000 * written) e) cs
    (each_both (λ e. e.literal ≡ pos (entry_atom e)) (Small (1000000000 * written)) cs
    (collect_each (λ e. e.literal ≡ pos (entry_atom e)) k (λ x e p q. p) [] (turned_all ms) tt (turned_all_positive ms))
    (each_map (Small (0 + 1000000000 * length ms)) (Small (1000000000 * written)) cs (λ e p. omega arith) (collect_size k adds 0 1000000000 [] ms tt h))))
    (nonzero_weights cs))

-- ---- the five kinds

small_entries : (k : Kind) (es : List Entry) → Each (λ e. T (weight_fits k e.weight)) es → Each (Small 1000000000) es
small_entries k es h = each_map (λ e. T (weight_fits k e.weight)) (Small 1000000000) es (λ e t. fits_size k e.weight t) h

weights_whole : (k : Kind) (es : List Entry) → Each (λ e. T (weight_fits k e.weight)) es
    → (k ≡ product → T (le_z (multiplied (weights_of (merge product es).entries)) (pos 1000000000000000000)))
    → Each (WeightWhole k (length es)) (merge k es).entries
weights_whole sum es h p = added sum (λ v w. refl) (length es) es (omega arith) (small_entries sum es h)
weights_whole product es h p =
    let cs = collect product [] es in
    let ps : Each Positive cs = collect_positive es (each_map (λ e. T (weight_fits product e.weight)) Positive es (λ e t. fits_weighable product e.weight t) h) in
    each_map (λ e. Positive e × Small 1000000000000000000 e) ProductWeight cs (λ e q. record { low = q.0; high = q.1 })
    (each_both Positive (Small 1000000000000000000) cs ps (factor_size 1000000000000000000 cs ps (p refl)))
weights_whole count es h p = added count (λ v w. refl) (length es) (members count es) (members_length count es) (once_size 1000000000 es (omega arith))
weights_whole maximum es h p = collect_kept maximum maximum_keeps 1000000000 es (small_entries maximum es h)
weights_whole minimum es h p = collect_kept minimum minimum_keeps 1000000000 es (small_entries minimum es h)

constant_near : (k : Kind) (es : List Entry) → Each (λ e. T (weight_fits k e.weight)) es → nat_abs (constant k (members k es)) ≤ 1000000000 * length es
constant_near sum es h = freed_size 1000000000 es (small_entries sum es h)
constant_near product es h = omega arith
constant_near count es h = omega (arith, freed_size 1000000000 (members count es) (once_size 1000000000 es (omega arith)), members_length count es)
constant_near maximum es h = omega arith
constant_near minimum es h = omega arith

-- ---- the rule

module _ (lim : Limits) (n : ℕ) (x : Written) (v : Passes lim n x) where
  abbrev kind : Kind
  kind = kind_of x.kind

  abbrev merged : List Entry
  merged = (merge kind x.entries).entries

  abbrev Placed : ℕ → Type 0
  Placed a = ((1 ≤ a) × (a ≤ n)) × ¬ (a ≡ x.head)

  entries_whole : Each (EntryWhole n x.head kind (length x.entries)) merged
  entries_whole = each_map (λ e. Placed (entry_atom e) × WeightWhole kind (length x.entries) e) (EntryWhole n x.head kind (length x.entries)) merged
      (λ e p. record { atom_low = p.0.0.0; atom_high = p.0.0.1; weighs = p.1; other = p.0.1 })
      (each_both (λ e. Placed (entry_atom e)) (WeightWhole kind (length x.entries)) merged (merge_each Placed kind x.entries
      (each_both (λ e. (1 ≤ entry_atom e) × (entry_atom e ≤ n)) (λ e. ¬ (entry_atom e ≡ x.head)) x.entries (entry_atoms lim n x v) (entries_headless lim n x v)))
      (weights_whole kind x.entries (entries_fit lim n x v) (merged_product_within lim n x v)))

  product_whole : kind ≡ product → T (le_z (multiplied (weights_of merged)) (pos 1000000000000000000))
  product_whole e =
      subst (λ (k : Kind). T (le_z (multiplied (weights_of (merge k x.entries).entries)) (pos 1000000000000000000))) (sym e) (merged_product_within lim n x v e)

  pub rule_whole : RuleWhole lim n (rule_of (sentence_of x))
  rule_whole = record {
    few = entries_few lim n x v;
    head_low = (head_atom lim n x v).0;
    head_high = (head_atom lim n x v).1;
    bound = between_size (negsuc 999999999999999999) (pos 1000000000000000000) x.bound 1000000000000000000 tt tt (bound_within lim n x v);
    constant = constant_near kind x.entries (entries_fit lim n x v);
    entries = entries_whole;
    once = merge_distinct kind x.entries (λ t. one_signed x.entries (entries_unmixed lim n x v t));
    product = product_whole;
  }
