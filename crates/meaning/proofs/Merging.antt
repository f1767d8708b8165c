-- A merged set stands for the written one: it has its value under every full assignment and, for an admissible sentence, its weights
-- are fit for the kind, its atoms are distinct and none is the head's. Each step of the merge keeps that.
use mathlib.Core.Path.{◌≡◌, refl, sym, ◌∙◌, ap}
use mathlib.Core.Bool.{not}
use mathlib.Core.List.{List, []}
use Prim.Native.Nat.{◌≤◌}
use lib.IntN.{ℤ, pos, ◌+ℤ◌}
use lib.Dec.{T}
use Rattle.numbers.specs.Extended.{at}
use Rattle.numbers.proofs.Integers.{product_mono}
use Rattle.meaning.specs.Meaning.{Assignment, Entry, chosen, Kind, sum, product, count, maximum, minimum, total, aggregate, members, Sentence, value, Each, weighable, mixes, Admissible}
use Rattle.meaning.specs.Merge.{freed_all, turned_all, constant, collect, nonzero, merge, raised, merged_value}
use Rattle.meaning.specs.Represents.{Represents}
use Rattle.meaning.proofs.Gather.{raised_zero}
use Rattle.meaning.proofs.Members.{each, collect_each, merge_each}
use Rattle.meaning.proofs.MergingDistinct.{merge_distinct}
use Rattle.meaning.proofs.MergingTurned.{turned_total, nonzero_total}
use Rattle.meaning.proofs.MergingValue.{collect_keeps_value}

-- ---- the value

-- in the kinds whose value is a total
total_keeps_value : (k : Kind) → ((ws : List ℤ) → aggregate k ws ≡ at (total ws)) → (es : List Entry) (σ : Assignment)
    → at (total (chosen σ es)) ≡ at (freed_all es +ℤ total (chosen σ (nonzero (collect k [] (turned_all es)))))
total_keeps_value k as_total es σ =
    let ts = turned_all es in
    let cs = collect k [] ts in
    ap at (turned_total σ es) ∙ ap (raised (freed_all es)) (sym (as_total (chosen σ ts)) ∙ sym (collect_keeps_value k ts σ) ∙ as_total (chosen σ cs))
    ∙ ap (λ z. at (freed_all es +ℤ z)) (sym (nonzero_total σ cs))

-- in the kinds that turn no entry
joined_keeps_value : (k : Kind) (es : List Entry) (σ : Assignment) → aggregate k (chosen σ es) ≡ raised (pos 0) (aggregate k (chosen σ (collect k [] es)))
joined_keeps_value k es σ = sym (raised_zero (aggregate k (chosen σ (collect k [] es))) ∙ collect_keeps_value k es σ)

pub merge_keeps_value : (k : Kind) (es : List Entry) (σ : Assignment) → aggregate k (chosen σ (members k es)) ≡ merged_value k (merge k es) σ
unfolding merged_value
merge_keeps_value sum es σ = total_keeps_value sum (λ ws. refl) es σ
merge_keeps_value product es σ = joined_keeps_value product es σ
merge_keeps_value count es σ = total_keeps_value count (λ ws. refl) (members count es) σ
merge_keeps_value maximum es σ = joined_keeps_value maximum es σ
merge_keeps_value minimum es σ = joined_keeps_value minimum es σ

-- ---- the weights and the constant

any : (es : List Entry) → Each (λ e. Unit {0}) es
any es = each (λ e. Unit {0}) (λ e. tt) es

merge_weights : (k : Kind) (es : List Entry) → Each (λ e. T (weighable k e.weight)) es → Each (λ e. T (weighable k e.weight)) (merge k es).entries
merge_weights sum es h = any (merge sum es).entries
merge_weights product es h =
    collect_each (λ e. T (weighable product e.weight)) product (λ x e p q. product_mono (pos 1) x.weight (pos 1) e.weight tt tt p q) [] es tt h
merge_weights count es h = any (merge count es).entries
merge_weights maximum es h = any (merge maximum es).entries
merge_weights minimum es h = any (merge minimum es).entries

unmixed_constant : (k : Kind) (es : List Entry) → T (not (mixes k)) → constant k es ≡ pos 0
unmixed_constant k es = elim k as (λ k. T (not (mixes k)) → constant k es ≡ pos 0) [ sum ↦ absurd | product ↦ λ n. refl | count ↦ absurd | maximum ↦ λ n. refl | minimum ↦ λ n. refl ]

-- ---- the whole

pub merge_represents : (s : Sentence) → Admissible s → Represents s (merge s.kind s.entries)
unfolding value
merge_represents s a =
    let k = s.kind in
    let es = s.entries in
    record {
      same_value = λ σ. merge_keeps_value k es σ;
      unmixed = λ n. unmixed_constant k (members k es) n;
      weights = merge_weights k es a.weights;
      literals = merge_each (λ p. 1 ≤ p) k es a.literals;
      distinct = merge_distinct k es a.signs;
      headless = merge_each (λ p. ¬ (p ≡ s.head)) k es a.headless;
    }
