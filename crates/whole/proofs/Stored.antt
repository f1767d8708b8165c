-- The stored rules of a whole area are merged. So each is a sentence of its own that is well_formed, and its merge says what the rule says.
use mathlib.Core.Path.{◌≡◌, refl, ap₂}
use mathlib.Core.Bool.{not}
use mathlib.Core.List.{List, [], ◌∷◌, map}
use Prim.Native.Nat.{ℕ, suc, ◌+◌, ◌<◌, ◌≤◌}
use native.Mathlib.Omega.{arith}
use lib.IntN.{ℤ, pos}
use lib.Dec.{T}
use Rattle.types.specs.declared.Limits.{Limits}
use Rattle.meaning.specs.Meaning.{Entry, entry_atom, Kind, sum, product, count, maximum, minimum, Each, OneSigned, weighable, mixes}
use Rattle.meaning.specs.Merge.{Rule, merged_kind, as_sentence}
use Rattle.meaning.specs.Represents.{IsMerged}
use Rattle.meaning.proofs.Gather.{each_map}
use Rattle.meaning.proofs.Stored.{weighable_merged, says_restored}
use Rattle.book.specs.Table.{spoken, first_to_speak}
use Rattle.book.specs.Book.{Counters, judged_all, rules_of, WellFormed}
use Rattle.area.specs.Layout.{word, atoms_of, sentences_of, constant_of, record_at, rule_at, theory_of}
use Rattle.area.specs.Whole.{WeightWhole, EntryWhole, DistinctAtoms, RuleWhole, Whole}
use Rattle.theory_check.proofs.Rules.{rules_each}

-- ---- a whole rule is merged

unmixed_zero : (k : Kind) (x : ℕ) → T (not (mixes k)) → constant_of k x ≡ pos 0
unmixed_zero k x = elim k as (λ k. T (not (mixes k)) → constant_of k x ≡ pos 0) [ sum ↦ absurd | product ↦ λ n. refl | count ↦ absurd | maximum ↦ λ n. refl | minimum ↦ λ n. refl ]

whole_weight : (k : Kind) (written : ℕ) (e : Entry) → WeightWhole k written e
    → (T (mixes k) → (e.literal ≡ pos (entry_atom e)) × (¬ (e.weight ≡ pos 0))) × T (weighable k e.weight)
whole_weight sum written e h = ((λ t. (h.itself, h.something)), tt)
whole_weight product written e h = ((λ t. absurd t), h.low)
whole_weight count written e h = ((λ t. (h.itself, h.something)), tt)
whole_weight maximum written e h = ((λ t. absurd t), tt)
whole_weight minimum written e h = ((λ t. absurd t), tt)

module _ (lim : Limits) (n : ℕ) (r : Rule) (h : RuleWhole lim n r) where
  abbrev E : Entry → Type 0
  E = EntryWhole n r.head r.kind r.written

  -- what every entry of the rule has
  entries_have : (P : Entry → Type 0) → ((e : Entry) → E e → P e) → Each P r.set.entries
  entries_have P f = each_map E P r.set.entries f h.entries

  whole_merged : (T (not (mixes r.kind)) → r.set.constant ≡ pos 0) → IsMerged r
  whole_merged zero_constant = record {
    unmixed = zero_constant;
    turned = λ t. entries_have (λ e. (e.literal ≡ pos (entry_atom e)) × (¬ (e.weight ≡ pos 0))) (λ e x. (whole_weight r.kind r.written e x.weighs).0 t);
    weights = entries_have (λ e. T (weighable r.kind e.weight)) (λ e x. (whole_weight r.kind r.written e x.weighs).1);
    literals = entries_have (λ e. 1 ≤ entry_atom e) (λ e x. x.atom_low);
    distinct = h.once;
    headless = entries_have (λ e. ¬ (entry_atom e ≡ r.head)) (λ e x. x.other);
  }

  -- ---- and its sentence is well_formed

  once_signed : (es : List Entry) → DistinctAtoms es → OneSigned es
  once_signed [] o = tt
  once_signed (e ∷ es) o = (each_map (λ x. ¬ (entry_atom x ≡ entry_atom e)) (λ x. entry_atom x ≡ entry_atom e → x.literal ≡ e.literal) es (λ x d q. absurd (d q)) o.0, once_signed es o.1)

  whole_formed : WellFormed n (as_sentence r)
  whole_formed = record {
    head_low = h.head_low;
    head_high = h.head_high;
    atoms_high = entries_have (λ e. entry_atom e ≤ n) (λ e x. x.atom_high);
    admissible = record {
      literals = entries_have (λ e. 1 ≤ entry_atom e) (λ e x. x.atom_low);
      weights = entries_have (λ e. T (weighable (merged_kind r.kind) e.weight))
          (λ e x. weighable_merged r.kind e.weight (whole_weight r.kind r.written e x.weighs).1);
      headless = entries_have (λ e. ¬ (entry_atom e ≡ r.head)) (λ e x. x.other);
      signs = λ _. once_signed r.set.entries h.once;
    };
  }

-- ---- the rules of a whole area

mapped : (n : ℕ) (rs : List Rule) → Each (λ r. WellFormed n (as_sentence r)) rs → Each (WellFormed n) (map as_sentence rs)
mapped n [] h = tt
mapped n (r ∷ rs) h = (h.0, mapped n rs h.1)

module _ (lim : Limits) (w : List ℕ) (c : Counters) (h : Whole lim w c) where
  abbrev n : ℕ
  n = atoms_of w

  abbrev S : ℕ
  S = sentences_of w

  pub merged : (s : ℕ) → s < S → IsMerged (rule_at w n S (record_at n s))
  merged s l = let r = rule_at w n S (record_at n s) in
      whole_merged lim n r (h.theory.each s l).rule (unmixed_zero r.kind (word w (record_at n s + 3)))

  pub all_merged : Each IsMerged (theory_of w)
  all_merged = rules_each IsMerged w n S 0 S (omega arith) merged

  pub well_formed : Each (WellFormed n) (map as_sentence (theory_of w))
  well_formed = mapped n (theory_of w)
      (rules_each (λ r. WellFormed n (as_sentence r)) w n S 0 S (omega arith) (λ s l. whole_formed lim n (rule_at w n S (record_at n s)) (h.theory.each s l).rule))

-- ---- and what they say

pub speech_restored : (rs : List Rule) → Each IsMerged rs → (k : ℕ) (t : List ℤ) → first_to_speak k (judged_all (rules_of (map as_sentence rs))) t ≡ first_to_speak k (judged_all rs) t
unfolding first_to_speak
speech_restored [] m k t = refl
speech_restored (r ∷ rs) m k t = ap₂ (λ y rest. spoken y k rest) (says_restored r m.0 t) (speech_restored rs m.1 (suc k) t)
