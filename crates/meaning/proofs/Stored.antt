-- A stored rule is a sentence of its own. A constant off the bound does to the comparison what the constant on the value does, and a merged
-- count is a sum: so the rule of a written sentence is satisfied where the sentence is, and the tests on any rule judge its sentence.
use mathlib.Core.Path.{◌≡◌, refl, sym, ◌∙◌, ap, subst}
use mathlib.Core.Bool.{true, not, beq}
use mathlib.Core.List.{List, [], ◌∷◌}
use Prim.Native.Nat.{ℕ, ◌≤◌}
use lib.IntN.{ℤ, pos, neg_ℤ, ◌+ℤ◌, ◌-ℤ◌}
use lib.Signed.{le_z}
use lib.Dec.{T}
use Rattle.numbers.specs.Extended.{Extended, below, at, above, Direction}
use Rattle.numbers.proofs.Integers.{ints, sum_parts, neg_parts}
use Rattle.numbers.proofs.Words.{same_test}
use Rattle.meaning.specs.Meaning.{Assignment, Entry, chosen, Kind, sum, product, count, maximum, minimum, aggregate, empty, members, Side, lower, upper, comparison, Sentence, value, Satisfied, Consistent, Conflicting, Says, weighable}
use Rattle.meaning.specs.Merge.{Merged, turned_all, freed_all, put, collect, nonzero, raised, merged_value, Rule, rule_with, rule_of, scope, merged_kind, as_sentence}
use Rattle.meaning.specs.Computed.{combine, gather, starting, free, fixed, standing_of, extreme_of, extreme, towards, refuted_at, refuted, first_due, first_said}
use Rattle.meaning.specs.Examples.{minus, ◌on◌, sentence_with, m3}
use Rattle.meaning.specs.Represents.{Represents, IsMerged, merged_comparison}
use Rattle.meaning.proofs.Orders.{combine_comm, empty_combine}
use Rattle.meaning.proofs.Gather.{each_map, gather_last, raised_zero, raised_starting}
use Rattle.meaning.proofs.Verdicts.{conflict_test}
use Rattle.meaning.proofs.Says.{says_right}
use Rattle.meaning.proofs.Merging.{merge_keeps_value}
use Rattle.meaning.proofs.Restored.{restored}

-- ---- examples, which compute

-- the rule of a sum, with the constant -2
sum_stored : as_sentence (rule_of m3) ≡ sentence_with 3 sum lower (pos 2) (minus 3 on pos 1 ∷ pos 7 on pos 2 ∷ [])
unfolding turned_all freed_all put collect nonzero
sum_stored = refl

-- a count that no sentence is merged to, over its entries as they weigh
abbrev weighing_count : Rule
weighing_count =
    record { head = 4; kind = count; side = upper; bound = pos 5; set = record { constant = pos 2; entries = pos 3 on pos 1 ∷ minus 2 on pos 2 ∷ [] }; written = 3 }

count_stored : (value (as_sentence weighing_count) (λ a. true) ≡ at (pos 1)) × ((as_sentence weighing_count).bound ≡ pos 3)
unfolding value
count_stored = (refl, refl)

-- ---- the constant and the bound

comparison_raised : (s : Side) (b c : ℤ) (v : Extended) → comparison s b (raised c v) ≡ comparison s (b -ℤ c) v
comparison_raised s b c below = elim s as (λ s. comparison s b (raised c below) ≡ comparison s (b -ℤ c) below) [ lower ↦ refl | upper ↦ refl ]
comparison_raised s b c (at z) =
    let p = sum_parts c z in
    let q = sum_parts b (neg_ℤ c) in
    let o = neg_parts c in
    elim s as (λ s. comparison s b (raised c (at z)) ≡ comparison s (b -ℤ c) (at z)) [
      | lower ↦ same_test (le_z b (c +ℤ z)) (le_z (b -ℤ c) z) (λ h. omega ints) (λ h. omega ints)
      | upper ↦ same_test (le_z (c +ℤ z) b) (le_z z (b -ℤ c)) (λ h. omega ints) (λ h. omega ints)
    ]
comparison_raised s b c above = elim s as (λ s. comparison s b (raised c above) ≡ comparison s (b -ℤ c) above) [ lower ↦ refl | upper ↦ refl ]

-- ---- when it is satisfied

members_merged : (k : Kind) (es : List Entry) → members (merged_kind k) es ≡ es
members_merged k es = elim k as (λ k. members (merged_kind k) es ≡ es) [ sum ↦ refl | product ↦ refl | count ↦ refl | maximum ↦ refl | minimum ↦ refl ]

aggregate_merged : (k : Kind) (ws : List ℤ) → aggregate (merged_kind k) ws ≡ aggregate k ws
aggregate_merged k ws = elim k as (λ k. aggregate (merged_kind k) ws ≡ aggregate k ws) [ sum ↦ refl | product ↦ refl | count ↦ refl | maximum ↦ refl | minimum ↦ refl ]

value_merged : (r : Rule) (σ : Assignment) → value (as_sentence r) σ ≡ aggregate (merged_kind r.kind) (chosen σ r.set.entries)
unfolding value
value_merged r σ = ap (λ es. aggregate (merged_kind r.kind) (chosen σ es)) (members_merged r.kind r.set.entries)

same_comparison : (r : Rule) (σ : Assignment) → comparison r.side (as_sentence r).bound (value (as_sentence r) σ) ≡ merged_comparison r σ
unfolding merged_value
same_comparison r σ = ap (comparison r.side (as_sentence r).bound) (value_merged r σ ∙ aggregate_merged r.kind (chosen σ r.set.entries))
    ∙ sym (comparison_raised r.side r.bound r.set.constant (aggregate r.kind (chosen σ r.set.entries)))

-- a rule's sentence is satisfied exactly where the head has the truth of that comparison
pub satisfied_stored : (r : Rule) (σ : Assignment)
    → (Satisfied σ (as_sentence r) → σ r.head ≡ merged_comparison r σ) × (σ r.head ≡ merged_comparison r σ → Satisfied σ (as_sentence r))
satisfied_stored r σ = (λ h. h ∙ same_comparison r σ, λ h. h ∙ sym (same_comparison r σ))

-- and that of a written sentence's rule exactly where the written sentence is
pub satisfied_written : (s : Sentence) (σ : Assignment)
    → (Satisfied σ (as_sentence (rule_of s)) → Satisfied σ s) × (Satisfied σ s → Satisfied σ (as_sentence (rule_of s)))
unfolding value
satisfied_written s σ =
    let same = ap (comparison s.side s.bound) (merge_keeps_value s.kind s.entries σ) in
    (λ h. (satisfied_stored (rule_of s) σ).0 h ∙ sym same, λ h. (satisfied_stored (rule_of s) σ).1 (h ∙ same))

-- ---- the tests

-- the entries without the constant
abbrev bare : Rule → Merged
bare r = record { constant = pos 0; entries = r.set.entries }

-- the rule with the constant taken off its bound
abbrev lowered : Rule → Rule
lowered r = rule_with (as_sentence r) (bare r)

pub weighable_merged : (k : Kind) (w : ℤ) → T (weighable k w) → T (weighable (merged_kind k) w)
weighable_merged k w = elim k as (λ k. T (weighable k w) → T (weighable (merged_kind k) w)) [ sum ↦ λ h. h | product ↦ λ h. h | count ↦ λ h. h | maximum ↦ λ h. h | minimum ↦ λ h. h ]

bare_represents : (r : Rule) → IsMerged r → Represents (as_sentence r) (bare r)
unfolding merged_value
bare_represents r m =
    let k = r.kind in
    let es = r.set.entries in
    record {
      same_value = λ σ. value_merged r σ ∙ sym (raised_zero (aggregate (merged_kind k) (chosen σ es)));
      unmixed = λ n. refl;
      weights = each_map (λ e. T (weighable k e.weight)) (λ e. T (weighable (merged_kind k) e.weight)) es
          (λ e. weighable_merged k e.weight) m.weights;
      literals = m.literals;
      distinct = m.distinct;
      headless = m.headless;
    }

gather_count : (f : Entry → Extended) (v : Extended) (es : List Entry) → gather count f v es ≡ gather sum f v es
unfolding gather
gather_count f v [] = refl
gather_count f v (e ∷ es) = gather_count f (combine sum v (f e)) es

gather_merged : (k : Kind) (d : Direction) (t : List ℤ) (es : List Entry)
    → gather k (extreme_of k d t) (empty k) es ≡ gather (merged_kind k) (extreme_of (merged_kind k) d t) (starting (merged_kind k) (pos 0)) es
gather_merged k d t es = elim k as (λ k. gather k (extreme_of k d t) (empty k) es ≡ gather (merged_kind k) (extreme_of (merged_kind k) d t) (starting (merged_kind k) (pos 0)) es) [ sum ↦ refl | product ↦ refl | count ↦ gather_count (extreme_of sum d t) (empty sum) es | maximum ↦ refl | minimum ↦ refl ]

-- a fold that starts at the constant ends further up by the constant
extreme_raised : (d : Direction) (r : Rule) (t : List ℤ) → IsMerged r → extreme d r t ≡ raised r.set.constant (extreme d (lowered r) t)
unfolding extreme
extreme_raised d r t m =
    let k = r.kind in
    let c = r.set.constant in
    let f = extreme_of k d t in
    let es = r.set.entries in
    ap (λ v. gather k f v es) (sym (empty_combine k (starting k c))) ∙ gather_last k f (empty k) (starting k c) es
    ∙ combine_comm k (gather k f (empty k) es) (starting k c) ∙ sym (raised_starting k c (gather k f (empty k) es) m.unmixed)
    ∙ ap (raised c) (gather_merged k d t es)

module _ (r : Rule) (m : IsMerged r) where
  refuted_lowered : (t : List ℤ) → refuted r t ≡ refuted (lowered r) t
  refuted_lowered t = elim (standing_of t r.head) as (λ x. refuted_at r t x ≡ refuted_at (lowered r) t x) [
    | free ↦ refl
    | fixed b ↦ ap (λ c. not (beq b c)) (ap (comparison r.side r.bound) (extreme_raised (towards r.side b) r t m)
        ∙ comparison_raised r.side r.bound r.set.constant (extreme (towards r.side b) (lowered r) t))
  ]

  -- a trail conflicts with the rule's sentence exactly when the test says so
  pub conflict_stored : (t : List ℤ) → Consistent t → (Conflicting (as_sentence r) t → T (refuted r t)) × (T (refuted r t) → Conflicting (as_sentence r) t)
  conflict_stored t c = subst (λ b. (Conflicting (as_sentence r) t → T b) × (T b → Conflicting (as_sentence r) t)) (sym (refuted_lowered t))
      (conflict_test (as_sentence r) (bare r) t (bare_represents r m) c)

  first_due_lowered : (t : List ℤ) (atoms : List ℕ) → first_due r t atoms ≡ first_due (lowered r) t atoms
  unfolding first_due
  first_due_lowered t [] = refl
  first_due_lowered t (a ∷ rest) = rw (refuted_lowered (neg_ℤ (pos a) ∷ t), refuted_lowered (neg_ℤ (neg_ℤ (pos a)) ∷ t), first_due_lowered t rest)

  says_lowered : (t : List ℤ) → first_said r t ≡ first_said (lowered r) t
  unfolding first_said
  says_lowered t = rw (refuted_lowered t, first_due_lowered t (scope r))

  -- and the rule says first what its sentence does
  pub says_stored : 1 ≤ r.head → (t : List ℤ) → Consistent t → Says (as_sentence r) t (scope r) (first_said r t)
  says_stored low t c = subst (Says (as_sentence r) t (scope r)) (sym (says_lowered t)) (says_right (as_sentence r) (bare r) t (bare_represents r m) low c)

  -- ---- the rule's sentence, stored: its merge leaves the entries as they are

  pub says_restored : (t : List ℤ) → first_said (rule_of (as_sentence r)) t ≡ first_said r t
  says_restored t = ap (λ s. first_said (rule_with (as_sentence r) s) t) (restored r m) ∙ sym (says_lowered t)
