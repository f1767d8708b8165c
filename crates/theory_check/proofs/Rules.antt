-- The stored theory by number: rule k of the list is the one whose record stands at place k.
use mathlib.Core.Path.{◌≡◌, refl, ap, ◌∙◌}
use mathlib.Core.List.{List}
use Prim.Native.Nat.{ℕ, zero, suc, ◌+◌, ◌<◌, ◌≤◌}
use native.Mathlib.Omega.{arith}
use lib.ListN.{length, get_or}
use Rattle.meaning.specs.Meaning.{Each}
use Rattle.meaning.specs.Merge.{Rule}
use Rattle.area.specs.Layout.{record_at, rule_at, rules_from}
use Rattle.area.proofs.Theory.{each_rule}

pub rules_length : (w : List ℕ) (n S s k : ℕ) → length (rules_from w n S s k) ≡ k
unfolding rules_from
rules_length w n S s zero = refl
rules_length w n S s (suc k) = ap {A = ℕ} suc (rules_length w n S (suc s) k)

-- what each record gives, each rule has
pub rules_each : (P : Rule → Type 0) (w : List ℕ) (n S s k : ℕ) → s + k ≤ S
    → ((i : ℕ) → i < S → P (rule_at w n S (record_at n i))) → Each P (rules_from w n S s k)
rules_each P w n S s k l h = each_rule P w n S s k (λ i t. h i (omega arith))

rule_number : (w : List ℕ) (n S s k i : ℕ) (d : Rule) → i < k → get_or (rules_from w n S s k) i d ≡ rule_at w n S (record_at n (s + i))
unfolding rules_from
rule_number w n S s zero i d h = let b : ⊥ = omega arith in absurd b
rule_number w n S s (suc k) zero d h = let e : s ≡ s + 0 = omega arith in ap {A = ℕ} (λ j. rule_at w n S (record_at n j)) e
rule_number w n S s (suc k) (suc i) d h = let e : suc s + i ≡ s + suc i = omega arith in
    rule_number w n S (suc s) k i d (omega arith) ∙ ap {A = ℕ} (λ j. rule_at w n S (record_at n j)) e

-- whatever stands for a rule past the end
pub rules_numbered : (w : List ℕ) (n S k : ℕ) (d : Rule) → k < S → get_or (rules_from w n S 0 S) k d ≡ rule_at w n S (record_at n k)
rules_numbered w n S k d h = let e : 0 + k ≡ k = omega arith in rule_number w n S 0 S k d h ∙ ap {A = ℕ} (λ j. rule_at w n S (record_at n j)) e
