-- Every row of specs/Examples.antt is right by full assignments: its numbers are what the computed side gives, and that is the meaning.
use mathlib.Core.Path.{subst}
use lib.Dec.{T, leb→le}
use Rattle.numbers.specs.Extended.{up, down}
use Rattle.meaning.specs.Meaning.{Furthest, Says, Each}
use Rattle.meaning.specs.Merge.{merge, rule_of, scope}
use Rattle.meaning.specs.Computed.{extreme, first_said}
use Rattle.meaning.specs.Examples.{Example, Right, examples}
use Rattle.meaning.proofs.Merging.{merge_represents}
use Rattle.meaning.proofs.Extremes.{extreme_furthest}
use Rattle.meaning.proofs.Says.{says_right}
use Rattle.meaning.proofs.Checks.{every, tests, examples_pass}
use Rattle.meaning.proofs.Tests.{consistent_is, admissible_is, same_value_is, same_said_is, every_is}

right : (x : Example) → Each T (tests x) → Right x
right x h =
    let s = x.sentence in
    let t = x.trail in
    let m = merge s.kind s.entries in
    let p = merge_represents s (admissible_is s h.1.0) in
    let c = consistent_is t h.0 in
    record {
      least_is = subst (Furthest down s t) (same_value_is (extreme down (rule_of s) t) x.least h.1.1.1.0) (extreme_furthest down s m t p c);
      greatest_is = subst (Furthest up s t) (same_value_is (extreme up (rule_of s) t) x.greatest h.1.1.1.1.0) (extreme_furthest up s m t p c);
      says = subst (Says s t (scope (rule_of s))) (same_said_is (first_said (rule_of s) t) x.said h.1.1.1.1.1.0) (says_right s m t p (leb→le 1 s.head h.1.1.0) c);
    }

-- the claim about the list
pub examples_right : Each Right examples
examples_right = every_is (λ x. every (λ b. b) (tests x)) Right (λ x t. right x (every_is (λ b. b) T (λ b u. u) (tests x) t)) examples examples_pass
