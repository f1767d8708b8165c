-- The stored theory is the same in two lists where each record says the same and the entries are the same: its rules, the places of its
-- sentences, and that they are whole.
use mathlib.Core.Path.{◌≡◌, refl, sym, ap₂, ◌∙◌}
use mathlib.Core.List.{List, ◌∷◌}
use Prim.Native.Nat.{ℕ, zero, suc, ◌+◌, ◌*◌, ◌%◌, ◌<◌, ◌≤◌}
use native.Mathlib.Omega.{arith}
use lib.ListN.{length}
use Rattle.types.specs.declared.Limits.{Limits}
use Rattle.meaning.specs.Merge.{Rule}
use Rattle.area.specs.Layout.{word, record_at, rule_at, rules_from, entries_before}
use Rattle.theory_check.specs.Theory.{PlacesOk, SentenceOk}
use Rattle.whole.specs.Same.{SameRecord}
use Rattle.whole.proofs.Frame.{SameEntries, entries_behind, rule_same, sentence_same}

pub record SameTheory (w w' : List ℕ) (n S : ℕ) : Type 0 where
  pub records : (s : ℕ) → s < S → SameRecord w w' (record_at n s)
  pub entries : (s : ℕ) → s < S → SameEntries w w' n S (record_at n s)

-- where all words behind the records are the same
pub theory_behind : {w w' : List ℕ} {n S : ℕ} → length w' ≡ length w → ((s : ℕ) → s < S → SameRecord w w' (record_at n s))
    → ((i : ℕ) → 4 * n + 8 * S ≤ i → word w' i ≡ word w i) → SameTheory w w' n S
theory_behind {w} {w'} {n} {S} size records behind = record { records = records; entries = λ s h. entries_behind w w' n S (record_at n s) size behind }

module _ {w w' : List ℕ} {n S : ℕ} (same : SameTheory w w' n S) where
  pub rule_stays : (s : ℕ) → s < S → rule_at w' n S (record_at n s) ≡ rule_at w n S (record_at n s)
  rule_stays s h = rule_same w w' n S (record_at n s) (same.records s h) (same.entries s h)

  pub sentence_stays : (lim : Limits) (s : ℕ) → s < S → SentenceOk lim w n S (record_at n s) → SentenceOk lim w' n S (record_at n s)
  sentence_stays lim s h = sentence_same w w' n S (record_at n s) (same.records s h) (same.entries s h) lim

  pub rules_stay : (s k : ℕ) → s + k ≤ S → rules_from w' n S s k ≡ rules_from w n S s k
  unfolding rules_from
  rules_stay s zero h = refl
  rules_stay s (suc k) h = ap₂ {A = Rule} {B = List Rule} (λ r rs. r ∷ rs) (rule_stays s (omega arith)) (rules_stay (suc s) k (omega arith))

  pub before_stays : (s : ℕ) → s ≤ S → entries_before w' n s ≡ entries_before w n s
  unfolding entries_before
  before_stays zero h = refl
  before_stays (suc s) h = ap₂ {A = ℕ} {B = ℕ} (λ x y. x + y % 65536) (before_stays s (omega arith)) (same.records s h).counts

  pub places_stay : (lim : Limits) → 4 * n + 8 * S + 2 * entries_before w n S ≤ length w' → PlacesOk lim w n S → PlacesOk lim w' n S
  places_stay lim room p = let all = before_stays S (omega arith) in record {
    each = λ s h. let q = same.records s h in let o = p.each s h in let c = q.counts in
        record { place = q.before ∙ o.place ∙ sym (before_stays s (omega arith)); few = omega (arith, o.few); merged = omega (arith, o.merged) };
    entries = omega (arith, p.entries);
    room = omega arith;
  }
