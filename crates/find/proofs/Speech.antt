-- The table's speech from a sentence on: a silent sentence leaves it to the next, and the first that is not silent decides what is found.
use mathlib.Core.Path.{◌≡◌, ◌∙◌, ap, subst}
use mathlib.Core.List.{List}
use Prim.Native.Nat.{ℕ, suc, ◌+◌, ◌-◌, ◌/◌, ◌<◌, ◌≤◌}
use native.Mathlib.Omega.{arith}
use lib.ListN.{get_or}
use Rattle.numbers.specs.Words.{literal_of}
use Rattle.meaning.specs.Meaning as m
use Rattle.meaning.specs.Merge.{scope}
use Rattle.meaning.specs.Computed.{first_said}
use Rattle.book.specs.Rows.{trail}
use Rattle.book.specs.Table.{Speech, nothing, spoken, first_to_speak}
use Rattle.book.specs.Book.{judged_all}
use Rattle.area.specs.Layout.{rows_of, rules_from, theory_of, record_at, rule_at}
use Rattle.find.specs.declared.Found.{Found}
use Rattle.find.specs.declared.Found.TheVariants.{Nothing, Conflict, Forced}
use Rattle.find.specs.Inner.Find.{spoken_of, FoundIs}

module _ (w : List ℕ) (n S : ℕ) where
  abbrev pub said_by : ℕ → m.Said
  said_by s = first_said (rule_at w n S (record_at n s)) (trail (rows_of w))

  -- of the sentences from s on
  abbrev from : ℕ → Speech
  from s = first_to_speak (suc s) (judged_all (rules_from w n S s (S - s))) (trail (rows_of w))

  -- the sentences before s are silent
  abbrev pub SilentTo : ℕ → Type 0
  SilentTo s = first_to_speak 1 (judged_all (theory_of w)) (trail (rows_of w)) ≡ from s

  from_next : (s : ℕ) → s < S → from s ≡ spoken (said_by s) (suc s) (from (s + 1))
  unfolding first_to_speak rules_from
  from_next s h =
      let e : S - s ≡ suc (S - (s + 1)) = omega arith in
      let q : suc s ≡ s + 1 = omega arith in
      ap (λ k. first_to_speak (suc s) (judged_all (rules_from w n S s k)) (trail (rows_of w))) e
      ∙ ap (λ k. spoken (said_by s) (suc s) (first_to_speak (suc k) (judged_all (rules_from w n S k (S - (s + 1)))) (trail (rows_of w)))) q

  from_end : (s : ℕ) → s ≡ S → from s ≡ nothing
  unfolding first_to_speak rules_from
  from_end s e = let z : S - s ≡ 0 = omega arith in ap (λ k. first_to_speak (suc s) (judged_all (rules_from w n S s k)) (trail (rows_of w))) z

  pub silent_next : (s : ℕ) → s < S → SilentTo s → said_by s ≡ m.silent → SilentTo (s + 1)
  silent_next s h before e = before ∙ from_next s h ∙ ap (λ x. spoken x (suc s) (from (s + 1))) e

  -- ---- what is found

  abbrev Right : Found → Type 0
  Right Nothing = Unit {0}
  Right (Conflict s) = s < S
  Right (Forced s l p) = (s < S) × (2 ≤ l) × (get_or (scope (rule_at w n S (record_at n s))) p 0 ≡ l / 2)

  found_is : (r : Found) → first_to_speak 1 (judged_all (theory_of w)) (trail (rows_of w)) ≡ spoken_of r → Right r → FoundIs w n S r
  found_is r e h = record {
    speech_is = e;
    inside = λ s l p q. (subst Right q h).0;
    literal_low = λ s l p q. (subst Right q h).1;
    place = λ s l p q. (subst Right q h).2;
    conflict_inside = λ s q. subst Right q h;
  }

  pub found_nothing : (s : ℕ) → s ≡ S → SilentTo s → FoundIs w n S Nothing
  found_nothing s e before = found_is Nothing (before ∙ from_end s e) tt

  module _ (s : ℕ) (h : s < S) (before : SilentTo s) where
    pub found_conflict : said_by s ≡ m.conflict → FoundIs w n S (Conflict s)
    found_conflict e = found_is (Conflict s) (before ∙ from_next s h ∙ ap (λ x. spoken x (suc s) (from (s + 1))) e) h

    pub found_forced : (l p : ℕ) → said_by s ≡ m.forced (literal_of l) → 2 ≤ l → get_or (scope (rule_at w n S (record_at n s))) p 0 ≡ l / 2
        → FoundIs w n S (Forced s l p)
    found_forced l p e low place = found_is (Forced s l p) (before ∙ from_next s h ∙ ap (λ x. spoken x (suc s) (from (s + 1))) e) (h, low, place)
