-- A refreshed sentence matches the trail as it now is. An untouched one has the bounds, and says, what it had and said before: all its
-- atoms stand as they stood. A renewed one has the extremes of the values, which show the trail, and is marked.
use mathlib.Core.Path.{◌≡◌, sym, ap, ◌∙◌}
use mathlib.Core.Bool.{true≢false}
use mathlib.Core.List.{List}
use Prim.Native.Nat.{ℕ, ◌≤◌}
use lib.IntN.{ℤ}
use lib.Dec.{leb}
use Rattle.types.specs.declared.Limits.{Limits}
use Rattle.numbers.specs.Extended.{up, down}
use Rattle.numbers.specs.Words.{word as word_of}
use Rattle.meaning.specs.Meaning.{entry_atom, Each}
use Rattle.meaning.specs.Merge.{Rule, scope}
use Rattle.meaning.specs.Computed.{standing_of, extreme, first_said}
use Rattle.meaning.proofs.Gather.{each_map}
use Rattle.meaning.proofs.Members.{each_both, places_each}
use Rattle.meaning.proofs.Standing.{each_place, SameStanding, extreme_standing, says_standing}
use Rattle.area.specs.Layout.{word, rule_at}
use Rattle.area.specs.Whole.{EntryWhole, RuleWhole}
use Rattle.extremes.specs.Inner.Stored.{Shows}
use Rattle.whole.specs.Parts.{Matching}
use Rattle.refresh.specs.Inner.Refresh.{AsBefore, Renewed}

-- ---- an untouched sentence

module _ (n : ℕ) (touched : List ℕ) (t t' : List ℤ)
    (stand : (a : ℕ) → 1 ≤ a → a ≤ n → word touched a ≡ 0 → standing_of t a ≡ standing_of t' a) where
  scope_stands : (lim : Limits) (r : Rule) → RuleWhole lim n r → Each (λ a. word touched a ≡ 0) (scope r) → Each (SameStanding t t') (scope r)
  scope_stands lim r o h = (
    stand r.head o.head_low o.head_high h.0,
    places_each (SameStanding t t') r.set.entries
        (each_map (λ e. EntryWhole n r.head r.kind r.written e × (word touched (entry_atom e) ≡ 0)) (λ e. SameStanding t t' (entry_atom e)) r.set.entries
        (λ e p. stand (entry_atom e) p.0.atom_low p.0.atom_high p.1)
        (each_both (EntryWhole n r.head r.kind r.written) (λ e. word touched (entry_atom e) ≡ 0) r.set.entries o.entries (each_place (λ a. word touched a ≡ 0) r.set.entries h.1))),
  )

  pub untouched_matches : (lim : Limits) (w w' : List ℕ) (S b : ℕ) → rule_at w' n S b ≡ rule_at w n S b → RuleWhole lim n (rule_at w n S b)
      → Each (λ a. word touched a ≡ 0) (scope (rule_at w n S b)) → AsBefore w w' b → Matching w n S b t → Matching w' n S b t'
  untouched_matches lim w w' S b e o h a m =
      let r = rule_at w n S b in
      let q = scope_stands lim r o h in
      record {
        bounds = record {
          least = a.least ∙ m.bounds.least ∙ ap word_of (extreme_standing down r t t' q) ∙ ap {A = Rule} (λ x. word_of (extreme down x t')) (sym e);
          greatest = a.greatest ∙ m.bounds.greatest ∙ ap word_of (extreme_standing up r t t' q) ∙ ap {A = Rule} (λ x. word_of (extreme up x t')) (sym e);
        };
        quiet = λ p. ap {A = Rule} (λ x. first_said x t') e ∙ sym (says_standing r t t' q) ∙ m.quiet (ap {A = ℕ} (leb 16) (sym a.tag) ∙ p);
      }

-- ---- a renewed sentence

pub renewed_matches : (w w' : List ℕ) (n S b : ℕ) (t : List ℤ) → rule_at w' n S b ≡ rule_at w n S b → Shows w n t → Renewed w w' n S b → Matching w' n S b t
renewed_matches w w' n S b t e sh r = record {
  bounds = record {
    least = r.extremes.least_is t sh ∙ ap {A = Rule} (λ x. word_of (extreme down x t)) (sym e);
    greatest = r.extremes.greatest_is t sh ∙ ap {A = Rule} (λ x. word_of (extreme up x t)) (sym e);
  };
  quiet = λ p. absurd (true≢false (sym r.marked ∙ p));
}
