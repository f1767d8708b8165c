-- The atoms of a stored sentence by number: the head's word, and half the literal's word of each merged entry. So a sentence is untouched
-- where the table has 0 for each.
use mathlib.Core.Path.{◌≡◌, sym, subst}
use mathlib.Core.List.{List}
use Prim.Native.Nat.{ℕ, ◌/◌, ◌<◌}
use native.Mathlib.Omega.{arith}
use Rattle.meaning.specs.Meaning.{Entry, entry_atom, Each}
use Rattle.meaning.proofs.Members.{places_each}
use Rattle.meaning.proofs.Standing.{each_place}
use Rattle.area.specs.Layout.{word, head_at, kind_at, written_at, merged_at, kind_of, entry_at, literal_in, rule_at}
use Rattle.area.specs.Whole.{EntryWhole}
use Rattle.extremes.specs.Inner.Stored.{EvaluateReady}
use Rattle.entries_check.specs.Inner.Entries.{stored_entry}
use Rattle.theory_check.proofs.Listing.{listed, entries_listed, each_by, by_each}
use Rattle.word_check.proofs.Weights.{atom_half}
use Rattle.refresh.specs.Inner.Refresh.{Untouched}

-- where `start` and `merged` are the words that were read
module _ {w : List ℕ} {n S b : ℕ} {start merged : ℕ} (ready : EvaluateReady w n S b) (s : start ≡ entry_at w n S b) (m : merged ≡ merged_at w b) where
  numbers : (rule_at w n S b).set.entries ≡ listed (merged_at w b) (stored_entry w (entry_at w n S b))
  numbers = entries_listed w (entry_at w n S b) (merged_at w b) ready.entries

  half : (j : ℕ) → entry_atom (stored_entry w (entry_at w n S b) j) ≡ literal_in w start j / 2
  half j = rw s (atom_half (literal_in w (entry_at w n S b) j))

  pub atom_in : {j l : ℕ} → j < merged → l ≡ literal_in w start j → l / 2 < 4097
  atom_in {j} h q =
      let P = EntryWhole n (head_at w b) (kind_of (kind_at w b)) (written_at w b) in
      let o = each_by P (merged_at w b) (stored_entry w (entry_at w n S b)) (subst (λ (es : List Entry). Each P es) numbers ready.rule.entries) j (omega arith) in
      rw q (omega (arith, o.atom_high, ready.atoms_high, half j))

  module _ (touched : List ℕ) where
    pub entry_untouched : {j l : ℕ} → Untouched w n S b touched → j < merged → l ≡ literal_in w start j → word touched (l / 2) ≡ 0
    entry_untouched {j} u h q =
        rw (q, ← half j)
        (each_by (λ e. word touched (entry_atom e) ≡ 0) (merged_at w b) (stored_entry w (entry_at w n S b))
        (subst (λ (es : List Entry). Each (λ e. word touched (entry_atom e) ≡ 0) es) numbers (each_place (λ a. word touched a ≡ 0) (rule_at w n S b).set.entries u.1)) j (omega arith))

    pub all_untouched : {head : ℕ} → head ≡ head_at w b → word touched head ≡ 0 → ((j : ℕ) → j < merged → word touched (literal_in w start j / 2) ≡ 0) → Untouched w n S b touched
    all_untouched e h f = (
      rw e at h,
      places_each (λ a. word touched a ≡ 0) (rule_at w n S b).set.entries
          (subst (λ (es : List Entry). Each (λ e. word touched (entry_atom e) ≡ 0) es) (sym numbers)
          (by_each (λ e. word touched (entry_atom e) ≡ 0) (merged_at w b) (stored_entry w (entry_at w n S b)) (λ j l. rw (half j) (f j (omega arith))))),
    )
