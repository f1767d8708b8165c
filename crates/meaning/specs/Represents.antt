-- When a merged set stands for a sentence's own: it has the sentence's value under every full assignment, each atom once, and not the
-- head's. The theorems on extremes, conflicts and forced literals hold for any such set, so that the merge is proved once.
use Rattle.std.specs.Prelude.{◌≡◌, Bool, not, ◌≤◌, pos, T}
pub use Rattle.meaning.specs.Meaning.{Off, DistinctAtoms}
use Rattle.meaning.specs.Meaning.{Assignment, entry_atom, comparison, Sentence, value, Each, weighable, mixes}
use Rattle.meaning.specs.Merge.{Merged, merged_value, Rule}

pub record Represents (s : Sentence) (m : Merged) : Type 0 where
  pub same_value : (σ : Assignment) → value s σ ≡ merged_value s.kind m σ
  -- only sums and counts have a constant
  pub unmixed : T (not (mixes s.kind)) → m.constant ≡ pos 0
  pub weights : Each (λ e. T (weighable s.kind e.weight)) m.entries
  pub literals : Each (λ e. 1 ≤ entry_atom e) m.entries
  pub distinct : DistinctAtoms m.entries
  pub headless : Off s.head m.entries

-- ---- of a stored rule

-- what a merge leaves: only sums and counts have a constant, and their entries are on the atoms themselves, with weights that are not 0; a
-- product's weights are at least 1; each atom stands once, and not the head's
pub record IsMerged (r : Rule) : Type 0 where
  pub unmixed : T (not (mixes r.kind)) → r.set.constant ≡ pos 0
  pub turned : T (mixes r.kind) → Each (λ e. (e.literal ≡ pos (entry_atom e)) × (¬ (e.weight ≡ pos 0))) r.set.entries
  pub weights : Each (λ e. T (weighable r.kind e.weight)) r.set.entries
  pub literals : Each (λ e. 1 ≤ entry_atom e) r.set.entries
  pub distinct : DistinctAtoms r.set.entries
  pub headless : Off r.head r.set.entries

-- the comparison with the merged value, constant and all
abbrev pub merged_comparison : Rule → Assignment → Bool
merged_comparison r σ = comparison r.side r.bound (merged_value r.kind r.set σ)
