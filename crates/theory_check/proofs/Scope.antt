-- A stored sentence's atoms by place: the head, and half the literal's word of each merged entry.
use mathlib.Core.Path.{◌≡◌, ap, ◌∙◌}
use mathlib.Core.List.{List}
use Prim.Native.Nat.{ℕ, zero, suc, ◌+◌, ◌*◌, ◌-◌, ◌/◌, ◌<◌, ◌≤◌}
use native.Mathlib.Omega.{arith}
use lib.ListN.{length, get_or}
use Rattle.meaning.specs.Meaning.{Entry}
use Rattle.meaning.specs.Merge.{entry_atoms, scope}
use Rattle.meaning.proofs.Trails.{atom_half}
use Rattle.area.specs.Layout.{word, merged_at, entry_at, rule_at}
use Rattle.entries_check.specs.Inner.Entries.{stored_entry}
use Rattle.theory_check.proofs.Listing.{listed, entries_listed, places_in, places_past}

module _ (w : List ℕ) (n S b : ℕ) (room : entry_at w n S b + 2 * merged_at w b ≤ length w) where
  atoms : entry_atoms (rule_at w n S b).set.entries ≡ entry_atoms (listed (merged_at w b) (stored_entry w (entry_at w n S b)))
  atoms = ap {A = List Entry} entry_atoms (entries_listed w (entry_at w n S b) (merged_at w b) room)

  pub scope_entry : (j : ℕ) → 1 ≤ j → j ≤ merged_at w b → get_or (scope (rule_at w n S b)) j 0 ≡ word w (entry_at w n S b + 2 * (j - 1) + 1) / 2
  scope_entry zero l h = let f : ⊥ = omega arith in absurd f
  scope_entry (suc i) l h = let e : i ≡ suc i - 1 = omega arith in ap {A = List ℕ} (λ l. get_or l i 0) atoms
      ∙ places_in (merged_at w b) (stored_entry w (entry_at w n S b)) i (omega arith) ∙ atom_half (word w (entry_at w n S b + 2 * i + 1))
      ∙ ap {A = ℕ} (λ k. word w (entry_at w n S b + 2 * k + 1) / 2) e

  pub scope_past : (j : ℕ) → merged_at w b < j → get_or (scope (rule_at w n S b)) j 0 ≡ 0
  scope_past zero h = let f : ⊥ = omega arith in absurd f
  scope_past (suc i) h = ap {A = List ℕ} (λ l. get_or l i 0) atoms ∙ places_past (merged_at w b) (stored_entry w (entry_at w n S b)) i (omega arith)
