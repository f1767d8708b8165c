-- The clauses of a sentence's wholeness that speak of its entries, by number, and what their check asks and leaves: a table of stamps, by
-- which an atom met before is known.
use Rattle.std.specs.Prelude.{◌≡◌, Bool, List, ℕ, ◌+◌, ◌*◌, ◌-◌, ◌<◌, ◌≤◌, length}
use Rattle.types.specs.Limits.{bound_limit, widest}
use Rattle.decide.specs.Inner.Tells.{Tells}
use Rattle.decide.specs.Below.{product_below}
use Rattle.numbers.specs.Words.{half}
use Rattle.meaning.specs.Meaning.{Entry, entry_atom, product}
use Rattle.area.specs.Layout.{word, written_at, merged_at, kind_of, kind_at, entry_of}
use Rattle.area.specs.Whole.{EntryWhole}

-- entry i of those that start at `at`
abbrev pub stored_entry : List ℕ → ℕ → ℕ → Entry
stored_entry w at i = entry_of (word w (at + 2 * i)) (word w (at + 2 * i + 1))

-- a product's weight, from 1 on
abbrev pub factor : List ℕ → ℕ → ℕ → ℕ
factor w at i = word w (at + 2 * i) - half

-- no stamp is above `old`
pub record Stamps (seen : List ℕ) (old : ℕ) : Type 0 where
  pub size : length seen ≡ 4097
  pub upto : (a : ℕ) → a < 4097 → word seen a ≤ old

-- the merged entries, which start at `at`
pub record EntriesOk (w : List ℕ) (n b at : ℕ) : Type 0 where
  pub each : (i : ℕ) → i < merged_at w b → EntryWhole n (word w b) (kind_of (kind_at w b)) (written_at w b) (stored_entry w at i)
  pub once : (i j : ℕ) → i < merged_at w b → j < merged_at w b → entry_atom (stored_entry w at i) ≡ entry_atom (stored_entry w at j) → i ≡ j
  pub weights : kind_of (kind_at w b) ≡ product → product_below (merged_at w b) (factor w at) ≤ bound_limit

-- what the check of the entries asks
pub record EntriesAsked (w : List ℕ) (n b at : ℕ) (seen : List ℕ) (old : ℕ) : Type 0 where
  pub atoms : n ≤ widest.atoms
  pub own : b + 8 ≤ length w
  pub few : written_at w b ≤ widest.each
  pub merged : merged_at w b ≤ widest.each
  pub room : at + 2 * merged_at w b ≤ length w
  pub stamps : Stamps seen old
  pub stamps_high : old ≤ widest.sentences

-- and what it tells and leaves
pub record EntriesTold (w : List ℕ) (n b at : ℕ) (seen : List ℕ) (old : ℕ) (r : Bool) : Type 0 where
  pub tells : Tells r (EntriesOk w n b at)
  pub stamps : Stamps seen (old + 1)
