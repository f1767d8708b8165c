-- What the loops over a sentence's entries ask: the entries and the values stand inside the area, and no fold wraps.
use Rattle.std.specs.Prelude.{◌≡◌, Bool, List, [], ◌∷◌, ℕ, ◌+◌, ◌-◌, ◌*◌, ◌/◌, ◌≤◌, ◌<◌, length}
use Rattle.numbers.specs.Words.{half, top}
use Rattle.area.specs.Layout.{value_at, weight_in, literal_in}
use Rattle.kinds.specs.declared.Kind.{Kind}
use Rattle.kinds.specs.declared.Kind.TheVariants.{Sum, Product, Count, Max, Min}
use Rattle.extremes.specs.declared.EntryWords.{EntryWords}
use Rattle.extremes.specs.Inner.Words.{combined, contributions}

-- `count` entries from `start` on, whose literals are of atoms 1 to n, with their values inside
pub record Entries (area : List ℕ) (start count n : ℕ) : Type 0 where
  pub atoms_low : 1 ≤ n
  pub inside : start + 2 * count ≤ length area
  pub values : 2 * n ≤ length area
  pub literal : (i : ℕ) → i < count → 2 ≤ literal_in area start i
  pub atom_high : (i : ℕ) → i < count → literal_in area start i / 2 ≤ n

-- entry i of them
pub record Inside (area : List ℕ) (start n i : ℕ) : Type 0 where
  pub atoms_low : 1 ≤ n
  pub words : start + 2 * i + 1 < length area
  pub values : 2 * n ≤ length area
  pub literal : 2 ≤ literal_in area start i
  pub atom_high : literal_in area start i / 2 ≤ n

-- its words, and the value of its atom
pub record EntryIs (area : List ℕ) (start n i : ℕ) (r : EntryWords) : Type 0 where
  pub weight_is : r.weight ≡ weight_in area start i
  pub literal_is : r.literal ≡ literal_in area start i
  pub value_is : r.value ≡ value_at area n (literal_in area start i / 2)
  pub real : 2 ≤ r.literal
  pub small : r.literal < top

-- one step of a fold does not wrap
abbrev pub Steps : Kind → ℕ → ℕ → Type 0
Steps Sum a b = (half < a + b) × (a + b < top + half)
Steps Product a b = (half ≤ a) × (half ≤ b) × ((a - half) * (b - half) < half)
Steps Count a b = (half < a + b) × (a + b < top + half)
Steps Max a b = Unit {0}
Steps Min a b = Unit {0}

-- no step of a fold wraps
unfoldable pub Room : Kind → ℕ → List ℕ → Type 0
Room k acc [] = Unit {0}
Room k acc (x ∷ xs) = Steps k acc x × Room k (combined k acc x) xs

-- of the fold in either direction
abbrev pub Rooms : Kind → ℕ → (ℕ → ℕ) → List ℕ → Type 0
Rooms k acc v words = (up : Bool) → Room k acc (contributions k up v words)
