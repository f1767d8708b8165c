-- One entry as it is collected, and two weights that may be joined.
use Rattle.std.specs.Prelude.{◌≡◌, ℕ, ◌*◌, ◌≤◌, ℤ, pos, nat_abs, ◌*ℤ◌, T}
use Rattle.std.specs.Int.Signed.{le_z}
use Rattle.types.specs.Limits.{weight_limit, bound_limit, widest}
use Rattle.numbers.specs.Words.{unbias}
use Rattle.meaning.specs.Meaning.{Entry, Kind, sum, product, count, maximum, minimum}
use Rattle.meaning.specs.Merge.{turned_by, freed_by}
use Rattle.area.specs.Layout.{entry_of}
use Rattle.entry_words.specs.declared.Turned.{Turned}

-- as it is collected, and what it adds to the constant
abbrev pub positive : Kind → Entry → Entry
positive sum e = turned_by e.weight e.literal
positive product e = e
positive count e = turned_by e.weight e.literal
positive maximum e = e
positive minimum e = e

abbrev pub freed : Kind → Entry → ℤ
freed sum e = freed_by e.weight e.literal
freed product e = pos 0
freed count e = freed_by e.weight e.literal
freed maximum e = pos 0
freed minimum e = pos 0

-- the same, as words
pub record TurnedIs (kind : Kind) (x l : ℕ) (r : Turned) : Type 0 where
  pub entry : entry_of r.weight r.literal ≡ positive kind (entry_of x l)
  pub freed_is : unbias r.freed ≡ freed kind (entry_of x l)
  pub low : 2 ≤ r.literal
  pub high : r.literal ≤ 8193

-- two weights whose join fits a word
abbrev pub Joinable : Kind → ℤ → ℤ → Type 0
Joinable sum v w = (nat_abs v ≤ weight_limit * widest.each) × (nat_abs w ≤ weight_limit)
Joinable product v w = T (le_z (pos 1) v) × T (le_z (pos 1) w) × T (le_z (v *ℤ w) (pos bound_limit))
Joinable count v w = (nat_abs v ≤ weight_limit * widest.each) × (nat_abs w ≤ weight_limit)
Joinable maximum v w = Unit {0}
Joinable minimum v w = Unit {0}
