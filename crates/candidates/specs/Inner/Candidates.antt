-- What a search asks of its list and what it does with one literal of it, on a whole area: all literals are of atoms, the next open one, and one
-- that is tried at a level of its own.
use Rattle.std.specs.Prelude.{◌≡◌, true, false, List, ℕ, ◌<◌, ◌≤◌, length, drop, get_or, ℤ, pos, leb, Option, Some, None, Result, Ok, Err}
use Rattle.types.specs.declared.Limits.{Limits}
use Rattle.meaning.specs.Meaning.{atom}
use Rattle.literals.specs.Inner.Literals.{unknown}
use Rattle.book.specs.Rows.{any}
use Rattle.book.specs.Table.{State, no_atom, on_trail, giving, opening, following, trying}
use Rattle.book.specs.Book.{Counters}
use Rattle.area.specs.Layout.{atoms_of, level_of}
use Rattle.types.specs.declared.Counters as t
use Rattle.calls.specs.declared.Refusal.{Refusal}
use Rattle.calls.specs.Calls.{area_state, counted, Moved}
use Rattle.whole.specs.Inner.Usable.{Usable}

-- no literal of the list is 0 or of no atom: the table's test for 10, at a state of n atoms
abbrev pub AllKnown : ℕ → List ℤ → Type 0
AllKnown n ls = any (unknown n) ls ≡ false

-- ---- a list that can be searched, and its next open literal

pub record Searchable (lim : Limits) (w : List ℕ) (c : Counters) (ls : List ℤ) : Type 0 where
  pub usable : Usable lim w c
  pub known : AllKnown (atoms_of w) ls

pub record NextAsked (w : List ℕ) (ls : List ℤ) (start : ℕ) : Type 0 where
  pub lim : Limits
  pub counters : Counters
  pub searchable : Searchable lim w counters ls
  pub inside : start ≤ length ls

abbrev pub nth : List ℤ → ℕ → ℤ
nth ls j = get_or ls j (pos 0)

-- from `start` on, the literals before j are passed over
pub record PassedTo (q : State) (ls : List ℤ) (start j : ℕ) : Type 0 where
  pub later : start ≤ j
  pub inside : j ≤ length ls
  pub passed : (total : ℕ) → trying q total start (drop start ls) ≡ trying q total j (drop j ls)

-- and literal j is open, or none is
abbrev pub NextIs : State → List ℤ → ℕ → Option ℕ → Type 0
NextIs q ls start (Some j) = PassedTo q ls start j × (j < length ls) × (on_trail q (atom (nth ls j)) ≡ false)
NextIs q ls start None = PassedTo q ls start (length ls)

-- ---- a literal tried

pub record Tryable (lim : Limits) (w : List ℕ) (c : Counters) (l : ℤ) : Type 0 where
  pub usable : Usable lim w c
  pub known : no_atom (area_state lim w) l ≡ false
  pub off : on_trail (area_state lim w) (atom l) ≡ false

pub record LevelRefused (lim : Limits) (w w' : List ℕ) : Type 0 where
  pub highest : leb lim.levels (level_of w) ≡ true
  pub area_same : w' ≡ w

pub record LiteralGiven (lim : Limits) (w w' : List ℕ) (c c' : Counters) (l : ℤ) : Type 0 where
  pub below : leb lim.levels (level_of w) ≡ false
  pub moved : Moved lim w w' c' (giving (following (area_state lim w) (opening (area_state lim w))) l)
  pub longer : c.length_is ≤ c'.length_is

abbrev pub Tried : Limits → (w w' : List ℕ) → Counters → ℤ → Result t.Counters Refusal → Type 0
Tried lim w w' c l (Ok d) = LiteralGiven lim w w' c (counted d) l
Tried lim w w' c l (Err e) = LevelRefused lim w w'
