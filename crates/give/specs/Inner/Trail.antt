-- What putting a literal on a whole area asks and leaves: the area is whole with one row more, its bounds those of the longer trail.
use Rattle.std.specs.Prelude.{◌≡◌, List, ◌∷◌, ℕ, suc, ◌+◌, ◌/◌, ◌%◌, ◌≤◌, get_or}
use Rattle.types.specs.declared.Limits.{Limits}
use Rattle.types.specs.Limits.{Fitting}
use Rattle.numbers.specs.Words.{literal_of}
use Rattle.meaning.specs.Merge.{scope}
use Rattle.book.specs.Rows.{a_row}
use Rattle.book.specs.Table.{done}
use Rattle.area.specs.Layout.{atoms_of, sentences_of, level_of, rows_of, record_at, rule_at}
use Rattle.area.specs.Whole.{Whole}
use Rattle.calls.specs.Calls.{Moved}
use Rattle.trail.specs.Inner.Step.{Puttable}
use Rattle.whole.specs.Parts.{counters_with}

-- the literal's word is of an open atom; the mark has the level, and a reason that has the atom at its place, or none
pub record Advanceable (lim : Limits) (w : List ℕ) (n S len level literal mark : ℕ) : Type 0 where
  pub fitting : Fitting lim
  pub whole : Whole lim w (counters_with len level)
  pub atoms : atoms_of w ≡ n
  pub sentences : sentences_of w ≡ S
  pub puttable : Puttable w n literal
  pub level_is : mark % 65536 ≡ level
  pub few : mark / 65536 % 65536 ≤ S
  pub given : mark / 65536 % 65536 ≡ 0 → mark / 4294967296 ≡ 0
  pub derived : (s : ℕ) → mark / 65536 % 65536 ≡ suc s → get_or (scope (rule_at w n S (record_at n s))) (mark / 4294967296) 0 ≡ literal / 2

abbrev pub Advanced : Limits → (w w' : List ℕ) → (len level literal mark : ℕ) → Type 0
Advanced lim w w' len level literal mark =
    Moved lim w w' (counters_with (len + 1) level)
    (record { answer = done; level = level_of w; rows = a_row (literal_of literal) level (mark / 65536 % 65536) ∷ rows_of w })
