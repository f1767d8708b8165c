-- What propagate's loop leaves.
use Rattle.std.specs.Prelude.{◌≡◌, List, ℕ, suc}
use Rattle.types.specs.declared.Limits.{Limits}
use Rattle.book.specs.Table.{done, run}
use Rattle.book.specs.Book.{judged_all, counters_with}
use Rattle.area.specs.Layout.{atoms_of, level_of, rows_of, theory_of}
use Rattle.calls.specs.Calls.{Moved}

-- where the loop stops, from a whole area w with n atoms at the level: in the words w' the rows are those of the table's run, with the
-- sentence in conflict, 0 where none is
pub record Stopped (lim : Limits) (w w' : List ℕ) (level len' sentence : ℕ) : Type 0 where
  pub moved : Moved lim w w' (counters_with len' level) (record { answer = done; level = level_of w; rows = rows_of w' })
  pub stop : run (judged_all (theory_of w)) level (suc (atoms_of w)) (rows_of w) ≡ record { sentence = sentence; rows = rows_of w' }
