-- What load does: document 01's refusals change nothing, and an accepted load leaves a whole area with counters 0 and 0, an empty trail,
-- and exactly the merged theory of the columns; words past the need are not touched.
use Rattle.std.specs.Prelude.{◌≡◌, List, [], ℕ, length, drop}
use Rattle.types.specs.declared.Limits.{Limits}
use Rattle.book.specs.Book.{rules_of}
use Rattle.area.specs.Layout.{atoms_of, level_of, rows_of, theory_of}
use Rattle.area.specs.Whole.{Whole}
use Rattle.columns.specs.Columns.{Columns, all_written, sentences_in}
use Rattle.columns.specs.Refusals.{columns_need, load_answer}
use Rattle.columns.specs.declared.Answer.{Answer}

pub record Loaded (lim : Limits) (w w' : List ℕ) (n : ℕ) (c : Columns) : Type 0 where
  pub whole : Whole lim w' (record { length_is = 0; level_is = 0 })
  pub atoms : atoms_of w' ≡ n
  pub theory : theory_of w' ≡ rules_of (sentences_in (all_written c))
  pub rows : rows_of w' ≡ []
  pub level : level_of w' ≡ 0
  pub size : length w' ≡ length w
  pub rest : drop (columns_need n c) w' ≡ drop (columns_need n c) w

-- w and w' are the words before and after
pub record Loads (lim : Limits) (w w' : List ℕ) (n : ℕ) (c : Columns) (r : Answer) : Type 0 where
  pub answer_is : r ≡ load_answer lim (length w) n c
  pub refused : ¬ (r.code ≡ 0) → w' ≡ w
  pub accepted : r.code ≡ 0 → Loaded lim w w' n c
