-- The limits of a text that is taken.
use Rattle.std.specs.Prelude.{List, ℕ, suc, ◌+◌, ◌≤◌, length}
use Rattle.opb_grammar.specs.Grammar.{atoms_limit, sentences_limit, entries_limit}
use Rattle.opb_text.specs.Text.{Constraint, rows_from, all_entries}

pub record Limits (v : ℕ) (cs : List Constraint) : Type 0 where
  pub some_variable : 1 ≤ v
  pub atoms : v + length cs ≤ atoms_limit
  pub sentences : length (rows_from (suc v) cs) ≤ sentences_limit
  pub entries : length (all_entries (rows_from (suc v) cs)) ≤ entries_limit
