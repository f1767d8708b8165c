-- The lines of the OPB program's listing: a row of the trail, the bounds of a sentence, and those of a whole state.
use Rattle.std.specs.Prelude.{List, [], ◌∷◌, ◌++◌, ℕ, zero, suc, length}
use Rattle.numbers.specs.Text.{bytes, decimal, signed_decimal}
use Rattle.book.specs.Rows.{Row}
use Rattle.book.specs.Table.{bounds, a_report, Returned, returned_by, State, reply}

-- '`t`: literal, level, reason (0 given).'
abbrev pub row_line : Row → List ℕ
row_line r = bytes "t " ++ signed_decimal r.literal ++ bytes " " ++ decimal r.level ++ bytes " " ++ decimal r.reason ++ bytes "\n"

-- '`b`: sentence, least, greatest. Infinite values can't come from OPB.'
abbrev pub bound_line : ℕ → Returned → List ℕ
bound_line sentence p =
    bytes "b " ++ decimal sentence ++ bytes " " ++ signed_decimal p.least ++ bytes " " ++ signed_decimal p.greatest ++ bytes "\n"

-- the trail, oldest first; a state has its last row first
unfoldable pub row_lines : List Row → List ℕ
row_lines [] = []
row_lines (r ∷ rs) = row_lines rs ++ row_line r

-- the bounds of sentences 1 to k
unfoldable pub bound_lines : State → ℕ → List ℕ
bound_lines q zero = []
bound_lines q (suc k) = bound_lines q k ++ bound_line (suc k) (returned_by (reply q (a_report (bounds (suc k)) 0)).answer)

abbrev pub state_lines : State → List ℕ
state_lines q = row_lines q.rows ++ bound_lines q (length q.sentences)
