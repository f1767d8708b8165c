-- Document 01's example M4 as load is handed it (head 3, sum {(1,1),(2,2)} ≤ 1, over 3 atoms), and the 24 words that load leaves for it.
use Rattle.std.specs.Prelude.{List, [], ◌∷◌, ℕ, pos}
use Rattle.columns.specs.Columns.{Columns, seven_columns}

abbrev pub given : Columns
given = seven_columns (3 ∷ []) (0 ∷ []) (1 ∷ []) (pos 1 ∷ []) (2 ∷ []) (pos 1 ∷ pos 2 ∷ []) (pos 1 ∷ pos 2 ∷ [])

-- word 0 and two unused; values; trail literals; their marks; head, tag, bound and constant; least, greatest, entries before it and counts;
-- two entries
abbrev pub area : List ℕ
area =
    65539 ∷ 0 ∷ 0
    ∷ 0 ∷ 0 ∷ 0
    ∷ 0 ∷ 0 ∷ 0
    ∷ 0 ∷ 0 ∷ 0
    ∷ 3 ∷ 24 ∷ 4611686018427387905 ∷ 4611686018427387904
    ∷ 4611686018427387904 ∷ 4611686018427387907 ∷ 0 ∷ 131074
    ∷ 4611686018427387905 ∷ 2 ∷ 4611686018427387906 ∷ 4 ∷ []
