-- The lines in which a program prints what the library answers: the bytes for every answer, over the paper's numbers (`Returned`) that the
-- call hands back and, of a list call, the lent list after it.
use Rattle.std.specs.Prelude.{cond, List, [], ◌∷◌, ◌++◌, ℕ, zero, suc, ◌+◌, ◌*◌, ◌/◌, length, take, get_or, ℤ, pos, eqb, Result, Ok, Err}
use Rattle.numbers.specs.Text.{bytes, decimal, signed_decimal}
use Rattle.book.specs.Table.{Returned}
use Rattle.columns.specs.declared.Answer as load
use Rattle.propagate.specs.declared.Propagated.{Propagated}
use Rattle.propagate.specs.declared.Propagated.TheVariants.{Still, Conflict}
use Rattle.calls.specs.declared.Refusal.{Refusal}
use Rattle.calls.specs.Refusals.{code_of, value_of}

abbrev pub refused_line : ℕ → ℕ → List ℕ
refused_line code value = bytes "refused " ++ decimal code ++ bytes " " ++ decimal value ++ bytes "\n"

-- ---- load, give, open, take back: the name, the code, and load's sentence

abbrev pub plan_line : load.Answer → List ℕ
plan_line a = bytes "plan " ++ decimal a.code ++ bytes " " ++ decimal a.sentence.0 ++ bytes "\n"

abbrev pub done_line : List ℕ → Returned → List ℕ
done_line name p = name ++ decimal p.code ++ bytes " " ++ decimal 0 ++ bytes "\n"

-- ---- propagate: the literals derived, and the sentence in conflict

abbrev pub still_line : ℕ → List ℕ
still_line count = bytes "still " ++ decimal count ++ bytes "\n"

abbrev pub conflict_line : ℕ → ℕ → List ℕ
conflict_line count sentence = bytes "conflict " ++ decimal count ++ bytes " " ++ decimal sentence ++ bytes "\n"

-- of the code's answer, and of the paper's numbers
abbrev pub stopped_line : Propagated → List ℕ
stopped_line (Still n c) = still_line n
stopped_line (Conflict k n c) = conflict_line n k.0

abbrev pub propagated_line : Result Propagated Refusal → List ℕ
propagated_line (Ok a) = stopped_line a
propagated_line (Err e) = refused_line (code_of e) (value_of e)

abbrev pub stop_line : Returned → List ℕ
stop_line p = cond (eqb p.code 0) (cond (eqb p.sentence 0) (still_line p.value) (conflict_line p.value p.sentence))
    (refused_line p.code p.value)

-- ---- bounds: a number, or an infinite one by its mark

abbrev pub bound : ℕ → ℤ → List ℕ
bound mark z = cond (eqb mark 1) (bytes "-inf") (cond (eqb mark 2) (bytes "inf") (signed_decimal z))

abbrev pub bounds_line : Returned → List ℕ
bounds_line p =
    cond (eqb p.code 0) (bytes "bounds " ++ bound p.least_mark p.least ++ bytes " " ++ bound p.greatest_mark p.greatest ++ bytes "\n")
    (refused_line p.code p.value)

-- ---- lists: a number behind a space, each

unfoldable pub numbers : List ℤ → List ℕ
numbers [] = []
numbers (z ∷ zs) = bytes " " ++ signed_decimal z ++ numbers zs

abbrev pub list_line : List ℕ → Returned → List ℤ → List ℕ
list_line name p list = cond (eqb p.code 0) (name ++ numbers (take p.value list) ++ bytes "\n") (refused_line p.code p.value)

-- ---- the trail: a line for each three numbers, and how many

abbrev pub row_line : ℤ → ℤ → ℤ → List ℕ
row_line literal level reason =
    bytes "t " ++ signed_decimal literal ++ bytes " " ++ signed_decimal level ++ bytes " " ++ signed_decimal reason ++ bytes "\n"

-- the first k
unfoldable pub row_lines : List ℤ → ℕ → List ℕ
row_lines list zero = []
row_lines list (suc k) = row_lines list k ++ row_line (get_or list (3 * k) (pos 0)) (get_or list (3 * k + 1) (pos 0)) (get_or list (3 * k + 2) (pos 0))

abbrev pub trail_lines : Returned → List ℤ → List ℕ
trail_lines p list =
    cond (eqb p.code 0) (row_lines list (length (take p.value list) / 3) ++ bytes "trail " ++ decimal (p.value / 3) ++ bytes "\n")
    (refused_line p.code p.value)

-- ---- no line is longer: a number has at most 20 bytes, and one more for a sign

-- of load, give, open, take back, propagate, bounds: a word of at most 9 bytes, two numbers
abbrev pub line_bytes : ℕ
line_bytes = 9 + 2 * 21

-- of a list of k numbers; a refusal in the worst case
abbrev pub list_bytes : ℕ → ℕ
list_bytes k = 50 + k * 22

abbrev pub trail_bytes : ℕ → ℕ
trail_bytes k = 50 + k / 3 * 68
