-- The parts that lines are made of.
use Rattle.std.specs.Prelude.{List, ◌++◌, ℕ, ℤ}
use Rattle.numbers.specs.Text.{bytes, decimal, signed_decimal}

-- a word and a signed number
abbrev pub named : List ℕ → ℤ → List ℕ
named word z = word ++ signed_decimal z

-- a word, a number, and the end of the line
abbrev pub number_line : List ℕ → ℕ → List ℕ
number_line word n = word ++ decimal n ++ bytes "\n"

-- a word, two numbers, and the end of the line
abbrev pub pair_line : List ℕ → ℕ → ℕ → List ℕ
pair_line word m n = word ++ decimal m ++ bytes " " ++ decimal n ++ bytes "\n"
