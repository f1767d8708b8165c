-- The words of a line: its runs of bytes that are not space, tab or CR.
use Rattle.std.specs.Prelude.{Bool, cond, ◌||◌, List, [], ◌∷◌, ◌++◌, ℕ, eqb}

abbrev pub Word : Type 0
Word = List ℕ

abbrev pub blank : ℕ → Bool
blank b = eqb b 32 || eqb b 9 || eqb b 13

-- a run before other words; an empty one is no word
abbrev pub run : Word → List Word → List Word
run [] ws = ws
run (b ∷ w) ws = (b ∷ w) ∷ ws

-- the words of the rest of a line, behind the run `w`
unfoldable pub words_from : Word → List ℕ → List Word
words_from w [] = run w []
words_from w (b ∷ bs) = cond (blank b) (run w (words_from [] bs)) (words_from (w ++ (b ∷ [])) bs)

abbrev pub words : List ℕ → List Word
words line = words_from [] line
