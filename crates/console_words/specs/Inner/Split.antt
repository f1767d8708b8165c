-- What the function that splits the next word off a line promises.
use Rattle.std.specs.Prelude.{List, ◌∷◌, ◌++◌, ◌≡◌, ℕ, ◌+◌, ◌<◌, ◌≤◌, length}
use Rattle.console_words.specs.Words.{Word, words}

-- the next word, and what stands behind it: the line is what is passed over, the word, and the rest
pub record SplitsWord (line : List ℕ) (word : Word) (rest : List ℕ) : Type 0 where
  pub before : List ℕ
  pub line_is : line ≡ before ++ word ++ rest
  pub words_are : words line ≡ word ∷ words rest
  pub some : 0 < length word
  pub fits : length word + length rest ≤ length line
