-- What the functions that split the next number and the next entry off a line promise.
use Rattle.std.specs.Prelude.{false, List, [], ◌∷◌, ◌≡◌, ◌≢◌, ℕ, ◌<◌, ℤ, length, Some, None}
use Rattle.console_entries.specs.Entries.{entries_of, all_entries}
use Rattle.console_words.specs.Numbers.{signed_of}
use Rattle.console_words.specs.Words.{Word, words}

-- the next word is this number, and the rest stands behind it
pub record SplitsNumber (line : List ℕ) (z : ℤ) (rest : List ℕ) : Type 0 where
  pub word : Word
  pub words_are : words line ≡ word ∷ words rest
  pub number_is : signed_of word ≡ Some z
  pub shorter : length rest < length line

-- there is no word, or the next is no number
abbrev pub NoNumber : List ℕ → Type 0
NoNumber line = (w : Word) (ws : List Word) → words line ≡ w ∷ ws → signed_of w ≡ None

-- the next two words are this entry, and the rest stands behind it
pub record SplitsEntry (line : List ℕ) (w l : ℤ) (rest : List ℕ) : Type 0 where
  pub shorter : length rest < length line
  pub entries_are : entries_of (words line) ≡ record { weight = w; literal = l } ∷ entries_of (words rest)
  pub all_are : all_entries (words line) ≡ all_entries (words rest)

-- there is no word, or the next words are no entry
pub record NoEntry (line : List ℕ) : Type 0 where
  pub entries_are : entries_of (words line) ≡ []
  pub all_are : words line ≢ [] → all_entries (words line) ≡ false
