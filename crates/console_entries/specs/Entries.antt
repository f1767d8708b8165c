-- The entries that words are, two by two: W L W L ..
use Rattle.std.specs.Prelude.{Bool, true, false, cond, ◌&&◌, List, [], ◌∷◌, map, ℕ, ℤ, length, drop, Option, Some, None, is_some}
use Rattle.console_words.specs.Numbers.{signed_of}
use Rattle.console_words.specs.Words.{Word, words}
use Rattle.meaning.specs.Meaning.{Entry}

-- an entry before others, where both words are numbers
abbrev pub entry : Option ℤ → Option ℤ → List Entry → List Entry
entry (Some w) (Some l) es = record { weight = w; literal = l } ∷ es
entry (Some w) None es = []
entry None l es = []

-- the entries that the words begin with
unfoldable pub entries_of : List Word → List Entry
entries_of [] = []
entries_of (w ∷ []) = []
entries_of (w ∷ l ∷ ws) = entry (signed_of w) (signed_of l) (entries_of ws)

-- the words are entries, all of them
unfoldable pub all_entries : List Word → Bool
all_entries [] = true
all_entries (w ∷ []) = false
all_entries (w ∷ l ∷ ws) = is_some (signed_of w) && is_some (signed_of l) && all_entries ws

abbrev pub entry_count : List Word → Option ℕ
entry_count ws = cond (all_entries ws) (Some (length (entries_of ws))) None

-- the entries of a rule's line: the words behind its name, head, kind, side and bound
abbrev pub entries_in : List ℕ → List Entry
entries_in line = entries_of (drop 5 (words line))

abbrev pub weights_in : List ℕ → List ℤ
weights_in line = map (λ (e : Entry). e.weight) (entries_in line)

abbrev pub literals_in : List ℕ → List ℤ
literals_in line = map (λ (e : Entry). e.literal) (entries_in line)
