-- The sentences that a work area stores, for what the public calls mean on any whole area, reached by calls or not.
use Rattle.std.specs.Prelude.{◌≡◌, List, map, ℕ}
use Rattle.meaning.specs.Meaning.{Sentence, Each}
use Rattle.meaning.specs.Merge.{as_sentence}
use Rattle.book.specs.Book.{rules_of, WellFormed}
use Rattle.area.specs.Layout.{theory_of}

-- its rules, each as a sentence of its own; or well_formed sentences whose merges these are
pub data Stores (w : List ℕ) : List Sentence → Type 0 where
  as_rules : Stores w (map as_sentence (theory_of w))
  as_written : (n : ℕ) (ss : List Sentence) → Each (WellFormed n) ss → theory_of w ≡ rules_of ss → Stores w ss
