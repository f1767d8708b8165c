-- What load is handed: columns of plain numbers, and the sentences that they hold.
use Rattle.std.specs.Prelude.{List, [], ◌∷◌, ℕ, zero, suc, ◌+◌, ℤ, pos, length, get_or}
use Rattle.std.proofs.Math.Seq.{slice}
use Rattle.decide.specs.Below.{sum_first}
use Rattle.meaning.specs.Meaning.{Entry, Sentence}
use Rattle.area.specs.Layout.{kind_of, side_of}
use Rattle.columns.specs.declared.Columns as lent
use Rattle.columns.specs.declared.SentenceColumns as lent_sentence

-- one number a sentence in the first five columns, one an entry in the last two
pub record Columns : Type 0 where
  pub heads : List ℕ
  pub kinds : List ℕ
  pub sides : List ℕ
  pub bounds : List ℤ
  pub counts : List ℕ
  pub weights : List ℤ
  pub literals : List ℤ

abbrev pub seven_columns : List ℕ → List ℕ → List ℕ → List ℤ → List ℕ → List ℤ → List ℤ → Columns
seven_columns heads kinds sides bounds counts weights literals =
    record { heads = heads; kinds = kinds; sides = sides; bounds = bounds; counts = counts; weights = weights; literals = literals }

-- the columns that are lent
abbrev pub held : lent.Columns → Columns
held c = seven_columns c.heads.now c.kinds.now c.sides.now c.bounds.now c.counts.now c.weights.now c.literals.now

-- a sentence as written, before its numbers are looked at
pub record Written : Type 0 where
  pub head : ℕ
  pub kind : ℕ
  pub side : ℕ
  pub bound : ℤ
  pub entries : List Entry

-- weight i goes with literal i
unfoldable pub paired : List ℤ → List ℤ → List Entry
paired [] ls = []
paired (w ∷ ws) [] = []
paired (w ∷ ws) (l ∷ ls) = record { weight = w; literal = l } ∷ paired ws ls

abbrev pub written_as : ℕ → ℕ → ℕ → ℤ → List ℤ → List ℤ → Written
written_as head kind side bound weights literals = record { head = head; kind = kind; side = side; bound = bound; entries = paired weights literals }

-- the sentence that is lent
abbrev pub held_sentence : lent_sentence.SentenceColumns → Written
held_sentence x = written_as x.head x.kind x.side x.bound x.weights.now x.literals.now

-- the part of an entry column that belongs to sentence s, from 0: behind the entries of the sentences before it
abbrev pub part : Columns → ℕ → List ℤ → List ℤ
part c s column = slice (sum_first c.counts s) (sum_first c.counts s + get_or c.counts s 0) column

abbrev pub written_at : Columns → ℕ → Written
written_at c s =
    written_as (get_or c.heads s 0) (get_or c.kinds s 0) (get_or c.sides s 0) (get_or c.bounds s (pos 0)) (part c s c.weights) (part c s c.literals)

-- k sentences from sentence s on
unfoldable pub written_from : Columns → ℕ → ℕ → List Written
written_from c s zero = []
written_from c s (suc k) = written_at c s ∷ written_from c (suc s) k

abbrev pub all_written : Columns → List Written
all_written c = written_from c 0 (length c.heads)

-- as a sentence of the meaning, by document 01's numbers for kinds and sides
abbrev pub sentence_of : Written → Sentence
sentence_of x = record { head = x.head; kind = kind_of x.kind; side = side_of x.side; bound = x.bound; entries = x.entries }

unfoldable pub sentences_in : List Written → List Sentence
sentences_in [] = []
sentences_in (x ∷ xs) = sentence_of x ∷ sentences_in xs
