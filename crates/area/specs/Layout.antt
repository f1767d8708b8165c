-- The layout of the work area: where each thing stands, and what is read off any list of words. With N atoms, S sentences and E written
-- entries it takes 4 × N + 8 × S + 2 × E words, and every packed field has room for 4,096 atoms, 1,024 sentences and 4,096 levels.
--   0                   N + 2^16 × S + 2^32 × length + 2^48 × level
--   1 .. N-1            0
--   N + (a-1)           value of atom a: 0 open, else 1 + 2 × its position on the trail, and one more where it is false
--   2N + i              trail literal i (2 × atom, and one more where negative); 0 past the length
--   3N + i              its level + 2^16 × reason + 2^32 × where the reason has its atom (0 head, j for merged entry j from 1);
--                       0 past the length
--   4N + 8s ..          sentence s: head; kind + 8 × side + 16 × pending; bound; constant; least; greatest; entries before it;
--                       written + 2^16 × merged entries
--   4N + 8S + 2j ..     entry j: weight, literal; the merged ones first in each sentence's room, 0 behind them
use Rattle.std.specs.Prelude.{Bool, cond, List, [], ◌∷◌, ℕ, zero, suc, ◌+◌, ◌-◌, ◌*◌, ◌/◌, ◌%◌, length, get_or, ℤ, pos, negsuc, eqb, leb}
use Rattle.std.proofs.Math.Seq.{slice}
use Rattle.numbers.specs.Words.{unbias, literal_of}
use Rattle.meaning.specs.Meaning.{atom, Entry, Kind, sum, product, count, maximum, minimum, Side, lower, upper}
use Rattle.meaning.specs.Merge.{Rule}
use Rattle.meaning.specs.Computed.{Standing, free, fixed}
use Rattle.book.specs.Rows.{Row}
pub use Rattle.kinds.specs.Kinds.{kind_of}

abbrev pub word : List ℕ → ℕ → ℕ
word w i = get_or w i 0

-- ---- word 0

abbrev pub atoms_of : List ℕ → ℕ
atoms_of w = word w 0 % 65536

abbrev pub sentences_of : List ℕ → ℕ
sentences_of w = word w 0 / 65536 % 65536

abbrev pub length_of : List ℕ → ℕ
length_of w = word w 0 / 4294967296 % 65536

abbrev pub level_of : List ℕ → ℕ
level_of w = word w 0 / 281474976710656

-- ---- the trail of an area of n atoms

-- of an atom 1 to n
abbrev pub value_at : List ℕ → ℕ → ℕ → ℕ
value_at w n a = word w (n - 1 + a)

abbrev pub literal_at : List ℕ → ℕ → ℕ → ℕ
literal_at w n i = word w (2 * n + i)

-- level, reason and its place in the reason
abbrev pub cause_at : List ℕ → ℕ → ℕ → ℕ
cause_at w n i = word w (3 * n + i)

abbrev pub row_at : List ℕ → ℕ → ℕ → Row
row_at w n i = record { literal = literal_of (literal_at w n i); level = cause_at w n i % 65536; reason = cause_at w n i / 65536 % 65536 }

abbrev pub place_at : List ℕ → ℕ → ℕ → ℕ
place_at w n i = cause_at w n i / 4294967296

-- the first k rows, the last put on first
unfoldable pub rows_from : List ℕ → ℕ → ℕ → List Row
rows_from w n zero = []
rows_from w n (suc k) = row_at w n k ∷ rows_from w n k

abbrev pub rows_of : List ℕ → List Row
rows_of w = rows_from w (atoms_of w) (length_of w)

-- the value word of an atom, as the rows have it
abbrev pub sign : ℤ → ℕ
sign (pos a) = 0
sign (negsuc a) = 1

unfoldable pub value_word : List Row → ℕ → ℕ
value_word [] a = 0
value_word (r ∷ rs) a = cond (eqb (atom r.literal) a) (1 + 2 * length rs + sign r.literal) (value_word rs a)

-- how the word's atom stands: 0 open, odd true, even false
abbrev pub standing_word : ℕ → Standing
standing_word v = cond (eqb v 0) free (fixed (eqb (v % 2) 1))

-- ---- sentence s of n atoms, from 0; `b` is where its eight words start

abbrev pub record_at : ℕ → ℕ → ℕ
record_at n s = 4 * n + 8 * s

abbrev pub head_at : List ℕ → ℕ → ℕ
head_at w b = word w b

-- kind + 8 × side + 16 × pending
abbrev pub tag_at : List ℕ → ℕ → ℕ
tag_at w b = word w (b + 1)

abbrev pub pending_at : List ℕ → ℕ → Bool
pending_at w b = leb 16 (tag_at w b)

-- the kind's number
abbrev pub kind_at : List ℕ → ℕ → ℕ
kind_at w b = tag_at w b % 8

-- the sentence says value ≤ bound
abbrev pub upper_at : List ℕ → ℕ → Bool
upper_at w b = eqb (tag_at w b / 8 % 2) 1

abbrev pub bound_at : List ℕ → ℕ → ℕ
bound_at w b = word w (b + 2)

abbrev pub constant_at : List ℕ → ℕ → ℕ
constant_at w b = word w (b + 3)

abbrev pub least_at : List ℕ → ℕ → ℕ
least_at w b = word w (b + 4)

abbrev pub greatest_at : List ℕ → ℕ → ℕ
greatest_at w b = word w (b + 5)

abbrev pub before_at : List ℕ → ℕ → ℕ
before_at w b = word w (b + 6)

abbrev pub written_at : List ℕ → ℕ → ℕ
written_at w b = word w (b + 7) % 65536

abbrev pub merged_at : List ℕ → ℕ → ℕ
merged_at w b = word w (b + 7) / 65536

-- document 01's numbers of the sides
abbrev pub side_of : ℕ → Side
side_of zero = lower
side_of (suc k) = upper

-- only sums and counts have a constant; the word of the others is unused
abbrev pub constant_of : Kind → ℕ → ℤ
constant_of sum x = unbias x
constant_of product x = pos 0
constant_of count x = unbias x
constant_of maximum x = pos 0
constant_of minimum x = pos 0

-- the entry of two words: weight, literal
abbrev pub entry_of : ℕ → ℕ → Entry
entry_of x l = record { weight = unbias x; literal = literal_of l }

-- entries, from their words
unfoldable pub entries_of : List ℕ → List Entry
entries_of [] = []
entries_of (x ∷ []) = []
entries_of (x ∷ l ∷ rest) = entry_of x l ∷ entries_of rest

-- where the entries of the sentence at b start, S sentences in all
abbrev pub entry_at : List ℕ → ℕ → ℕ → ℕ → ℕ
entry_at w n S b = 4 * n + 8 * S + 2 * before_at w b

-- of entry j of the sentence at b, from 0
abbrev pub weight_at : List ℕ → ℕ → ℕ → ℕ → ℕ → ℕ
weight_at w n S b j = word w (entry_at w n S b + 2 * j)

abbrev pub entry_literal_at : List ℕ → ℕ → ℕ → ℕ → ℕ → ℕ
entry_literal_at w n S b j = word w (entry_at w n S b + 2 * j + 1)

-- of entry j of those whose words start at `start`
abbrev pub weight_in : List ℕ → ℕ → ℕ → ℕ
weight_in w start j = word w (start + 2 * j)

abbrev pub literal_in : List ℕ → ℕ → ℕ → ℕ
literal_in w start j = word w (start + 2 * j + 1)

abbrev pub entry_words : List ℕ → ℕ → ℕ → List ℕ
entry_words w at k = slice at (at + 2 * k) w

abbrev pub rule_at : List ℕ → ℕ → ℕ → ℕ → Rule
rule_at w n S b = record {
  head = head_at w b;
  kind = kind_of (tag_at w b % 8);
  side = side_of (tag_at w b / 8 % 2);
  bound = unbias (bound_at w b);
  set = record { constant = constant_of (kind_of (tag_at w b % 8)) (constant_at w b); entries = entries_of (entry_words w (entry_at w n S b) (merged_at w b)) };
  written = written_at w b;
}

-- k sentences from sentence s on
unfoldable pub rules_from : List ℕ → ℕ → ℕ → ℕ → ℕ → List Rule
rules_from w n S s zero = []
rules_from w n S s (suc k) = rule_at w n S (record_at n s) ∷ rules_from w n S (suc s) k

abbrev pub theory_of : List ℕ → List Rule
theory_of w = rules_from w (atoms_of w) (sentences_of w) 0 (sentences_of w)

-- how many entries the first s sentences were written with
unfoldable pub entries_before : List ℕ → ℕ → ℕ → ℕ
entries_before w n zero = 0
entries_before w n (suc s) = entries_before w n s + written_at w (record_at n s)

-- the words that the area needs
abbrev pub need_of : List ℕ → ℕ
need_of w = 4 * atoms_of w + 8 * sentences_of w + 2 * entries_before w (atoms_of w) (sentences_of w)
