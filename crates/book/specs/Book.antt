-- The book of document 01: load's N and sentences as written, a level and rows. It is fed the calls with their arguments and the
-- lengths of their lists and of the area, and no word out of the area. Its answers are the table's, for sentences judged by full
-- assignments.
use Rattle.std.specs.Prelude.{◌≡◌, Bool, not, ◌&&◌, List, [], ◌∷◌, map, ℕ, ◌+◌, ◌*◌, ◌≤◌, max, length, ℤ, eqb, leb}
use Rattle.numbers.specs.Extended.{up, down}
use Rattle.meaning.specs.Meaning.{Sentence, Consistent, Furthest, Says, Each, Admissible, entry_atom}
use Rattle.meaning.specs.Merge.{Rule, rule_of, scope}
use Rattle.meaning.specs.Computed.{extreme, first_said}
use Rattle.types.specs.declared.Limits.{Limits}
use Rattle.book.specs.Rows.{Row}
use Rattle.book.specs.Table.{Call, Answer, Judged, State, Outcome, reply}

-- ---- the sentences that the book may hold: atoms are 1 to N

pub record WellFormed (n : ℕ) (s : Sentence) : Type 0 where
  pub head_low : 1 ≤ s.head
  pub head_high : s.head ≤ n
  pub atoms_high : Each (λ e. entry_atom e ≤ n) s.entries
  pub admissible : Admissible s

-- ---- judged by full assignments

-- what is said and the bounds are those over the full assignments that agree with the trail
pub record Judges (s : Sentence) (j : Judged) : Type 0 where
  pub scope_is : j.scope ≡ scope (rule_of s)
  pub said : (t : List ℤ) → Consistent t → Says s t j.scope (j.says t)
  pub least_is : (t : List ℤ) → Consistent t → Furthest down s t (j.least t)
  pub greatest_is : (t : List ℤ) → Consistent t → Furthest up s t (j.greatest t)

-- a judgement of every sentence, and one that is right for each that the book may hold
abbrev pub Judgement : Type 0
Judgement = Sentence → Judged

abbrev pub Judging : Judgement → Type 0
Judging j = (n : ℕ) (s : Sentence) → WellFormed n s → Judges s (j s)

-- ---- judged by computed tests on a stored rule

abbrev pub judged_by : Rule → Judged
judged_by r = record { scope = scope r; says = first_said r; least = extreme down r; greatest = extreme up r }

abbrev pub computed : Judgement
computed s = judged_by (rule_of s)

abbrev pub judged_all : List Rule → List Judged
judged_all [] = []
judged_all (r ∷ rs) = judged_by r ∷ judged_all rs

abbrev pub rules_of : List Sentence → List Rule
rules_of [] = []
rules_of (s ∷ ss) = rule_of s ∷ rules_of ss

-- ---- the book

pub record Book : Type 0 where
  pub atoms : ℕ
  pub sentences : List Sentence
  pub level : ℕ
  pub rows : List Row

abbrev pub fresh : ℕ → List Sentence → Book
fresh n ss = record { atoms = n; sentences = ss; level = 0; rows = [] }

pub record Counters : Type 0 where
  pub length_is : ℕ
  pub level_is : ℕ

abbrev pub counters_with : ℕ → ℕ → Counters
counters_with len level = record { length_is = len; level_is = level }

abbrev pub entries_written : List Sentence → ℕ
entries_written [] = 0
entries_written (s ∷ ss) = length s.entries + entries_written ss

-- the words that the work area needs
abbrev pub need : ℕ → List Sentence → ℕ
need n ss = 4 * n + 8 * length ss + 2 * entries_written ss

-- a call, with the length of the area and the counters that it gets
pub record Asked : Type 0 where
  pub call : Call
  pub size : ℕ
  pub counters : Counters

abbrev pub fits : Book → ℕ → Counters → Bool
fits b size c = (eqb c.length_is (length b.rows) && eqb c.level_is b.level) && leb (need b.atoms b.sentences) size

-- the book as a state of the table, for sentences judged so
abbrev pub book_state : Limits → Judgement → Book → ℕ → Counters → State
book_state lim j b size c =
    record { broken = not (fits b size c); atoms = b.atoms; levels = lim.levels; sentences = map j b.sentences; level = b.level; rows = b.rows }

abbrev pub outcome_of : Limits → Judgement → Book → Asked → Outcome
outcome_of lim j b a = reply (book_state lim j b a.size a.counters) a.call

-- the sentences after a call and its answer, whatever stands for a sentence: no call of document 01 changes them
module _ {A : Type 0} (stored : Sentence → A) where
  abbrev pub theory_after : Call → Answer → List A → List A
  theory_after x a ts = ts

abbrev pub after : Book → Call → Outcome → Book
after b x o = record { atoms = b.atoms; sentences = theory_after (λ s. s) x o.answer b.sentences; level = o.level; rows = o.rows }

abbrev pub book_next : Limits → Judgement → Book → Asked → Book
book_next lim j b a = after b a.call (outcome_of lim j b a)

-- the answers to a list of calls, the first call first
unfoldable pub answers : Limits → Judgement → Book → List Asked → List Answer
answers lim j b [] = []
answers lim j b (a ∷ rest) = (outcome_of lim j b a).answer ∷ answers lim j (book_next lim j b a) rest

-- the book after them
unfoldable pub book_after : Limits → Judgement → Book → List Asked → Book
book_after lim j b [] = b
book_after lim j b (a ∷ rest) = book_after lim j (book_next lim j b a) rest

-- the most words that the book needed before, between and after them
unfoldable pub most_needed : Limits → Judgement → Book → List Asked → ℕ
most_needed lim j b [] = need b.atoms b.sentences
most_needed lim j b (a ∷ rest) = max (need b.atoms b.sentences) (most_needed lim j (book_next lim j b a) rest)
