-- Document 01's examples M11 and M12 as lists of calls from an accepted load, with refused calls among them: every call with the words
-- that it gets and what it hands back, word for word. proofs/Lists.antt shows that the public contracts allow both lists.
use Rattle.std.specs.Prelude.{◌≡◌, List, [], ◌∷◌, ℕ, zero, suc, length, take, ℤ, pos}
use Rattle.types.specs.Limits.{document}
use Rattle.types.specs.declared.Counters.{Counters}
use Rattle.meaning.specs.Meaning.{Sentence}
use Rattle.meaning.specs.Examples.{minus}
use Rattle.book.specs.Table.{Step, give, open_level, take_back, propagate, search, Report, bounds, explain, explain_conflict, origin, list_trail, Call, a_step, a_report, Returned}
use Rattle.propagate.specs.Propagate.{plain}
use Rattle.columns.specs.Columns.{Columns, seven_columns, all_written, sentences_in}
use Rattle.columns.specs.declared.Answer.{Answer}
use Rattle.load.specs.Load.{Loads}
use Rattle.history.specs.History.{Event, Calls}

-- ---- a list of calls from an accepted load

abbrev pub counters_at : (length level : ℕ) → Counters
counters_at n v = record { length = n; level = record { 0 = v } }

abbrev pub load_done : Answer
load_done = record { code = 0; sentence = record { 0 = 0 } }

-- load gets the words w₀ and n atoms, leaves the words w and the sentences ss; the calls lead from there to the words w' and counters c
pub record FromLoad (w₀ w : List ℕ) (n : ℕ) (cs : Columns) (ss : List Sentence) (es : List Event) (w' : List ℕ) (c : Counters) : Type 0 where
  pub loads : Loads document w₀ w n cs load_done
  pub sentences : sentences_in (all_written cs) ≡ ss
  pub calls : Calls document w (counters_at 0 0) es w' c

-- ---- a call: the words that it gets, and what it is asked and hands back

pub record Turn : Type 0 where
  pub words : List ℕ
  pub event : Event

abbrev pub events : List Turn → List Event
events [] = []
events (x ∷ xs) = x.event ∷ events xs

-- on the words, with the counters (length, level) and the lent list before and after
abbrev pub turn : List ℕ → (length level : ℕ) → Call → Returned → (old new : List ℤ) → Turn
turn w n v x p old new = record {
  words = w;
  event = record { asked = record { call = x; size = length w; counters = record { length_is = n; level_is = v } }; numbers = p; old = old; new = new };
}

abbrev pub asks : List ℕ → (length level : ℕ) → Step → Returned → Turn
asks w n v x p = turn w n v (a_step x) p [] []

abbrev pub asks_list : List ℕ → (length level : ℕ) → Report → Returned → (old new : List ℤ) → Turn
asks_list w n v x p old new = turn w n v (a_report x (length old)) p old new

abbrev pub asks_bounds : List ℕ → (length level k : ℕ) → Returned → Turn
asks_bounds w n v k p = asks_list w n v (bounds k) p [] []

-- a lent list of k numbers 7
abbrev pub sevens : ℕ → List ℤ
sevens zero = []
sevens (suc k) = pos 7 ∷ sevens k

-- two bounds, both numbers
abbrev pub spans : (least greatest : ℕ) → Returned
spans v w = record { code = 0; value = 0; sentence = 0; gone = 0; least_mark = 0; least = pos v; greatest_mark = 0; greatest = pos w }

-- a search that ended in no conflict
abbrev pub seeks : (derived gone : ℕ) → Returned
seeks d g = record { code = 0; value = d; sentence = 0; gone = g; least_mark = 0; least = pos 0; greatest_mark = 0; greatest = pos 0 }

-- the word past the need, in both examples
abbrev pub spare : List ℕ
spare = 7 ∷ []

-- ---- M11, and M5's conflict on its way: 3 atoms, on 25 words, one more than the need

-- the sentence's words: head, tag, bound, constant; least, greatest, entries before it, counts; two entries; and the word past the need
abbrev pub m4_words : (tag least greatest : ℕ) → List ℕ
m4_words tag least greatest =
    3 ∷ tag ∷ 4611686018427387905 ∷ 4611686018427387904 ∷ least ∷ greatest ∷ 0 ∷ 131074
    ∷ 4611686018427387905 ∷ 2 ∷ 4611686018427387906 ∷ 4 ∷ spare

-- before them word 0 and two unused, the values, the trail's literals and its marks. What load leaves
abbrev pub m11_loaded : List ℕ
m11_loaded = 65539 ∷ 0 ∷ 0 ∷ 0 ∷ 0 ∷ 0 ∷ 0 ∷ 0 ∷ 0 ∷ 0 ∷ 0 ∷ 0 ∷ m4_words 24 4611686018427387904 4611686018427387907

-- 3 is given
abbrev pub m11_one : List ℕ
m11_one = 4295032835 ∷ 0 ∷ 0 ∷ 0 ∷ 0 ∷ 1 ∷ 6 ∷ 0 ∷ 0 ∷ 0 ∷ 0 ∷ 0 ∷ m4_words 24 4611686018427387904 4611686018427387907

-- and 1, both at level 0; taking back leaves these words again
abbrev pub m11_two : List ℕ
m11_two = 8590000131 ∷ 0 ∷ 0 ∷ 3 ∷ 0 ∷ 1 ∷ 6 ∷ 2 ∷ 0 ∷ 0 ∷ 0 ∷ 0 ∷ m4_words 24 4611686018427387905 4611686018427387907

-- level 1 is open
abbrev pub m11_opened : List ℕ
m11_opened = 281483566710787 ∷ 0 ∷ 0 ∷ 3 ∷ 0 ∷ 1 ∷ 6 ∷ 2 ∷ 0 ∷ 0 ∷ 0 ∷ 0 ∷ m4_words 24 4611686018427387905 4611686018427387907

-- -2 is derived there
abbrev pub m11_derived : List ℕ
m11_derived = 281487861678083 ∷ 0 ∷ 0 ∷ 3 ∷ 6 ∷ 1 ∷ 6 ∷ 2 ∷ 5 ∷ 0 ∷ 0 ∷ 8590000129 ∷ m4_words 8 4611686018427387905 4611686018427387905

-- or 2 is given there, against the sentence
abbrev pub m11_against : List ℕ
m11_against = 281487861678083 ∷ 0 ∷ 0 ∷ 3 ∷ 5 ∷ 1 ∷ 6 ∷ 2 ∷ 4 ∷ 0 ∷ 0 ∷ 1 ∷ m4_words 24 4611686018427387907 4611686018427387907

-- -2 is derived again, at level 0
abbrev pub m11_again : List ℕ
m11_again = 12884967427 ∷ 0 ∷ 0 ∷ 3 ∷ 6 ∷ 1 ∷ 6 ∷ 2 ∷ 5 ∷ 0 ∷ 0 ∷ 8590000128 ∷ m4_words 8 4611686018427387905 4611686018427387905

abbrev pub m11_turns : List Turn
m11_turns =
    asks m11_loaded 0 0 (give (pos 3)) (plain 0 0 0)
    -- its atom is on the trail; and the counters of the first call once more
    ∷ asks m11_one 1 0 (give (minus 3)) (plain 11 0 0)
    ∷ asks m11_one 0 0 (give (pos 1)) (plain 9 0 0)
    ∷ asks m11_one 1 0 (give (pos 1)) (plain 0 0 0)
    ∷ asks m11_two 2 0 open_level (plain 0 0 0)
    -- on an area cut to just its need
    ∷ asks (take 24 m11_opened) 2 1 propagate (plain 0 1 0)
    ∷ asks_list m11_derived 3 1 list_trail (plain 0 9 0) (sevens 9) (pos 3 ∷ pos 0 ∷ pos 0 ∷ pos 1 ∷ pos 0 ∷ pos 0 ∷ minus 2 ∷ pos 1 ∷ pos 1 ∷ [])
    ∷ asks_list m11_derived 3 1 (explain (minus 2)) (plain 0 3 0) (sevens 4) (minus 2 ∷ minus 3 ∷ minus 1 ∷ pos 7 ∷ [])
    -- a list too short for the two origins; the area cut below its need; a level above the current one
    ∷ asks_list m11_derived 3 1 (origin (minus 2)) (plain 18 2 0) (sevens 1) (sevens 1)
    ∷ asks (take 23 m11_derived) 3 1 (take_back 0) (plain 9 0 0)
    ∷ asks m11_derived 3 1 (take_back 2) (plain 15 0 0)
    ∷ asks m11_derived 3 1 (take_back 0) (plain 0 0 0)
    ∷ asks_bounds m11_two 2 0 1 (spans 1 3)
    -- to the current level
    ∷ asks m11_two 2 0 (take_back 0) (plain 0 0 0)
    ∷ asks m11_two 2 0 open_level (plain 0 0 0)
    ∷ asks m11_opened 2 1 (give (pos 2)) (plain 0 0 0)
    ∷ asks m11_against 3 1 propagate (plain 0 0 1)
    ∷ asks_list m11_against 3 1 (explain_conflict 1) (plain 0 3 0) (sevens 3) (minus 3 ∷ minus 1 ∷ minus 2 ∷ [])
    ∷ asks m11_against 3 1 (take_back 0) (plain 0 0 0)
    ∷ asks m11_two 2 0 propagate (plain 0 1 0)
    ∷ asks_list m11_again 3 0 list_trail (plain 0 9 0) (sevens 9) (pos 3 ∷ pos 0 ∷ pos 0 ∷ pos 1 ∷ pos 0 ∷ pos 0 ∷ minus 2 ∷ pos 0 ∷ pos 1 ∷ [])
    ∷ asks_list m11_again 3 0 (origin (minus 2)) (plain 0 2 0) (sevens 3) (pos 3 ∷ pos 1 ∷ pos 7 ∷ [])
    ∷ []

-- ---- M12: 2 atoms and two sentences in a ring, on 29 words, one more than the need

abbrev pub ring_columns : Columns
ring_columns =
    seven_columns (1 ∷ 2 ∷ []) (0 ∷ 0 ∷ []) (0 ∷ 0 ∷ []) (pos 1 ∷ pos 1 ∷ []) (1 ∷ 1 ∷ []) (pos 1 ∷ pos 1 ∷ []) (pos 2 ∷ pos 1 ∷ [])

-- both sentences' words, their entries, and the word past the need
abbrev pub ring_words : (tag least-of-1 least-of-2 : ℕ) → List ℕ
ring_words tag v w =
    1 ∷ tag ∷ 4611686018427387905 ∷ 4611686018427387904 ∷ v ∷ 4611686018427387905 ∷ 0 ∷ 65537
    ∷ 2 ∷ tag ∷ 4611686018427387905 ∷ 4611686018427387904 ∷ w ∷ 4611686018427387905 ∷ 1 ∷ 65537
    ∷ 4611686018427387905 ∷ 4 ∷ 4611686018427387905 ∷ 2 ∷ spare

abbrev pub m12_loaded : List ℕ
m12_loaded = 131074 ∷ 0 ∷ 0 ∷ 0 ∷ 0 ∷ 0 ∷ 0 ∷ 0 ∷ ring_words 16 4611686018427387904 4611686018427387904

-- a search for 1 and -2: at level 1 the one is given and 2 derived. Taking back leaves load's words again
abbrev pub m12_searched : List ℕ
m12_searched = 281483566776322 ∷ 0 ∷ 1 ∷ 3 ∷ 2 ∷ 4 ∷ 1 ∷ 4295032833 ∷ ring_words 0 4611686018427387905 4611686018427387905

-- 1 is given
abbrev pub m12_given : List ℕ
m12_given = 4295098370 ∷ 0 ∷ 1 ∷ 0 ∷ 2 ∷ 0 ∷ 0 ∷ 0 ∷ ring_words 16 4611686018427387904 4611686018427387905

-- 2 is derived
abbrev pub m12_derived : List ℕ
m12_derived = 8590065666 ∷ 0 ∷ 1 ∷ 3 ∷ 2 ∷ 4 ∷ 0 ∷ 4295032832 ∷ ring_words 0 4611686018427387905 4611686018427387905

abbrev pub m12_turns : List Turn
m12_turns =
    asks m12_loaded 0 0 (search (pos 1 ∷ minus 2 ∷ [])) (seeks 1 2)
    ∷ asks m12_searched 2 1 (take_back 0) (plain 0 0 0)
    -- on an area cut to just its need, as the list of the trail
    ∷ asks (take 28 m12_loaded) 0 0 (give (pos 1)) (plain 0 0 0)
    ∷ asks m12_given 1 0 propagate (plain 0 1 0)
    ∷ asks_list (take 28 m12_derived) 2 0 list_trail (plain 0 6 0) (sevens 6) (pos 1 ∷ pos 0 ∷ pos 0 ∷ pos 2 ∷ pos 0 ∷ pos 1 ∷ [])
    ∷ asks_list m12_derived 2 0 (explain (pos 2)) (plain 0 2 0) (sevens 2) (pos 2 ∷ minus 1 ∷ [])
    -- the literal was given; a list too short
    ∷ asks_list m12_derived 2 0 (explain (pos 1)) (plain 13 0 0) (sevens 2) (sevens 2)
    ∷ asks_list m12_derived 2 0 (origin (pos 2)) (plain 18 1 0) (sevens 0) (sevens 0)
    ∷ asks_list m12_derived 2 0 (origin (pos 2)) (plain 0 1 0) (sevens 1) (pos 1 ∷ [])
    -- the area cut below its need; no conflict; no such sentence
    ∷ asks_list (take 27 m12_derived) 2 0 (origin (pos 2)) (plain 9 0 0) (sevens 1) (sevens 1)
    ∷ asks_list m12_derived 2 0 (explain_conflict 1) (plain 17 0 0) (sevens 1) (sevens 1)
    ∷ asks_bounds m12_derived 2 0 3 (plain 16 0 0)
    ∷ asks_bounds m12_derived 2 0 2 (spans 1 1)
    ∷ asks m12_derived 2 0 propagate (plain 0 0 0)
    ∷ []
