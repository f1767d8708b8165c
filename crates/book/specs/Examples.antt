-- Document 01's examples M1 to M12, its refusals 9 to 18, and searches, as rows of one list: the sentences, the calls and the answers that must
-- come out. proofs/Examples.antt claims of the list that the book gives these answers, whoever judges by full assignments.
use Rattle.std.specs.Prelude.{◌≡◌, List, [], ◌∷◌, ℕ, ℤ, pos}
use Rattle.numbers.specs.Extended.{below, at, above}
use Rattle.meaning.specs.Meaning.{sum, maximum, lower, upper, Sentence}
use Rattle.meaning.specs.Examples.{minus, ◌on◌, sentence_with, over_none, m1, m3, m4, m8, m9, m10}
use Rattle.types.specs.declared.Limits.{Limits}
use Rattle.types.specs.Limits.{document}
use Rattle.book.specs.Table.{Step, give, open_level, take_back, propagate, search, Report, bounds, explain, explain_conflict, origin, list_trail, Call, a_step, a_report, Result, bounds_of, listed, Answer, refused, done, still, conflict_in, searched, reported, Returned, returned_by, list_after}
use Rattle.book.specs.Book.{Judgement, Judging, fresh, Asked, answers}

pub record Turn : Type 0 where
  pub asked : Asked
  pub answer : Answer

pub record Story : Type 0 where
  pub limits : Limits
  pub atoms : ℕ
  pub sentences : List Sentence
  pub turns : List Turn

abbrev pub calls_in : List Turn → List Asked
calls_in [] = []
calls_in (x ∷ xs) = x.asked ∷ calls_in xs

abbrev pub expected : List Turn → List Answer
expected [] = []
expected (x ∷ xs) = x.answer ∷ expected xs

-- the book gives the story's answers, for any judgement of its sentences by full assignments
abbrev pub Told : Story → Type 0
Told x = (j : Judgement) → Judging j → answers x.limits j (fresh x.atoms x.sentences) (calls_in x.turns) ≡ expected x.turns

-- ---- short forms: a call on an area of the size, with the counters (length, level), and its answer

abbrev pub call_with : (size length level : ℕ) → Call → Answer → Turn
call_with i n v x a = record { asked = record { call = x; size = i; counters = record { length_is = n; level_is = v } }; answer = a }

abbrev pub ask : (size length level : ℕ) → Step → Answer → Turn
ask i n v x a = call_with i n v (a_step x) a

-- a report, with the length of its lent list, and its result
abbrev pub see : (size length level : ℕ) → Report → (room : ℕ) → Result → Turn
see i n v x room r = call_with i n v (a_report x room) (reported r)

-- or its refusal
abbrev pub miss : (size length level : ℕ) → Report → (room : ℕ) → Answer → Turn
miss i n v x room a = call_with i n v (a_report x room) a

abbrev pub story_of : ℕ → List Sentence → List Turn → Story
story_of n ss xs = record { limits = document; atoms = n; sentences = ss; turns = xs }

-- ---- M1 to M12

abbrev pub story_1 : Story
story_1 = story_of 6 (m1 ∷ [])
    (ask 42 0 0 (give (minus 4)) done ∷ ask 42 1 0 (give (pos 5)) done
    ∷ see 42 2 0 (bounds 1) 0 (bounds_of (at (pos 2)) (at (pos 9))) ∷ ask 42 2 0 propagate (still 0) ∷ [])

abbrev pub story_2 : Story
story_2 = story_of 6 (m1 ∷ [])
    (ask 42 0 0 (give (pos 6)) done ∷ ask 42 1 0 (give (pos 1)) done ∷ ask 42 2 0 propagate (still 1)
    ∷ see 42 3 0 list_trail 9 (listed (pos 6 ∷ pos 0 ∷ pos 0 ∷ pos 1 ∷ pos 0 ∷ pos 0 ∷ pos 5 ∷ pos 0 ∷ pos 1 ∷ []))
    ∷ see 42 3 0 (bounds 1) 0 (bounds_of (at (pos 2)) (at (pos 5))) ∷ [])

abbrev pub story_3 : Story
story_3 = story_of 3 (m3 ∷ []) (see 28 0 0 (bounds 1) 0 (bounds_of (at (minus 5)) (at (pos 5))) ∷ [])

abbrev pub story_4 : Story
story_4 = story_of 3 (m4 ∷ [])
    (ask 24 0 0 (give (pos 3)) done ∷ ask 24 1 0 (give (pos 1)) done ∷ ask 24 2 0 propagate (still 1)
    ∷ see 24 3 0 (explain (minus 2)) 3 (listed (minus 2 ∷ minus 3 ∷ minus 1 ∷ [])) ∷ [])

abbrev pub story_5 : Story
story_5 = story_of 3 (m4 ∷ [])
    (ask 24 0 0 (give (pos 3)) done ∷ ask 24 1 0 (give (pos 1)) done ∷ ask 24 2 0 (give (pos 2)) done ∷ ask 24 3 0 propagate (conflict_in 1 0)
    ∷ see 24 3 0 (explain_conflict 1) 3 (listed (minus 3 ∷ minus 1 ∷ minus 2 ∷ [])) ∷ [])

abbrev pub story_6 : Story
story_6 = story_of 1 (over_none maximum upper ∷ [])
    (ask 12 0 0 propagate (still 1) ∷ see 12 1 0 list_trail 3 (listed (pos 1 ∷ pos 0 ∷ pos 1 ∷ [])) ∷ [])

abbrev pub story_7 : Story
story_7 = story_of 1 (over_none maximum lower ∷ [])
    (ask 12 0 0 propagate (still 1) ∷ see 12 1 0 list_trail 3 (listed (minus 1 ∷ pos 0 ∷ pos 1 ∷ [])) ∷ [])

abbrev pub story_8 : Story
story_8 = story_of 3 (m8 ∷ [])
    (ask 24 0 0 (give (pos 3)) done ∷ ask 24 1 0 propagate (still 1)
    ∷ see 24 2 0 list_trail 6 (listed (pos 3 ∷ pos 0 ∷ pos 0 ∷ pos 1 ∷ pos 0 ∷ pos 1 ∷ [])) ∷ [])

abbrev pub story_9 : Story
story_9 = story_of 3 (m9 ∷ []) (ask 24 0 0 (give (minus 1)) done ∷ see 24 1 0 (bounds 1) 0 (bounds_of (at (pos 8)) above) ∷ [])

abbrev pub story_10 : Story
story_10 = story_of 3 (m10 ∷ [])
    (ask 24 0 0 (give (pos 3)) done ∷ see 24 1 0 (bounds 1) 0 (bounds_of (at (pos 1)) (at (pos 6))) ∷ ask 24 1 0 propagate (still 0)
    ∷ ask 24 1 0 (give (pos 1)) done ∷ ask 24 2 0 propagate (still 1)
    ∷ see 24 3 0 list_trail 9 (listed (pos 3 ∷ pos 0 ∷ pos 0 ∷ pos 1 ∷ pos 0 ∷ pos 0 ∷ minus 2 ∷ pos 0 ∷ pos 1 ∷ [])) ∷ [])

abbrev pub story_11 : Story
story_11 = story_of 3 (m4 ∷ [])
    (ask 24 0 0 (give (pos 3)) done ∷ ask 24 1 0 (give (pos 1)) done ∷ ask 24 2 0 open_level done ∷ ask 24 2 1 propagate (still 1)
    ∷ see 24 3 1 list_trail 9 (listed (pos 3 ∷ pos 0 ∷ pos 0 ∷ pos 1 ∷ pos 0 ∷ pos 0 ∷ minus 2 ∷ pos 1 ∷ pos 1 ∷ []))
    ∷ ask 24 3 1 (take_back 0) done ∷ see 24 2 0 (bounds 1) 0 (bounds_of (at (pos 1)) (at (pos 3))) ∷ ask 24 2 0 propagate (still 1)
    ∷ see 24 3 0 list_trail 9 (listed (pos 3 ∷ pos 0 ∷ pos 0 ∷ pos 1 ∷ pos 0 ∷ pos 0 ∷ minus 2 ∷ pos 0 ∷ pos 1 ∷ [])) ∷ [])

abbrev pub ring : ℕ → ℕ → Sentence
ring h a = sentence_with h sum lower (pos 1) (pos 1 on pos a ∷ [])

abbrev pub story_12 : Story
story_12 = story_of 2 (ring 1 2 ∷ ring 2 1 ∷ [])
    (ask 28 0 0 (give (pos 1)) done ∷ ask 28 1 0 propagate (still 1)
    ∷ see 28 2 0 list_trail 6 (listed (pos 1 ∷ pos 0 ∷ pos 0 ∷ pos 2 ∷ pos 0 ∷ pos 1 ∷ []))
    ∷ see 28 2 0 (origin (pos 2)) 1 (listed (pos 1 ∷ [])) ∷ [])

-- ---- the refusals 9 to 18: each is got, and just missed

abbrev pub refusing : Story
refusing = record {
  limits = record { atoms = document.atoms; sentences = document.sentences; entries = document.entries; each = document.each; levels = 1 };
  atoms = 3;
  sentences = m4 ∷ [];
  turns =
      ask 23 0 0 (give (pos 3)) (refused 9 0) ∷ ask 24 1 0 (give (pos 3)) (refused 9 0) ∷ ask 24 0 1 (give (pos 3)) (refused 9 0)
      ∷ ask 24 0 0 (give (pos 0)) (refused 10 0) ∷ ask 24 0 0 (give (minus 4)) (refused 10 0) ∷ ask 24 0 0 (give (pos 3)) done
      ∷ ask 24 1 0 (give (minus 3)) (refused 11 0) ∷ miss 24 1 0 (explain (pos 1)) 0 (refused 12 0) ∷ miss 24 1 0 (origin (minus 3)) 0 (refused 12 0)
      ∷ miss 24 1 0 (explain (pos 4)) 0 (refused 10 0) ∷ miss 24 1 0 (origin (pos 0)) 0 (refused 10 0)
      ∷ miss 24 1 0 (explain (pos 3)) 0 (refused 13 0) ∷ miss 24 1 0 (origin (pos 3)) 0 (refused 18 1) ∷ see 24 1 0 (origin (pos 3)) 1 (listed (pos 3 ∷ []))
      ∷ ask 24 1 0 (take_back 1) (refused 15 0) ∷ ask 24 1 0 open_level done ∷ ask 24 1 1 open_level (refused 14 0) ∷ ask 24 1 1 (take_back 1) done
      ∷ miss 24 1 1 (bounds 0) 0 (refused 16 0) ∷ miss 24 1 1 (bounds 2) 0 (refused 16 0) ∷ miss 24 1 1 (explain_conflict 2) 0 (refused 16 0)
      ∷ miss 24 1 1 (explain_conflict 1) 3 (refused 17 0) ∷ ask 24 1 1 (give (pos 1)) done ∷ ask 24 2 1 propagate (still 1)
      ∷ miss 24 3 1 (explain (minus 2)) 2 (refused 18 3) ∷ ask 24 3 1 (take_back 0) done ∷ ask 24 1 0 (give (pos 2)) done
      ∷ miss 24 2 0 (explain_conflict 1) 1 (refused 18 2) ∷ see 24 2 0 (explain_conflict 1) 2 (listed (minus 3 ∷ minus 2 ∷ []))
      ∷ miss 24 2 0 list_trail 5 (refused 18 6) ∷ [];
}

-- ---- searches

-- 10 for a literal further on in the list; then one passed over, and the highest level, where an open literal ends the search and those on
-- the trail are still passed over
abbrev pub search_levels : Story
search_levels = record {
  limits = record { atoms = 1024; sentences = 256; entries = 4096; each = 1024; levels = 1 };
  atoms = 3;
  sentences = m4 ∷ [];
  turns =
      ask 23 0 0 (search (pos 4 ∷ [])) (refused 9 0) ∷ ask 24 0 0 (search (pos 3 ∷ minus 2 ∷ minus 4 ∷ [])) (refused 10 0)
      ∷ ask 24 0 0 (search (pos 3 ∷ pos 0 ∷ [])) (refused 10 0) ∷ ask 24 0 0 (search []) (searched 0 0 0)
      ∷ ask 24 0 0 (search (pos 3 ∷ pos 2 ∷ minus 1 ∷ pos 3 ∷ [])) (searched 0 1 2)
      ∷ see 24 2 1 list_trail 6 (listed (pos 3 ∷ pos 1 ∷ pos 0 ∷ minus 2 ∷ pos 1 ∷ pos 1 ∷ []))
      ∷ ask 24 2 1 (search (minus 2 ∷ minus 3 ∷ [])) (searched 0 0 2) ∷ [];
}

-- 1 exactly if 2, and 1 exactly if not 2: the literal that leads to the conflict counts; a conflict of the first propagate comes before any
abbrev pub search_conflict : Story
search_conflict = story_of 2 (ring 1 2 ∷ sentence_with 1 sum upper (pos 0) (pos 1 on pos 2 ∷ []) ∷ [])
    (ask 28 0 0 (search (minus 2 ∷ pos 1 ∷ [])) (searched 2 1 1) ∷ ask 28 2 1 (search (pos 1 ∷ [])) (searched 2 0 0) ∷ [])

abbrev pub search_ring : Story
search_ring = story_of 2 (ring 1 2 ∷ ring 2 1 ∷ [])
    (ask 28 0 0 (search (pos 1 ∷ minus 2 ∷ [])) (searched 0 1 2)
    ∷ see 28 2 1 list_trail 6 (listed (pos 1 ∷ pos 1 ∷ pos 0 ∷ pos 2 ∷ pos 1 ∷ pos 1 ∷ [])) ∷ [])

abbrev pub stories : List Story
stories =
    story_1 ∷ story_2 ∷ story_3 ∷ story_4 ∷ story_5 ∷ story_6 ∷ story_7 ∷ story_8 ∷ story_9 ∷ story_10 ∷ story_11 ∷ story_12 ∷ refusing
    ∷ search_levels ∷ search_conflict ∷ search_ring ∷ []

-- ---- the paper's numbers for each kind of answer, and the lent list after it

pub record Printed : Type 0 where
  pub answer : Answer
  pub printed : Returned
  pub before : List ℤ
  pub afterwards : List ℤ

abbrev pub prints : Answer → (code value sentence gone least_mark : ℕ) → ℤ → ℕ → ℤ → List ℤ → List ℤ → Printed
prints a c n k h lm l gm g old new = record {
  answer = a;
  printed = record { code = c; value = n; sentence = k; gone = h; least_mark = lm; least = l; greatest_mark = gm; greatest = g };
  before = old;
  afterwards = new;
}

abbrev pub printings : List Printed
printings =
    prints (refused 18 3) 18 3 0 0 0 (pos 0) 0 (pos 0) (pos 7 ∷ []) (pos 7 ∷ [])
    ∷ prints done 0 0 0 0 0 (pos 0) 0 (pos 0) [] []
    ∷ prints (still 2) 0 2 0 0 0 (pos 0) 0 (pos 0) [] []
    ∷ prints (conflict_in 4 1) 0 1 4 0 0 (pos 0) 0 (pos 0) [] []
    ∷ prints (searched 4 1 2) 0 1 4 2 0 (pos 0) 0 (pos 0) [] []
    ∷ prints (reported (bounds_of (at (minus 5)) (at (pos 5)))) 0 0 0 0 0 (minus 5) 0 (pos 5) [] []
    ∷ prints (reported (bounds_of below (at (pos 9)))) 0 0 0 0 1 (pos 0) 0 (pos 9) [] []
    ∷ prints (reported (bounds_of (at (pos 8)) above)) 0 0 0 0 0 (pos 8) 2 (pos 0) [] []
    ∷ prints (reported (listed (minus 2 ∷ minus 3 ∷ []))) 0 2 0 0 0 (pos 0) 0 (pos 0) (pos 7 ∷ pos 8 ∷ pos 9 ∷ []) (minus 2 ∷ minus 3 ∷ pos 9 ∷ [])
    ∷ []

abbrev pub Rightly : Printed → Type 0
Rightly x = (returned_by x.answer ≡ x.printed) × (list_after x.answer x.before ≡ x.afterwards)
