-- The table of document 01, written once: for each call the refusals with their conditions, in order, and the effect of a call that
-- is not refused. It is a function of a `State`, what the table looks at: the book is such a state, and so is a work area.
use Rattle.std.specs.Prelude.{Bool, true, false, not, cond, ◌&&◌, List, [], ◌∷◌, ◌++◌, ℕ, zero, suc, ◌+◌, ◌-◌, length, drop, ℤ, pos, eqb, leb, ltb}
use Rattle.numbers.specs.Extended.{Extended, below, at, above}
use Rattle.meaning.specs.Meaning.{atom, same, Said, silent, conflict, forced}
use Rattle.book.specs.Rows.{Row, a_row, trail, up_to, row_of, numbered, explanation, conflict_explanation, any, origins, flat}

-- ---- calls and answers

-- calls that may change the level and the rows
pub data Step : Type 0 where
  give : ℤ → Step
  open_level : Step
  take_back : ℕ → Step
  propagate : Step
  search : List ℤ → Step

-- calls with a result and no effect
pub data Report : Type 0 where
  bounds : ℕ → Report
  explain : ℤ → Report
  explain_conflict : ℕ → Report
  origin : ℤ → Report
  list_trail : Report

-- a report is fed the length of its lent result list, 0 where it lends none
pub data Call : Type 0 where
  a_step : Step → Call
  a_report : Report → (room : ℕ) → Call

-- two bounds, or a list
pub data Result : Type 0 where
  bounds_of : Extended → Extended → Result
  listed : List ℤ → Result

-- `still` and `conflict_in` carry the number of literals put on; `conflict_in` the sentence in conflict before it. `searched` has the sentence in
-- conflict, 0 where there is none, the literals derived over all turns, and how many literals of its list it went through
pub data Answer : Type 0 where
  refused : (code value : ℕ) → Answer
  done : Answer
  still : ℕ → Answer
  conflict_in : ℕ → ℕ → Answer
  searched : (sentence derived gone : ℕ) → Answer
  reported : Result → Answer

-- ---- the paper's numbers for every answer

-- 0 a number; 1 below every number, 2 above every number, each with number 0
abbrev pub infinity : Extended → ℕ
infinity below = 1
infinity (at z) = 0
infinity above = 2

abbrev pub number : Extended → ℤ
number below = pos 0
number (at z) = z
number above = pos 0

pub record Returned : Type 0 where
  -- 0, or the refusal
  pub code : ℕ
  -- a refusal's value, a list's length, or the number of literals put on
  pub value : ℕ
  -- the sentence in conflict, 0 where there is none
  pub sentence : ℕ
  -- of a search, the literals of its list gone through
  pub gone : ℕ
  pub least_mark : ℕ
  pub least : ℤ
  pub greatest_mark : ℕ
  pub greatest : ℤ

abbrev pub numbers : (code value sentence gone : ℕ) → Extended → Extended → Returned
numbers c n k g v w =
    record { code = c; value = n; sentence = k; gone = g; least_mark = infinity v; least = number v; greatest_mark = infinity w; greatest = number w }

abbrev pub returned_by : Answer → Returned
returned_by (refused c n) = numbers c n 0 0 (at (pos 0)) (at (pos 0))
returned_by done = numbers 0 0 0 0 (at (pos 0)) (at (pos 0))
returned_by (still n) = numbers 0 n 0 0 (at (pos 0)) (at (pos 0))
returned_by (conflict_in k n) = numbers 0 n k 0 (at (pos 0)) (at (pos 0))
returned_by (searched k n g) = numbers 0 n k g (at (pos 0)) (at (pos 0))
returned_by (reported (bounds_of v w)) = numbers 0 0 0 0 v w
returned_by (reported (listed ls)) = numbers 0 (length ls) 0 0 (at (pos 0)) (at (pos 0))

abbrev pub list_of : Result → List ℤ
list_of (bounds_of v w) = []
list_of (listed ls) = ls

-- the list that an answer hands back
abbrev pub handed : Answer → List ℤ
handed (refused c n) = []
handed done = []
handed (still n) = []
handed (conflict_in k n) = []
handed (searched k n g) = []
handed (reported r) = list_of r

-- the lent result list after the call: words past the list that is handed back keep their contents
abbrev pub list_after : Answer → List ℤ → List ℤ
list_after a old = handed a ++ drop (length (handed a)) old

-- ---- what the table looks at

-- of a sentence: its atoms in the order in which it is scanned, what it says first over a trail, and its least and greatest value
pub record Judged : Type 0 where
  pub scope : List ℕ
  pub says : List ℤ → Said
  pub least : List ℤ → Extended
  pub greatest : List ℤ → Extended

pub record State : Type 0 where
  -- the area is not whole
  pub broken : Bool
  pub atoms : ℕ
  -- the highest level
  pub levels : ℕ
  pub sentences : List Judged
  pub level : ℕ
  pub rows : List Row

abbrev pub scopes : List Judged → List (List ℕ)
scopes [] = []
scopes (j ∷ js) = j.scope ∷ scopes js

abbrev pub no_sentence_judged : Judged
no_sentence_judged = record { scope = []; says = λ t. silent; least = λ t. below; greatest = λ t. below }

-- ---- propagate

pub data Speech : Type 0 where
  nothing : Speech
  conflicts : ℕ → Speech
  derives : ℕ → ℤ → Speech

abbrev pub spoken : Said → ℕ → Speech → Speech
spoken silent k rest = rest
spoken conflict k rest = conflicts k
spoken (forced l) k rest = derives k l

-- the lowest-numbered sentence that has something to say, and what; the first of the list has number k
unfoldable pub first_to_speak : ℕ → List Judged → List ℤ → Speech
first_to_speak k [] t = nothing
first_to_speak k (j ∷ js) t = spoken (j.says t) k (first_to_speak (suc k) js t)

-- where propagate stops: in conflict with a sentence, or 0 at still
pub record Stop : Type 0 where
  pub sentence : ℕ
  pub rows : List Row

-- at most so many steps; one more than there are atoms always suffice
unfoldable pub run : List Judged → (level steps : ℕ) → List Row → Stop
run js v zero rs = record { sentence = 0; rows = rs }
run js v (suc n) rs =
    elim (first_to_speak 1 js (trail rs)) [ nothing ↦ record { sentence = 0; rows = rs } | conflicts k ↦ record { sentence = k; rows = rs } | derives k l ↦ run js v n (a_row l v k ∷ rs) ]

abbrev pub propagated : State → Stop
propagated q = run q.sentences q.level (suc q.atoms) q.rows

-- ---- each report's result

abbrev pub result_of : State → Report → Result
result_of q (bounds k) = bounds_of ((numbered no_sentence_judged k q.sentences).least (trail q.rows)) ((numbered no_sentence_judged k q.sentences).greatest (trail q.rows))
result_of q (explain l) = listed (explanation (scopes q.sentences) q.rows l)
result_of q (explain_conflict k) = listed (conflict_explanation (scopes q.sentences) q.rows k)
result_of q (origin l) = listed (origins (scopes q.sentences) q.rows l)
result_of q list_trail = listed (flat q.rows)

-- ---- refusals

pub record Refusal : Type 0 where
  pub code : ℕ
  pub applies : Bool
  pub value : ℕ

abbrev pub refuse_if : ℕ → Bool → Refusal
refuse_if c b = record { code = c; applies = b; value = 0 }

-- 18 comes with the needed length
abbrev pub too_short : ℕ → List ℤ → Refusal
too_short room ls = record { code = 18; applies = ltb room (length ls); value = length ls }

abbrev pub no_atom : State → ℤ → Bool
no_atom q l = not (leb 1 (atom l) && leb (atom l) q.atoms)

abbrev pub no_sentence : State → ℕ → Bool
no_sentence q k = not (leb 1 k && leb k (length q.sentences))

abbrev pub on_trail : State → ℕ → Bool
on_trail q a = any (λ l. eqb (atom l) a) (trail q.rows)

abbrev pub stands : State → ℤ → Bool
stands q l = any (same l) (trail q.rows)

abbrev pub was_given : State → ℤ → Bool
was_given q l = eqb (row_of l q.rows).mine.reason 0

abbrev pub is_conflict : Said → Bool
is_conflict silent = false
is_conflict conflict = true
is_conflict (forced l) = false

abbrev pub in_conflict : State → ℕ → Bool
in_conflict q k = is_conflict ((numbered no_sentence_judged k q.sentences).says (trail q.rows))

-- the rows of the table that a call can get, in its order; 9 stands before them at every call, and 18 after a report's own
abbrev pub step_refusals : State → Step → List Refusal
step_refusals q (give l) = refuse_if 10 (no_atom q l) ∷ refuse_if 11 (on_trail q (atom l)) ∷ []
step_refusals q open_level = refuse_if 14 (leb q.levels q.level) ∷ []
step_refusals q (take_back k) = refuse_if 15 (ltb q.level k) ∷ []
step_refusals q propagate = []
step_refusals q (search ls) = refuse_if 10 (any (no_atom q) ls) ∷ []

abbrev pub report_refusals : State → Report → List Refusal
report_refusals q (bounds k) = refuse_if 16 (no_sentence q k) ∷ []
report_refusals q (explain l) = refuse_if 10 (no_atom q l) ∷ refuse_if 12 (not (stands q l)) ∷ refuse_if 13 (was_given q l) ∷ []
report_refusals q (explain_conflict k) = refuse_if 16 (no_sentence q k) ∷ refuse_if 17 (not (in_conflict q k)) ∷ []
report_refusals q (origin l) = refuse_if 10 (no_atom q l) ∷ refuse_if 12 (not (stands q l)) ∷ []
report_refusals q list_trail = []

abbrev pub refusals : State → Call → List Refusal
refusals q (a_step x) = step_refusals q x
refusals q (a_report x room) = report_refusals q x ++ (too_short room (list_of (result_of q x)) ∷ [])

-- ---- effects

-- an answer, and the level and rows after it
pub record Outcome : Type 0 where
  pub answer : Answer
  pub level : ℕ
  pub rows : List Row

abbrev pub unchanged : State → Answer → Outcome
unchanged q a = record { answer = a; level = q.level; rows = q.rows }

abbrev pub ended : ℕ → ℕ → Answer
ended zero n = still n
ended (suc k) n = conflict_in (suc k) n

abbrev pub giving : State → ℤ → Outcome
giving q l = record { answer = done; level = q.level; rows = a_row l q.level 0 ∷ q.rows }

abbrev pub opening : State → Outcome
opening q = record { answer = done; level = suc q.level; rows = q.rows }

-- the number of literals that propagate puts on
abbrev pub put_on : State → ℕ
put_on q = length (propagated q).rows - length q.rows

abbrev pub propagating : State → Outcome
propagating q = record { answer = ended (propagated q).sentence (put_on q); level = q.level; rows = (propagated q).rows }

-- the state after an outcome
abbrev pub following : State → Outcome → State
following q o = record { broken = q.broken; atoms = q.atoms; levels = q.levels; sentences = q.sentences; level = o.level; rows = o.rows }

-- ---- search: propagate; from still literal by literal of a list: one whose atom is on the trail is passed over, an open one is tried at a
-- level of its own, and propagate follows. A conflict ends it, the highest level does before an open literal, and the list's end

-- how it ended: the sentence in conflict or 0, the literals derived, those of the list gone through, and the level and rows
pub record End : Type 0 where
  pub sentence : ℕ
  pub derived : ℕ
  pub gone : ℕ
  pub level : ℕ
  pub rows : List Row

abbrev pub end_at : ℕ → (derived gone : ℕ) → State → End
end_at k d g q = record { sentence = k; derived = d; gone = g; level = q.level; rows = q.rows }

-- propagate's answer is taken apart, by its sentence: it goes on only from still
abbrev pub apart : ℕ → End → End → End
apart zero in_conflict on = on
apart (suc k) in_conflict on = in_conflict

-- propagate, with so many literals derived and gone through before it, and what comes after it at still
abbrev pub turning : State → (derived gone : ℕ) → (State → ℕ → End) → End
turning q d g on =
    apart (propagated q).sentence (end_at (propagated q).sentence (d + put_on q) g (following q (propagating q))) (on (following q (propagating q)) (d + put_on q))

-- a literal given at a level of its own
abbrev pub tried : State → ℤ → State
tried q l = following (following q (opening q)) (giving (following q (opening q)) l)

-- from still
unfoldable pub trying : State → (derived gone : ℕ) → List ℤ → End
trying q d g [] = end_at 0 d g q
trying q d g (l ∷ ls) =
    cond (on_trail q (atom l)) (trying q d (suc g) ls)
    (cond (leb q.levels q.level) (end_at 0 d g q) (turning (tried q l) d (suc g) (λ p n. trying p n (suc g) ls)))

abbrev pub searching : State → List ℤ → End
searching q ls = turning q 0 0 (λ p n. trying p n 0 ls)

abbrev pub search_ended : End → Outcome
search_ended e = record { answer = searched e.sentence e.derived e.gone; level = e.level; rows = e.rows }

-- ---- each call's effect

abbrev pub step_effect : State → Step → Outcome
step_effect q (give l) = giving q l
step_effect q open_level = opening q
step_effect q (take_back k) = record { answer = done; level = k; rows = up_to k q.rows }
step_effect q propagate = propagating q
step_effect q (search ls) = search_ended (searching q ls)

abbrev pub effect : State → Call → Outcome
effect q (a_step x) = step_effect q x
effect q (a_report x room) = unchanged q (reported (result_of q x))

-- the first refusal that applies, which changes nothing, and otherwise the effect
abbrev pub decided : State → List Refusal → Outcome → Outcome
decided q [] o = o
decided q (r ∷ rs) o = cond r.applies (unchanged q (refused r.code r.value)) (decided q rs o)

unfoldable pub reply : State → Call → Outcome
reply q x = decided q (refuse_if 9 q.broken ∷ refusals q x) (effect q x)

-- the state after a call
abbrev pub following_call : State → Call → State
following_call q x = following q (reply q x)
