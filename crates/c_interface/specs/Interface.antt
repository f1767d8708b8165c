-- What the functions for C promise, under given limits: the table's answer in one number, and the lent words that a call not refused writes.
-- `w` and `w'` are the words of the area before and after, `out` and `out'` the lent words that hand back numbers.
use Rattle.std.specs.Prelude.{◌≡◌, Bool, not, cond, ◌&&◌, ◌||◌, List, [], ◌∷◌, ◌++◌, ℕ, ◌+◌, ◌-◌, ◌*◌, length, drop, ℤ, pos, T, eqb, leb, ltb}
use Rattle.types.specs.declared.Limits.{Limits}
use Rattle.book.specs.Table.{Step, Report, a_step, a_report, bounds_of, listed, Answer, refused, done, still, conflict_in, searched, reported, list_of, returned_by, list_after, infinity, number, Outcome, reply}
use Rattle.book.specs.Book.{Counters}
use Rattle.area.specs.Layout.{rows_of}
use Rattle.area.specs.Whole.{Whole}
use Rattle.calls.specs.Calls.{area_state, is_refusal, unmoved, Moved}
use Rattle.columns.specs.Columns.{Columns}
use Rattle.columns.specs.Refusals.{load_answer}
use Rattle.columns.specs.declared.Answer as c
use Rattle.load.specs.Load.{Loaded}

-- ---- one number for code and value

abbrev pub packed : ℕ → ℕ → ℕ
packed code value = value * 256 + code

-- the value that goes with code 0: the sentence in conflict, 0 where there is none; a list's length
abbrev pub value_of : Answer → ℕ
value_of (refused c n) = n
value_of done = 0
value_of (still n) = 0
value_of (conflict_in k n) = k
value_of (searched k n g) = k
value_of (reported r) = length (list_of r)

-- the table's refusal, then 18 where the lent words are too few, with those that are needed
abbrev pub told : Answer → (needed room : ℕ) → ℕ
told (refused c n) needed room = packed c n
told done needed room = cond (ltb room needed) (packed 18 needed) (packed 0 (value_of done))
told (still n) needed room = cond (ltb room needed) (packed 18 needed) (packed 0 (value_of (still n)))
told (conflict_in k n) needed room = cond (ltb room needed) (packed 18 needed) (packed 0 (value_of (conflict_in k n)))
told (searched k n g) needed room = cond (ltb room needed) (packed 18 needed) (packed 0 (value_of (searched k n g)))
told (reported r) needed room = cond (ltb room needed) (packed 18 needed) (packed 0 (value_of (reported r)))

abbrev pub refuses : Answer → (needed room : ℕ) → Bool
refuses a needed room = is_refusal a || ltb room needed

-- lent words whose front is what is handed back
module _ {A : Type 0} where
  abbrev pub fronted : List A → List A → List A
  fronted xs old = xs ++ drop (length xs) old

-- ---- calls that change the area; `handed` is what goes into the lent words

pub record Changes (lim : Limits) (w w' : List ℕ) (c : Counters) (x : Step) (handed : Outcome → List ℕ) (out out' : List ℕ) (r : ℕ) : Type 0 where
  pub broken : ¬ (Whole lim w c) → (r ≡ packed 9 0) × (w' ≡ w) × (out' ≡ out)
  pub answer : Whole lim w c → r ≡ told (reply (area_state lim w) (a_step x)).answer (length (handed (reply (area_state lim w) (a_step x)))) (length out)
  pub kept : Whole lim w c → T (refuses (reply (area_state lim w) (a_step x)).answer (length (handed (reply (area_state lim w) (a_step x)))) (length out)) → (w' ≡ w) × (out' ≡ out)
  pub written : Whole lim w c → T (not (refuses (reply (area_state lim w) (a_step x)).answer (length (handed (reply (area_state lim w) (a_step x)))) (length out)))
      → out' ≡ fronted (handed (reply (area_state lim w) (a_step x))) out
  -- taking back to the current level keeps the words too
  pub idle : Whole lim w c → T (unmoved (area_state lim w) x) → w' ≡ w
  pub moved : Whole lim w c → T (not (unmoved (area_state lim w) x)) → T (not (ltb (length out) (length (handed (reply (area_state lim w) (a_step x))))))
      → Moved lim w w' (record { length_is = length (reply (area_state lim w) (a_step x)).rows; level_is = (reply (area_state lim w) (a_step x)).level }) (reply (area_state lim w) (a_step x))

-- the counters after the call
abbrev pub next_counters : Outcome → List ℕ
next_counters o = length o.rows ∷ o.level ∷ []

-- and the number of literals put on
abbrev pub next_counted : List ℕ → Outcome → List ℕ
next_counted w o = length o.rows ∷ o.level ∷ (length o.rows - length (rows_of w)) ∷ []

-- of a search: the counters, the literals derived over all turns, and the literals of the list gone through
abbrev pub next_searched : Outcome → List ℕ
next_searched o = length o.rows ∷ o.level ∷ (returned_by o.answer).value ∷ (returned_by o.answer).gone ∷ []

-- ---- reports

-- mark and number of the least, then of the greatest
abbrev pub bound_words : Answer → List ℤ
bound_words (refused c n) = []
bound_words done = []
bound_words (still n) = []
bound_words (conflict_in k n) = []
bound_words (searched k n g) = []
bound_words (reported (bounds_of v w)) = pos (infinity v) ∷ number v ∷ pos (infinity w) ∷ number w ∷ []
bound_words (reported (listed ls)) = []

pub record ReportsBounds (lim : Limits) (w : List ℕ) (c : Counters) (x : Report) (out out' : List ℤ) (r : ℕ) : Type 0 where
  pub broken : ¬ (Whole lim w c) → (r ≡ packed 9 0) × (out' ≡ out)
  pub answer : Whole lim w c → r ≡ told (reply (area_state lim w) (a_report x 0)).answer 4 (length out)
  pub kept : Whole lim w c → T (refuses (reply (area_state lim w) (a_report x 0)).answer 4 (length out)) → out' ≡ out
  pub written : Whole lim w c → T (not (refuses (reply (area_state lim w) (a_report x 0)).answer 4 (length out))) → out' ≡ fronted (bound_words (reply (area_state lim w) (a_report x 0)).answer) out

-- the table itself decides 18 for a list
pub record ReportsList (lim : Limits) (w : List ℕ) (c : Counters) (x : Report) (out out' : List ℤ) (r : ℕ) : Type 0 where
  pub broken : ¬ (Whole lim w c) → (r ≡ packed 9 0) × (out' ≡ out)
  pub answer : Whole lim w c → r ≡ packed (returned_by (reply (area_state lim w) (a_report x (length out))).answer).code (returned_by (reply (area_state lim w) (a_report x (length out))).answer).value
  pub written : Whole lim w c → out' ≡ list_after (reply (area_state lim w) (a_report x (length out))).answer out

-- ---- load

abbrev pub load_told : c.Answer → ℕ → ℕ
load_told a room = cond (eqb a.code 0) (cond (ltb room 2) (packed 18 2) (packed 0 0)) (packed a.code a.sentence.0)

pub record LoadsFor (lim : Limits) (w w' : List ℕ) (n : ℕ) (columns : Columns) (out out' : List ℕ) (r : ℕ) : Type 0 where
  pub answer : r ≡ load_told (load_answer lim (length w) n columns) (length out)
  pub refused : ¬ (r ≡ 0) → (w' ≡ w) × (out' ≡ out)
  pub accepted : r ≡ 0 → Loaded lim w w' n columns × (out' ≡ fronted (0 ∷ 0 ∷ []) out)

-- ---- the words that an area needs, 0 where a count is above its limit or N is 0

abbrev pub within_limits : Limits → (n s e : ℕ) → Bool
within_limits lim n s e = (leb 1 n && leb n lim.atoms) && (leb s lim.sentences && leb e lim.entries)

abbrev pub need_for : Limits → (n s e : ℕ) → ℕ
need_for lim n s e = cond (within_limits lim n s e) (4 * n + 8 * s + 2 * e) 0
