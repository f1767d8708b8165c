-- The claim about every list of calls after an accepted load. Its calls keep the public contracts; its answers are the book's.
use Rattle.std.specs.Prelude.{◌≡◌, cond, List, [], ◌∷◌, ◌++◌, ℕ, suc, ◌<◌, length, take, drop, ℤ, eqb, Result, Ok}
use Rattle.types.specs.declared.Limits.{Limits}
use Rattle.types.specs.declared.Counters as t
pub use Rattle.types.specs.Counters.{start}
use Rattle.numbers.specs.Words.{unword}
use Rattle.meaning.specs.Meaning.{Sentence}
use Rattle.book.specs.Rows.{trail}
use Rattle.book.specs.Table.{Step, Report, Call, a_step, a_report, Answer, Returned, returned_by, list_after}
use Rattle.book.specs.Book.{Counters, Judgement, Judging, computed, rules_of, fresh, Asked, answers, book_after, most_needed}
use Rattle.book.specs.Means.{Bounded, Explains, ExplainsConflict, OriginList}
use Rattle.area.specs.Layout.{atoms_of, level_of, rows_of, theory_of, record_at, least_at, greatest_at}
use Rattle.area.specs.Whole.{Whole}
use Rattle.calls.specs.declared.Refusal.{Refusal}
use Rattle.calls.specs.Calls.{counted, Acts, Reports}
use Rattle.columns.specs.Columns.{Columns, all_written, sentences_in}
use Rattle.columns.specs.declared.Answer as c
use Rattle.load.specs.Load.{Loads}
use Rattle.dalelead.specs.Public.{ListsExplanation, ListsConflict, ListsOrigin}

-- ---- one call

-- what the book is fed, the paper's numbers that were handed back, and the lent result list before and after, empty where there is none
pub record Event : Type 0 where
  pub asked : Asked
  pub numbers : Returned
  pub old : List ℤ
  pub new : List ℤ

abbrev pub event_of : Call → List ℕ → t.Counters → Returned → List ℤ → List ℤ → Event
event_of x w d p old new = record { asked = record { call = x; size = length w; counters = counted d }; numbers = p; old = old; new = new }

-- the counters last handed back by a call not refused
abbrev pub counters_held : Returned → t.Counters → t.Counters → t.Counters
counters_held p c c' = cond (eqb p.code 0) c' c

-- a call on the words w with the counters d keeps its public contract: the words afterwards, the event, and the counters that its caller
-- then holds, who held c. proofs/Public.antt says of each public contract that it is such a call
pub data Called (lim : Limits) (w : List ℕ) (c d : t.Counters) : List ℕ → Event → t.Counters → Type 0 where
  by_step : {w' : List ℕ} (x : Step) (p : Returned) (c' : t.Counters) → Acts lim w w' (counted d) (counted c') x p
      → Called lim w c d w' (event_of (a_step x) w d p [] []) (counters_held p c c')
  by_report : (x : Report) (p : Returned) (old new : List ℤ) → Reports lim w (counted d) x old new p
      → Called lim w c d w (event_of (a_report x (length old)) w d p old new) c

-- ---- a list of calls, from the words and counters before it to those after it

pub data Calls (lim : Limits) : List ℕ → t.Counters → List Event → List ℕ → t.Counters → Type 0 where
  none : {w : List ℕ} {c : t.Counters} → Calls lim w c [] w c
  -- the next call gets any counters, and the words that are there or any first part of them; the rest of them stays as it is
  next : {w w₁ w₂ : List ℕ} {c d c₁ c₂ : t.Counters} {e : Event} {es : List Event} (part part₁ rest : List ℕ)
      → w ≡ part ++ rest → Called lim part c d part₁ e c₁ → w₁ ≡ part₁ ++ rest → Calls lim w₁ c₁ es w₂ c₂ → Calls lim w c (e ∷ es) w₂ c₂

-- ---- the claim

abbrev pub asked_in : List Event → List Asked
asked_in [] = []
asked_in (e ∷ es) = e.asked ∷ asked_in es

-- what a call handed back is the paper's form of an answer
pub record HandsBack (e : Event) (a : Answer) : Type 0 where
  pub numbers : e.numbers ≡ returned_by a
  pub list : e.new ≡ list_after a e.old

-- and so for all of them
abbrev pub HandedBack : List Event → List Answer → Type 0
HandedBack [] [] = Unit {0}
HandedBack [] (a ∷ rest) = ⊥
HandedBack (e ∷ es) [] = ⊥
HandedBack (e ∷ es) (a ∷ rest) = HandsBack e a × HandedBack es rest

-- `loaded` are the words that load left, `w` and `c` the words and counters after the calls
pub record Claim (lim : Limits) (n : ℕ) (ss : List Sentence) (loaded : List ℕ) (es : List Event) (w : List ℕ) (c : t.Counters) : Type 0 where
  -- the book's answers, whoever judges by full assignments; and such a judgement exists
  pub answers_are : (j : Judgement) → Judging j → HandedBack es (answers lim j (fresh n ss) (asked_in es))
  pub judged : Judging computed
  -- the area, and its trail; words past the most that was needed keep their contents
  pub whole : Whole lim w (counted c)
  pub atoms : atoms_of w ≡ n
  pub theory : (j : Judgement) → Judging j → theory_of w ≡ rules_of (book_after lim j (fresh n ss) (asked_in es)).sentences
  pub size : length w ≡ length loaded
  pub past_need : (j : Judgement) → Judging j
      → drop (most_needed lim j (fresh n ss) (asked_in es)) w ≡ drop (most_needed lim j (fresh n ss) (asked_in es)) loaded
  pub rows : (j : Judgement) → Judging j → rows_of w ≡ (book_after lim j (fresh n ss) (asked_in es)).rows
  pub level : (j : Judgement) → Judging j → level_of w ≡ (book_after lim j (fresh n ss) (asked_in es)).level
  pub counters : counted c ≡ record { length_is = length (rows_of w); level_is = level_of w }
  -- the stored bounds of every sentence
  pub bounds_are : (s : ℕ) → s < length ss → Bounded ss (trail (rows_of w)) (suc s) (unword (least_at w (record_at n s))) (unword (greatest_at w (record_at n s)))
  -- every explanation that is not refused
  pub explained : (l : ℤ) (old new : List ℤ) (count : ℕ) → ListsExplanation lim w c l old new (Ok count) → Explains ss (rows_of w) l (take count new)
  pub conflict_explained : (k : ℕ) (old new : List ℤ) (count : ℕ) → ListsConflict lim w c k old new (Ok count)
      → ExplainsConflict ss (rows_of w) k (take count new)
  -- every origin report has an answer, and one that is not refused names origins
  pub origin_answered : (l : ℤ) (old : List ℤ) → (new : List ℤ) × (r : Result ℕ Refusal) × ListsOrigin lim w c l old new r
  pub originated : (l : ℤ) (old new : List ℤ) (count : ℕ) → ListsOrigin lim w c l old new (Ok count) → OriginList ss (rows_of w) l (take count new)

-- every list of calls after an accepted load, which hands on the words w; the limits are any
abbrev pub History : Limits → Type 0
History lim =
    (w₀ w : List ℕ) (n : ℕ) (columns : Columns) (r : c.Answer) → Loads lim w₀ w n columns r → r.code ≡ 0
    → (es : List Event) (w' : List ℕ) (c : t.Counters) → Calls lim w start es w' c
    → Claim lim n (sentences_in (all_written columns)) w es w' c
