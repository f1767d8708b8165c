-- The contracts of the calls after load: document 01's table (`reply`) at the state that is read off the work area, and what happens to
-- the words. `w` and `w'` are the words before and after, `c` the counters that the call got, `c'` those that it hands back.
use Rattle.std.specs.Prelude.{◌≡◌, Bool, true, false, not, ◌||◌, List, ℕ, length, drop, ℤ, pos, T, eqb, Result, Ok, Err}
use Rattle.types.specs.declared.Limits.{Limits}
use Rattle.types.specs.declared.Counters as t
use Rattle.numbers.specs.Extended.{Extended, below, at, above}
use Rattle.book.specs.Table.{Step, give, open_level, take_back, propagate, search, Report, Call, a_step, a_report, Answer, refused, done, still, conflict_in, searched, reported, Returned, numbers, returned_by, list_after, State, Outcome, reply}
use Rattle.book.specs.Book.{Counters, judged_all}
use Rattle.area.specs.Layout.{atoms_of, level_of, rows_of, theory_of, need_of}
use Rattle.area.specs.Whole.{Whole}
use Rattle.calls.specs.declared.Refusal.{Refusal}
use Rattle.calls.specs.declared.Bound.{Bound}
use Rattle.calls.specs.declared.Bound.TheVariants.{BelowAll, Number, AboveAll}
use Rattle.calls.specs.declared.Bounds.{Bounds}
use Rattle.calls.specs.Refusals.{code_of, value_of}

abbrev pub counted : t.Counters → Counters
counted c = record { length_is = c.length; level_is = c.level.0 }

-- ---- the work area as a state of the table: its own rows, and tests that compute on its merged rules

abbrev pub area_state : Limits → List ℕ → State
area_state lim w =
    record { broken = false; atoms = atoms_of w; levels = lim.levels; sentences = judged_all (theory_of w); level = level_of w; rows = rows_of w }

-- ---- what an answer of the code says on the paper

-- each by its number, with its value
abbrev pub refused_returned : Refusal → Returned
refused_returned e = numbers (code_of e) (value_of e) 0 0 (at (pos 0)) (at (pos 0))

-- of a call that hands back a value only where it is not refused
module _ {A : Type 0} where
  abbrev pub done_returned : Result A Refusal → Returned
  done_returned (Ok a) = numbers 0 0 0 0 (at (pos 0)) (at (pos 0))
  done_returned (Err e) = refused_returned e

abbrev pub extended_of : Bound → Extended
extended_of BelowAll = below
extended_of (Number z) = at z
extended_of AboveAll = above

abbrev pub bounds_returned : Result Bounds Refusal → Returned
bounds_returned (Ok b) = numbers 0 0 0 0 (extended_of b.least) (extended_of b.greatest)
bounds_returned (Err e) = refused_returned e

-- of a list, its length
abbrev pub listed_returned : Result ℕ Refusal → Returned
listed_returned (Ok n) = numbers 0 n 0 0 (at (pos 0)) (at (pos 0))
listed_returned (Err e) = refused_returned e

-- the counters that a caller holds after a call that had c: a refused one hands back none
abbrev pub counters_after : t.Counters → Result t.Counters Refusal → t.Counters
counters_after c (Ok d) = d
counters_after c (Err e) = c

-- ---- what the call answers: 9 where the area is not whole, and otherwise the table's answer

pub record Answered (lim : Limits) (w : List ℕ) (c : Counters) (x : Call) (p : Returned) : Type 0 where
  pub broken : ¬ (Whole lim w c) → p ≡ returned_by (refused 9 0)
  pub told : Whole lim w c → p ≡ returned_by (reply (area_state lim w) x).answer

-- ---- calls that change the area

abbrev pub is_refusal : Answer → Bool
is_refusal (refused c n) = true
is_refusal done = false
is_refusal (still n) = false
is_refusal (conflict_in k n) = false
is_refusal (searched k n g) = false
is_refusal (reported r) = false

-- taking back to the current level changes nothing
abbrev pub idle : State → Step → Bool
idle q (give l) = false
idle q open_level = false
idle q (take_back k) = eqb k q.level
idle q propagate = false
idle q (search ls) = false

abbrev pub unmoved : State → Step → Bool
unmoved q x = is_refusal (reply q (a_step x)).answer || idle q x

-- a whole area with the level and rows of the outcome; theory, atoms and the words past the need as they were. Pending marks are open
pub record Moved (lim : Limits) (w w' : List ℕ) (c' : Counters) (o : Outcome) : Type 0 where
  pub whole : Whole lim w' c'
  pub atoms : atoms_of w' ≡ atoms_of w
  pub theory : theory_of w' ≡ theory_of w
  pub level : level_of w' ≡ o.level
  pub rows : rows_of w' ≡ o.rows
  pub size : length w' ≡ length w
  pub rest : drop (need_of w) w' ≡ drop (need_of w) w

pub record Acts (lim : Limits) (w w' : List ℕ) (c c' : Counters) (x : Step) (p : Returned) : Type 0 where
  pub answer : Answered lim w c (a_step x) p
  pub broken : ¬ (Whole lim w c) → (w' ≡ w) × (c' ≡ c)
  pub kept : Whole lim w c → T (unmoved (area_state lim w) x) → (w' ≡ w) × (c' ≡ c)
  pub moved : Whole lim w c → T (not (unmoved (area_state lim w) x)) → Moved lim w w' c' (reply (area_state lim w) (a_step x))

-- ---- reports, which change no word of the area: `old` and `new` are the lent list before and after, empty where there is none

pub record Reports (lim : Limits) (w : List ℕ) (c : Counters) (x : Report) (old new : List ℤ) (p : Returned) : Type 0 where
  pub answer : Answered lim w c (a_report x (length old)) p
  pub broken : ¬ (Whole lim w c) → new ≡ old
  pub written : Whole lim w c → new ≡ list_after (reply (area_state lim w) (a_report x (length old))).answer old
