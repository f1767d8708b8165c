-- What each public call promises, for any limits; `dalelead/src` has document 01's. No call asks anything of its caller.
-- `w` and `w'` are the words before and after, `c` the counters that the call got.
use Rattle.std.specs.Prelude.{List, ℕ, ℤ, Result, IfOk}
use Rattle.types.specs.declared.Limits.{Limits}
use Rattle.types.specs.declared.Counters.{Counters}
use Rattle.book.specs.Table.{give, open_level, take_back, propagate, search, bounds, explain, explain_conflict, origin, list_trail, a_report}
use Rattle.calls.specs.Calls.{counted, counters_after, done_returned, bounds_returned, listed_returned, Answered, Acts, Reports}
use Rattle.calls.specs.declared.Refusal.{Refusal}
use Rattle.calls.specs.declared.Bounds.{Bounds}
use Rattle.propagate.specs.Propagate.{propagated_returned, counters_stopped, SentenceNamed}
use Rattle.propagate.specs.declared.Propagated.{Propagated}
use Rattle.search.specs.Search.{searched_returned, counters_searched, Named}
use Rattle.search.specs.declared.Searched.{Searched}

abbrev pub Gives : Limits → (w w' : List ℕ) → Counters → ℤ → Result Counters Refusal → Type 0
Gives lim w w' c l r = Acts lim w w' (counted c) (counted (counters_after c r)) (give l) (done_returned r)

abbrev pub Opens : Limits → (w w' : List ℕ) → Counters → Result Counters Refusal → Type 0
Opens lim w w' c r = Acts lim w w' (counted c) (counted (counters_after c r)) open_level (done_returned r)

abbrev pub TakesBack : Limits → (w w' : List ℕ) → Counters → ℕ → Result Counters Refusal → Type 0
TakesBack lim w w' c k r = Acts lim w w' (counted c) (counted (counters_after c r)) (take_back k) (done_returned r)

abbrev pub Propagates : Limits → (w w' : List ℕ) → Counters → Result Propagated Refusal → Type 0
Propagates lim w w' c r = Acts lim w w' (counted c) (counted (counters_stopped c r)) propagate (propagated_returned r) × IfOk r SentenceNamed

abbrev pub SearchesFor : Limits → (w w' : List ℕ) → Counters → (ls : List ℤ) → Result Searched Refusal → Type 0
SearchesFor lim w w' c ls r = Acts lim w w' (counted c) (counted (counters_searched c r)) (search ls) (searched_returned r) × IfOk r (λ s. Named s.sentence)

abbrev pub ReadsBounds : Limits → (w : List ℕ) → Counters → ℕ → Result Bounds Refusal → Type 0
ReadsBounds lim w c k r = Answered lim w (counted c) (a_report (bounds k) 0) (bounds_returned r)

-- `old` and `new` are the lent list before and after
abbrev pub ListsExplanation : Limits → (w : List ℕ) → Counters → ℤ → (old new : List ℤ) → Result ℕ Refusal → Type 0
ListsExplanation lim w c l old new r = Reports lim w (counted c) (explain l) old new (listed_returned r)

abbrev pub ListsConflict : Limits → (w : List ℕ) → Counters → ℕ → (old new : List ℤ) → Result ℕ Refusal → Type 0
ListsConflict lim w c k old new r = Reports lim w (counted c) (explain_conflict k) old new (listed_returned r)

abbrev pub ListsOrigin : Limits → (w : List ℕ) → Counters → ℤ → (old new : List ℤ) → Result ℕ Refusal → Type 0
ListsOrigin lim w c l old new r = Reports lim w (counted c) (origin l) old new (listed_returned r)

abbrev pub ListsTrail : Limits → (w : List ℕ) → Counters → (old new : List ℤ) → Result ℕ Refusal → Type 0
ListsTrail lim w c old new r = Reports lim w (counted c) list_trail old new (listed_returned r)
