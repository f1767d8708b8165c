-- What each call promises where the counters are in the caller's hands: `c` are the counters lent, and `c'` those that the call leaves there.
use Rattle.std.specs.Prelude.{List, ℕ, ℤ, Result, Ok, Err, IfOk, pos}
use Rattle.types.specs.declared.Limits.{Limits}
use Rattle.types.specs.declared.Counters.{Counters}
use Rattle.book.specs.Table.{give, open_level, take_back, propagate, search, Returned}
use Rattle.calls.specs.declared.Refusal.{Refusal}
use Rattle.calls.specs.Calls.{counted, refused_returned, done_returned, Acts}
use Rattle.propagate.specs.Propagate.{plain}
use Rattle.search.specs.Search.{number_of, Named}
use Rattle.lent.specs.declared.Stop.{Stop}
use Rattle.lent.specs.declared.SearchStop.{SearchStop}

module _ {A : Type 0} where
  abbrev pub GivesIn : Limits → (w w' : List ℕ) → (c c' : Counters) → ℤ → Result A Refusal → Type 0
  GivesIn lim w w' c c' l r = Acts lim w w' (counted c) (counted c') (give l) (done_returned r)

  abbrev pub OpensIn : Limits → (w w' : List ℕ) → (c c' : Counters) → Result A Refusal → Type 0
  OpensIn lim w w' c c' r = Acts lim w w' (counted c) (counted c') open_level (done_returned r)

  abbrev pub TakesBackIn : Limits → (w w' : List ℕ) → (c c' : Counters) → ℕ → Result A Refusal → Type 0
  TakesBackIn lim w w' c c' k r = Acts lim w w' (counted c) (counted c') (take_back k) (done_returned r)

abbrev pub stopped_returned : Result Stop Refusal → Returned
stopped_returned (Ok s) = plain 0 s.count (number_of s.sentence)
stopped_returned (Err e) = refused_returned e

abbrev pub searched_returned : Result SearchStop Refusal → Returned
searched_returned (Ok s) = record { code = 0; value = s.stop.count; sentence = number_of s.stop.sentence; gone = s.gone; least_mark = 0; least = pos 0; greatest_mark = 0; greatest = pos 0 }
searched_returned (Err e) = refused_returned e

abbrev pub PropagatesIn : Limits → (w w' : List ℕ) → (c c' : Counters) → Result Stop Refusal → Type 0
PropagatesIn lim w w' c c' r = Acts lim w w' (counted c) (counted c') propagate (stopped_returned r) × IfOk r (λ s. Named s.sentence)

abbrev pub SearchesIn : Limits → (w w' : List ℕ) → (c c' : Counters) → (ls : List ℤ) → Result SearchStop Refusal → Type 0
SearchesIn lim w w' c c' ls r = Acts lim w w' (counted c) (counted c') (search ls) (searched_returned r) × IfOk r (λ s. Named s.stop.sentence)
