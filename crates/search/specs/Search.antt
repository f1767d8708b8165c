-- The paper's numbers for the search's answer.
use Rattle.std.specs.Prelude.{pos, Result, Ok, Err}
use Rattle.types.specs.declared.Counters as t
pub use Rattle.types.specs.Sentences.{number_of, Named}
use Rattle.book.specs.Table.{Returned}
use Rattle.calls.specs.declared.Refusal.{Refusal}
use Rattle.calls.specs.Calls.{refused_returned}
pub use Rattle.candidates.specs.Inner.Candidates.{AllKnown}
use Rattle.search.specs.declared.Searched.{Searched}

abbrev pub end_returned : Searched → Returned
end_returned r =
    record { code = 0; value = r.count; sentence = number_of r.sentence; gone = r.gone; least_mark = 0; least = pos 0; greatest_mark = 0; greatest = pos 0 }

abbrev pub searched_returned : Result Searched Refusal → Returned
searched_returned (Ok r) = end_returned r
searched_returned (Err e) = refused_returned e

-- the counters that a caller holds after a call that had c: a refused one hands back none
abbrev pub counters_searched : t.Counters → Result Searched Refusal → t.Counters
counters_searched c (Ok r) = r.counters
counters_searched c (Err e) = c
