-- The paper's number and values for each case of propagate's answer.
use Rattle.std.specs.Prelude.{◌≡◌, ℕ, pos, Result, Ok, Err}
use Rattle.types.specs.declared.Counters as t
use Rattle.book.specs.Table.{Returned}
use Rattle.calls.specs.declared.Refusal.{Refusal}
use Rattle.calls.specs.Calls.{refused_returned}
use Rattle.propagate.specs.declared.Propagated.{Propagated}
use Rattle.propagate.specs.declared.Propagated.TheVariants.{Still, Conflict}

abbrev pub plain : ℕ → ℕ → ℕ → Returned
plain code value sentence =
    record { code = code; value = value; sentence = sentence; gone = 0; least_mark = 0; least = pos 0; greatest_mark = 0; greatest = pos 0 }

abbrev pub stop_returned : Propagated → Returned
stop_returned (Still n c) = plain 0 n 0
stop_returned (Conflict k n c) = plain 0 n k.0

abbrev pub propagated_returned : Result Propagated Refusal → Returned
propagated_returned (Ok a) = stop_returned a
propagated_returned (Err e) = refused_returned e

abbrev pub counters_of : Propagated → t.Counters
counters_of (Still n c) = c
counters_of (Conflict k n c) = c

-- the counters that a caller holds after a call that had c: a refused one hands back none
abbrev pub counters_stopped : t.Counters → Result Propagated Refusal → t.Counters
counters_stopped c (Ok a) = counters_of a
counters_stopped c (Err e) = c

-- a conflict names a sentence, so that it is not read as still
abbrev pub SentenceNamed : Propagated → Type 0
SentenceNamed (Still n c) = Unit {0}
SentenceNamed (Conflict k n c) = ¬ (k.0 ≡ 0)
