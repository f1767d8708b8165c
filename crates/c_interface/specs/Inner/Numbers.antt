-- The one number by a code and a value: what the code works with. `c_interface/proofs/Telling` says that it is the table's answer.
use Rattle.std.specs.Prelude.{Bool, not, cond, ◌||◌, ℕ, eqb, ltb, Result, Ok, Err}
use Rattle.book.specs.Table.{Returned}
use Rattle.calls.specs.declared.Refusal.{Refusal}
use Rattle.calls.specs.declared.Refusal.TheVariants.{TooShort}
use Rattle.calls.specs.Refusals as refusals
use Rattle.c_interface.specs.Interface.{packed}

-- of what the code hands back, a value or a refusal
abbrev pub value_in : Result ℕ Refusal → ℕ
value_in (Ok value) = value
value_in (Err e) = refusals.value_of e

abbrev pub number_in : Result ℕ Refusal → ℕ
number_in (Ok value) = packed 0 value
number_in (Err e) = packed (refusals.code_of e) (refusals.value_of e)

-- a refusal stays, and what is not refused is where the lent words are too few
module _ {A : Type 0} where
  abbrev pub readied : Result A Refusal → (needed room : ℕ) → Result A Refusal
  readied (Ok a) needed room = cond (ltb room needed) (Err (TooShort needed)) (Ok a)
  readied (Err e) needed room = Err e

-- a refusal's code and value, then 18 where the lent words are too few, with those that are needed; at code 0 the value that goes with it
abbrev pub one_number : (code value needed room last : ℕ) → ℕ
one_number code value needed room last = cond (eqb code 0) (cond (ltb room needed) (packed 18 needed) (packed 0 last)) (packed code value)

-- of the paper's numbers: at code 0 the value is the sentence in conflict, 0 where there is none
abbrev pub number_of : Returned → (needed room : ℕ) → ℕ
number_of p needed room = one_number p.code p.value needed room p.sentence

abbrev pub stopped : Returned → (needed room : ℕ) → Bool
stopped p needed room = not (eqb p.code 0) || ltb room needed
