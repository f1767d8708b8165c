-- Document 01's number and sentence of each refusal of load, and of a load that is not refused.
use Rattle.std.specs.Prelude.{ℕ, Result, Ok, Err}
use Rattle.columns.specs.declared.Answer.{Answer}
use Rattle.columns.specs.declared.Fault.{Fault}
use Rattle.columns.specs.declared.Fault.TheVariants.{Unknown, Strange, OutOfRange, OwnHead, BothSigns, TooGreat}
use Rattle.columns.specs.declared.Refusal.{Refusal}
use Rattle.columns.specs.declared.Refusal.TheVariants.{Misshapen, TooShort, Faulty}

abbrev pub answer : (code sentence : ℕ) → Answer
answer code k = record { code = code; sentence = record { 0 = k } }

abbrev pub fault_code : Fault → ℕ
fault_code Unknown = 3
fault_code Strange = 4
fault_code OutOfRange = 5
fault_code OwnHead = 6
fault_code BothSigns = 7
fault_code TooGreat = 8

abbrev pub refusal_answer : Refusal → Answer
refusal_answer Misshapen = answer 1 0
refusal_answer TooShort = answer 2 0
refusal_answer (Faulty k fault) = answer (fault_code fault) k.0

-- 0 and 0 where there is none
module _ {A : Type 0} where
  abbrev pub answer_of : Result A Refusal → Answer
  answer_of (Ok a) = answer 0 0
  answer_of (Err e) = refusal_answer e

  -- of one sentence
  abbrev pub fault_in : Result A Fault → ℕ
  fault_in (Ok a) = 0
  fault_in (Err e) = fault_code e
