-- Document 01's number and value of each refusal of a call after load.
use Rattle.std.specs.Prelude.{ℕ, Result, Ok, Err}
use Rattle.calls.specs.declared.Refusal.{Refusal}
use Rattle.calls.specs.declared.Refusal.TheVariants.{NotWhole, NoAtom, OnTrail, NotOnTrail, Given, HighestLevel, LevelAbove, NoSentence, NoConflict, TooShort}

abbrev pub code_of : Refusal → ℕ
code_of NotWhole = 9
code_of NoAtom = 10
code_of OnTrail = 11
code_of NotOnTrail = 12
code_of Given = 13
code_of HighestLevel = 14
code_of LevelAbove = 15
code_of NoSentence = 16
code_of NoConflict = 17
code_of (TooShort needed) = 18

abbrev pub value_of : Refusal → ℕ
value_of NotWhole = 0
value_of NoAtom = 0
value_of OnTrail = 0
value_of NotOnTrail = 0
value_of Given = 0
value_of HighestLevel = 0
value_of LevelAbove = 0
value_of NoSentence = 0
value_of NoConflict = 0
value_of (TooShort needed) = needed

-- 0 where there is none
module _ {A : Type 0} where
  abbrev pub code_in : Result A Refusal → ℕ
  code_in (Ok a) = 0
  code_in (Err e) = code_of e
