-- What the answers of evaluating a stored sentence stand for.
use Rattle.std.specs.Prelude.{◌≡◌, List, ℕ, ◌≤◌, ℤ}
use Rattle.numbers.specs.Words.{literal_of}
use Rattle.meaning.specs.Meaning as m
use Rattle.meaning.specs.Computed.{first_said}
use Rattle.area.specs.Layout.{rule_at}
use Rattle.extremes.specs.Inner.Stored.{Shows}
use Rattle.evaluate.specs.declared.Said.{Said}
use Rattle.evaluate.specs.declared.Said.TheVariants.{Silent, Conflict, Forced}

-- an answer of the code as one of the meaning
abbrev pub said_of : Said → m.Said
said_of Silent = m.silent
said_of Conflict = m.conflict
said_of (Forced l) = m.forced (literal_of l)

-- what the sentence says first, over every trail that the values show; a forced literal's word is at least 2
pub record SaidIs (w : List ℕ) (n S b : ℕ) (r : Said) : Type 0 where
  pub said_is : (t : List ℤ) → Shows w n t → first_said (rule_at w n S b) t ≡ said_of r
  pub word_low : (l : ℕ) → r ≡ Forced l → 2 ≤ l
