-- A sentence that may be named: the paper's number of it, 0 where there is none; and that none is named by the number 0.
use Rattle.std.specs.Prelude.{◌≡◌, ℕ, Option, Some, None}
use Rattle.types.specs.declared.Sentence.{Sentence}

abbrev pub number_of : Option Sentence → ℕ
number_of None = 0
number_of (Some k) = k.0

abbrev pub Named : Option Sentence → Type 0
Named None = Unit {0}
Named (Some k) = ¬ (k.0 ≡ 0)
