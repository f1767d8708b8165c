-- Whether a stored sentence is in conflict.
use Rattle.std.specs.Prelude.{◌≡◌, Bool, List, ℕ, ℤ}
use Rattle.meaning.specs.Computed.{first_said}
use Rattle.book.specs.Table.{is_conflict}
use Rattle.area.specs.Layout.{least_at, greatest_at, rule_at}
use Rattle.extremes.specs.Inner.Stored.{Shows}
use Rattle.extremes.specs.Inner.Of.{ExtremesOf}
use Rattle.extremes.specs.declared.evaluable.Evaluable.{Evaluable}

-- the stored bounds of the sentence are its extremes
abbrev pub BoundsStored : Evaluable → Type 0
BoundsStored s = ExtremesOf s (record { least = least_at s.area.now s.base; greatest = greatest_at s.area.now s.base })

-- r says whether the sentence at b is in conflict, over every trail that the values show
abbrev pub ConflictIs : List ℕ → ℕ → ℕ → ℕ → Bool → Type 0
ConflictIs w n S b r = (t : List ℤ) → Shows w n t → r ≡ is_conflict (first_said (rule_at w n S b) t)

abbrev pub ConflictOf : Evaluable → Bool → Type 0
ConflictOf s r = ConflictIs s.area.now s.sizes.atoms s.sizes.sentences s.base r
