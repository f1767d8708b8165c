-- What wholeness gives, of a reason, of stored bounds and of a sentence that is not pending.
use Rattle.std.specs.Prelude.{◌≡◌, false, List, ℕ, ◌<◌, ℤ}
use Rattle.numbers.specs.Extended.{up, down}
use Rattle.numbers.specs.Words.{unword}
use Rattle.meaning.specs.Meaning.{atom, silent}
use Rattle.meaning.specs.Merge.{Rule, scope}
use Rattle.meaning.specs.Computed.{extreme, refuted, due, first_said}
use Rattle.book.specs.Sound.{In}
use Rattle.area.specs.Layout.{row_at, record_at, least_at, greatest_at, rule_at}

-- a sentence of the area that has the row's atom
pub record ReasonInside (w : List ℕ) (n S i s : ℕ) : Type 0 where
  pub sentence : s < S
  pub inside : In (atom (row_at w n i).literal) (scope (rule_at w n S (record_at n s)))

-- the stored bounds of the sentence at b are the extremes over the trail
pub record BoundsAre (w : List ℕ) (n S b : ℕ) (t : List ℤ) : Type 0 where
  pub least : unword (least_at w b) ≡ extreme down (rule_at w n S b) t
  pub greatest : unword (greatest_at w b) ≡ extreme up (rule_at w n S b) t

-- nothing is said: it is not in conflict, and no literal is due
pub record IsSilent (r : Rule) (t : List ℤ) : Type 0 where
  pub said : first_said r t ≡ silent
  pub no_conflict : refuted r t ≡ false
  pub none_due : (l : ℤ) → due r t l ≡ false
