-- What evaluating a stored sentence asks of the words, and what its extremes stand for.
use Rattle.std.specs.Prelude.{◌≡◌, List, ℕ, ◌+◌, ◌*◌, ◌%◌, ◌≤◌, length, ℤ}
use Rattle.std.specs.Coded.{le_prop}
use Rattle.types.specs.Limits.{widest}
use Rattle.numbers.specs.Words.{word as word_of}
use Rattle.numbers.specs.Extended.{up, down}
use Rattle.meaning.specs.Computed.{standing_of, extreme}
pub use Rattle.area.specs.Layout.{standing_word}
use Rattle.area.specs.Layout.{tag_at, merged_at, value_at, entry_at, rule_at}
use Rattle.area.specs.Whole.{RuleWhole}
use Rattle.area.specs.Inner.Once.{rule_prop}
use Rattle.extremes.specs.declared.Extremes.{Extremes}

-- the stored values of atoms 1 to n are those of the trail
abbrev pub Shows : List ℕ → ℕ → List ℤ → Type 0
Shows w n t = (a : ℕ) → 1 ≤ a → a ≤ n → standing_of t a ≡ standing_word (value_at w n a)

-- the sentence at b, of n atoms and S sentences, is whole, and its words and the values stand inside the area
pub record EvaluateReady (w : List ℕ) (n S b : ℕ) : Type 0 where
  pub atoms_low : 1 ≤ n
  pub atoms_high : n ≤ widest.atoms
  pub sentences : S ≤ widest.sentences
  pub values : 4 * n ≤ length w
  pub own : b + 8 ≤ length w
  pub entries : entry_at w n S b + 2 * merged_at w b ≤ length w
  pub merged : merged_at w b ≤ widest.each
  pub kind : tag_at w b % 8 ≤ 4
  pub rule : RuleWhole widest n (rule_at w n S b)

-- a fact about a sentence has one proof at most
pub ready_prop : (w : List ℕ) (n S b : ℕ) → IsProp (EvaluateReady w n S b)
ready_prop w n S b = hlevel (le_prop, rule_prop widest n (rule_at w n S b))

-- the words of the least and greatest value over every trail that the values show
pub record ExtremesAre (w : List ℕ) (n S b : ℕ) (r : Extremes) : Type 0 where
  pub least_is : (t : List ℤ) → Shows w n t → r.least ≡ word_of (extreme down (rule_at w n S b) t)
  pub greatest_is : (t : List ℤ) → Shows w n t → r.greatest ≡ word_of (extreme up (rule_at w n S b) t)
