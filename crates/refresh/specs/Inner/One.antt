-- What renewing one sentence asks and leaves.
use Rattle.std.specs.Prelude.{◌≡◌, Bool, not, List, ℕ, ◌+◌, ◌<◌, ◌≤◌, length}
use Rattle.decide.specs.Inner.Tells.{Tells}
use Rattle.area.specs.Layout.{word, tag_at}
use Rattle.extremes.specs.Inner.Stored.{EvaluateReady}
use Rattle.extremes.specs.declared.evaluable.Evaluable.{Evaluable}
use Rattle.refresh.specs.Inner.Refresh.{Untouched, SentenceRefreshed}

-- the sentence at b can be evaluated, and the table has a number for each atom
pub record TouchReady (w : List ℕ) (n S b : ℕ) (touched : List ℕ) : Type 0 where
  pub sentence : EvaluateReady w n S b
  pub tag : tag_at w b < 32
  pub table : length touched ≡ 4097

-- r tells whether an atom of the sentence changed
abbrev pub TouchTold : Evaluable → List ℕ → Bool → Type 0
TouchTold s touched r = Tells (not r) (Untouched s.area.now s.sizes.atoms s.sizes.sentences s.base touched)

-- only the record at b changes
pub record OneRefreshed (w w' : List ℕ) (n S b : ℕ) (touched : List ℕ) : Type 0 where
  pub size : length w' ≡ length w
  pub below : (i : ℕ) → i < b → word w' i ≡ word w i
  pub behind : (i : ℕ) → b + 8 ≤ i → word w' i ≡ word w i
  pub refreshed : SentenceRefreshed w w' n S b touched
