-- What the check of the sentences asks and decides. It looks at the stored values, so it decides over every trail that they show.
use Rattle.std.specs.Prelude.{Bool, List, ℕ, ◌<◌, ◌≤◌, ℤ}
use Rattle.types.specs.declared.Limits.{Limits}
use Rattle.types.specs.Limits.{Fitting}
use Rattle.decide.specs.Inner.Tells.{Tells}
use Rattle.area.specs.Layout.{record_at}
use Rattle.extremes.specs.Inner.Stored.{Shows}
use Rattle.extremes.specs.declared.evaluable.Evaluable.{Evaluable}
use Rattle.theory_check.specs.Theory.{PlacesOk}
use Rattle.whole.specs.Parts.{Matching, SentenceRight}

-- word 0 and the places are right
pub record SentencesAsked (lim : Limits) (w : List ℕ) (n S : ℕ) : Type 0 where
  pub fitting : Fitting lim
  pub atoms_low : 1 ≤ n
  pub atoms_high : n ≤ lim.atoms
  pub sentences : S ≤ lim.sentences
  pub places : PlacesOk lim w n S

-- r tells of P over every trail that the values show
abbrev pub TellsOver : List ℕ → ℕ → Bool → (List ℤ → Type 0) → Type 0
TellsOver w n r P = (t : List ℤ) → Shows w n t → Tells r (P t)

-- r tells whether the sentence matches
abbrev pub MatchingTold : Evaluable → Bool → Type 0
MatchingTold s r = TellsOver s.area.now s.sizes.atoms r (Matching s.area.now s.sizes.atoms s.sizes.sentences s.base)

-- the first k sentences are right over the trail t
abbrev pub RightBelow : Limits → List ℕ → ℕ → ℕ → ℕ → List ℤ → Type 0
RightBelow lim w n S k t = (s : ℕ) → s < k → SentenceRight lim w n S (record_at n s) t
