-- What renewing the stored bounds asks and leaves, after the values of some atoms changed: a sentence with such an atom gets the extremes
-- over the values as they now are, and is marked as pending; the others keep their words.
use Rattle.std.specs.Prelude.{◌≡◌, true, ◌⊎◌, List, ℕ, ◌*◌, ◌<◌, ◌≤◌, length}
use Rattle.types.specs.declared.Limits.{Limits}
use Rattle.types.specs.Limits.{Fitting}
use Rattle.meaning.specs.Meaning.{Each}
use Rattle.meaning.specs.Merge.{scope}
use Rattle.area.specs.Layout.{word, record_at, tag_at, pending_at, least_at, greatest_at, rule_at}
use Rattle.theory_check.specs.Theory.{PlacesOk, SentenceOk}
use Rattle.extremes.specs.Inner.Stored.{ExtremesAre}
use Rattle.whole.specs.Same.{SameRecord}

-- the stored sentences are whole; the table has a number for each atom, not 0 where its value changed
pub record Refreshable (lim : Limits) (w : List ℕ) (n S : ℕ) (touched : List ℕ) : Type 0 where
  pub fitting : Fitting lim
  pub atoms_low : 1 ≤ n
  pub atoms_high : n ≤ lim.atoms
  pub sentences : S ≤ lim.sentences
  pub places : PlacesOk lim w n S
  pub each : (s : ℕ) → s < S → SentenceOk lim w n S (record_at n s)
  pub table : length touched ≡ 4097

-- no atom of the sentence changed
abbrev pub Untouched : List ℕ → ℕ → ℕ → ℕ → List ℕ → Type 0
Untouched w n S b touched = Each (λ a. word touched a ≡ 0) (scope (rule_at w n S b))

pub record AsBefore (w w' : List ℕ) (b : ℕ) : Type 0 where
  pub tag : tag_at w' b ≡ tag_at w b
  pub least : least_at w' b ≡ least_at w b
  pub greatest : greatest_at w' b ≡ greatest_at w b

pub record Renewed (w w' : List ℕ) (n S b : ℕ) : Type 0 where
  pub marked : pending_at w' b ≡ true
  pub extremes : ExtremesAre w n S b (record { least = least_at w' b; greatest = greatest_at w' b })

pub record SentenceRefreshed (w w' : List ℕ) (n S b : ℕ) (touched : List ℕ) : Type 0 where
  pub same : SameRecord w w' b
  pub how : (Untouched w n S b touched × AsBefore w w' b) ⊎ Renewed w w' n S b

-- the first s sentences
pub record RefreshedTo (w w' : List ℕ) (n S : ℕ) (touched : List ℕ) (s : ℕ) : Type 0 where
  pub size : length w' ≡ length w
  pub front : (i : ℕ) → i < 4 * n → word w' i ≡ word w i
  pub behind : (i : ℕ) → record_at n s ≤ i → word w' i ≡ word w i
  pub each : (k : ℕ) → k < s → SentenceRefreshed w w' n S (record_at n k) touched

abbrev pub Refreshed : List ℕ → List ℕ → ℕ → ℕ → List ℕ → Type 0
Refreshed w w' n S touched = RefreshedTo w w' n S touched S
