-- What the check of the reasons asks, and where a reason has its atom.
use Rattle.std.specs.Prelude.{◌≡◌, List, ℕ, ◌+◌, ◌*◌, ◌<◌, ◌≤◌, length, get_or}
use Rattle.types.specs.declared.Limits.{Limits}
use Rattle.types.specs.Limits.{widest, Fitting}
use Rattle.meaning.specs.Merge.{scope}
use Rattle.area.specs.Layout.{word, merged_at, entry_at, rule_at}
use Rattle.theory_check.specs.Theory.{PlacesOk}

-- ---- the reasons of the first len rows

-- what the check asks: the trail is inside, and every sentence has its room
pub record Reasonable (lim : Limits) (w : List ℕ) (n S len : ℕ) : Type 0 where
  pub fitting : Fitting lim
  pub atoms_low : 1 ≤ n
  pub atoms_high : n ≤ lim.atoms
  pub sentences : S ≤ lim.sentences
  pub few : len ≤ n
  pub places : PlacesOk lim w n S
  -- the trail's literals are of atoms
  pub literals : (i : ℕ) → i < len → 2 ≤ word w (2 * n + i)

-- ---- where a reason has its atom

-- what reading the scope of the sentence at b asks
pub record ScopeAsked (w : List ℕ) (n S b : ℕ) : Type 0 where
  pub atoms : n ≤ widest.atoms
  pub sentences : S ≤ widest.sentences
  pub own : b + 8 ≤ length w
  pub room : entry_at w n S b + 2 * merged_at w b ≤ length w

-- the sentence at b has the atom at a place of its scope: 0 the head, j from 1 merged entry j
abbrev pub HasAtom : List ℕ → ℕ → ℕ → ℕ → ℕ → ℕ → Type 0
HasAtom w n S b j a = get_or (scope (rule_at w n S b)) j 0 ≡ a
