-- Where literals stand among the first rows of the stored trail: the literal of an atom, and a literal given by a caller.
use Rattle.std.specs.Prelude.{◌≡◌, true, false, List, ◌∷◌, ℕ, ◌<◌, ◌≤◌, ℤ, Option, MatchOption, get_or}
use Rattle.meaning.specs.Meaning.{same}
use Rattle.meaning.specs.Merge.{scope}
use Rattle.book.specs.Rows.{trail, pick, row_of, any}
use Rattle.area.specs.Layout.{value_at, row_at, rows_from, value_word, rule_at}
use Rattle.area.specs.Whole.{AtomsOnce}
use Rattle.trail_check.specs.Inner.Places.{TrailRoom}
use Rattle.extremes.specs.declared.evaluable.Evaluable.{Evaluable}

-- ---- what is asked

-- the trail of len rows has each atom once, and its values are stored
pub record TrailAsked (w : List ℕ) (n len : ℕ) : Type 0 where
  pub room : TrailRoom w n len
  pub atoms : AtomsOnce n (rows_from w n len)
  pub values : (a : ℕ) → 1 ≤ a → a ≤ n → value_at w n a ≡ value_word (rows_from w n len) a

-- the first `limit` rows are of such a trail
pub record CausesAsked (w : List ℕ) (n limit : ℕ) : Type 0 where
  pub rows : ℕ
  pub trail_asked : TrailAsked w n rows
  pub few : limit ≤ rows

-- ---- what is told

-- r is the atom a, which is one of n
pub record AtomAt (n a r : ℕ) : Type 0 where
  pub is : r ≡ a
  pub low : 1 ≤ r
  pub high : r ≤ n

-- the trail before row `limit`
abbrev pub before : List ℕ → ℕ → ℕ → List ℤ
before w n limit = trail (rows_from w n limit)

-- the literal of atom a stands at position p, among the first `limit` rows
pub record CauseStands (w : List ℕ) (n a limit p : ℕ) : Type 0 where
  pub inside : p < limit
  pub picked : (rest : List ℤ) → pick (before w n limit) a rest ≡ (row_at w n p).literal ∷ rest

-- where the literal of atom a stands among the first `limit` rows, or none where it is not among them
abbrev pub CauseAt : List ℕ → ℕ → ℕ → ℕ → Option ℕ → Type 0
CauseAt w n a limit r = MatchOption r ((rest : List ℤ) → pick (before w n limit) a rest ≡ rest) (λ p. CauseStands w n a limit p)

-- the atom at a place of the sentence: 0 its head, j its merged entry j from 1
abbrev pub atom_of : Evaluable → ℕ → ℕ
atom_of s place = get_or (scope (rule_at s.area.now s.sizes.atoms s.sizes.sentences s.base)) place 0

abbrev pub CauseOf : Evaluable → (place limit : ℕ) → Option ℕ → Type 0
CauseOf s place limit r = CauseAt s.area.now s.sizes.atoms (atom_of s place) limit r

-- the literal l stands at position p, among the first len rows
pub record Stands (w : List ℕ) (n : ℕ) (l : ℤ) (len p : ℕ) : Type 0 where
  pub inside : p < len
  pub literal_is : (row_at w n p).literal ≡ l
  pub row_is : row_of l (rows_from w n len) ≡ record { mine = row_at w n p; before = rows_from w n p }
  pub found : any (same l) (before w n len) ≡ true

-- where the literal l stands among the first len rows, or none where it is not among them
abbrev pub PositionIs : List ℕ → ℕ → ℤ → ℕ → Option ℕ → Type 0
PositionIs w n l len r = MatchOption r (any (same l) (before w n len) ≡ false) (λ p. Stands w n l len p)
