-- What origin marks: positions of the trail, from a literal's own down to those of its origins.
use Rattle.std.specs.Prelude.{◌≡◌, ◌⊎◌, List, ℕ, suc, ◌<◌, ◌≤◌, length, get_or}
use Rattle.meaning.specs.Merge.{scope}
use Rattle.book.specs.Rows.{trail, causes}
use Rattle.book.specs.Means.{Among}
use Rattle.area.specs.Layout.{row_at, rows_from, record_at, rule_at}
use Rattle.extremes.specs.Inner.Stored.{EvaluateReady}
use Rattle.causes.specs.Inner.Causes.{TrailAsked}

-- what marking from position p down asks of the area and the table of marks
pub record Markable (w : List ℕ) (n S p : ℕ) (m : List ℕ) : Type 0 where
  pub rows : ℕ
  pub position : p < rows
  pub trail_asked : TrailAsked w n rows
  pub reasons : (i : ℕ) → i < rows → (row_at w n i).reason ≤ S
  pub sentence : (s : ℕ) → s < S → EvaluateReady w n S (record_at n s)
  pub room : rows ≤ length m

-- position i is marked
abbrev pub Marked : List ℕ → ℕ → Type 0
Marked m i = 0 < get_or m i 0

-- position i stands before `limit`, and its literal is a cause by sentence s over the trail before `limit`
pub record CauseNamed (w : List ℕ) (n S s limit i : ℕ) : Type 0 where
  pub earlier : i < limit
  pub among : Among (row_at w n i).literal (causes (trail (rows_from w n limit)) (scope (rule_at w n S (record_at n s))))

-- position k's literal was derived, and that of position i is one of its causes
pub record Cause (w : List ℕ) (n S k i : ℕ) : Type 0 where
  pub sentence : ℕ
  pub reason : (row_at w n k).reason ≡ suc sentence
  pub named : CauseNamed w n S sentence k i

-- what handling position k adds to the marks m: its causes, where it is marked
abbrev pub MarkStep : List ℕ → (n S : ℕ) → List ℕ → (k i : ℕ) → Type 0
MarkStep w n S m k i = Marked m k × Cause w n S k i

-- from the marks m, down from position p: what is marked, and the causes of what is reached
pub data Reached (w : List ℕ) (n S p : ℕ) (m : List ℕ) : ℕ → Type 0 where
  start : {j : ℕ} → Marked m j → Reached w n S p m j
  next : {k j : ℕ} → k ≤ p → Reached w n S p m k → Cause w n S k j → Reached w n S p m j

-- the positions that have P, and no others, are marked besides those of m
pub record Adds (P : ℕ → Type 0) (m m' : List ℕ) : Type 0 where
  pub size : length m' ≡ length m
  pub kept : (i : ℕ) → Marked m i → Marked m' i
  pub added : (i : ℕ) → P i → Marked m' i
  pub only : (i : ℕ) → Marked m' i → Marked m i ⊎ P i
