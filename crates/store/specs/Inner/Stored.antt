-- What storing leaves: all sentences behind a cleared trail. Words that it does not speak of keep what they held.
use Rattle.std.specs.Prelude.{◌≡◌, List, ℕ, ◌+◌, ◌*◌, ◌<◌, ◌≤◌, length}
use Rattle.types.specs.declared.Limits.{Limits}
use Rattle.types.specs.Limits.{Fitting}
use Rattle.decide.specs.Below.{sum_first}
use Rattle.area.specs.Layout.{word, written_at}
use Rattle.columns.specs.Columns.{Columns}
use Rattle.columns.specs.Columns as column
use Rattle.columns.specs.Refusals.{columns_need}
use Rattle.columns.specs.Decides.{Accepted}
use Rattle.stored_sentence.specs.Inner.Sentences.{Held}

pub record Cleared (w w' : List ℕ) (to first : ℕ) : Type 0 where
  pub size : length w' ≡ length w
  pub first_is : word w' 0 ≡ first
  pub blank : (i : ℕ) → 1 ≤ i → i < to → word w' i ≡ 0
  pub above : (i : ℕ) → to ≤ i → word w' i ≡ word w i

-- load refuses nothing, under limits that fit
pub record Admitted (w : List ℕ) (n : ℕ) (c : Columns) : Type 0 where
  pub lim : Limits
  pub fitting : Fitting lim
  pub accepted : Accepted lim (length w) n c

pub record AllStored (w w' : List ℕ) (n : ℕ) (c : Columns) : Type 0 where
  pub size : length w' ≡ length w
  pub first : word w' 0 ≡ n + 65536 * length c.heads
  pub blank : (i : ℕ) → 1 ≤ i → i < 4 * n → word w' i ≡ 0
  pub each : (s : ℕ) → s < length c.heads → Held w' n (length c.heads) s (sum_first c.counts s) (column.written_at c s)
  pub rest : (i : ℕ) → columns_need n c ≤ i → word w' i ≡ word w i
