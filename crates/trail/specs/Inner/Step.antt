-- The steps on the trail's words: a literal put on, the rows above a level taken off, the level set. Each is an equation or says of every
-- word what becomes of it; the words of the sentences stay.
use Rattle.std.specs.Prelude.{◌≡◌, List, ℕ, ◌+◌, ◌-◌, ◌*◌, ◌/◌, ◌%◌, ◌<◌, ◌≤◌, length, set}
use Rattle.types.specs.declared.Limits.{Limits}
use Rattle.types.specs.Limits.{Fitting}
use Rattle.book.specs.Rows.{up_to}
use Rattle.area.specs.Layout.{word, atoms_of, value_at, rows_from}
use Rattle.trail_check.specs.Trail.{HeaderOk, TrailOk}

-- what every step asks: word 0 and the trail are right
pub record TrailReady (lim : Limits) (w : List ℕ) (n len level : ℕ) : Type 0 where
  pub fitting : Fitting lim
  pub atoms : atoms_of w ≡ n
  pub header : HeaderOk lim w len level
  pub trail_ok : TrailOk w n len level
  pub fits : word w 0 < 18446744073709551616

-- ---- a literal put on: its word, and the word with level, reason and place

abbrev pub put_on : List ℕ → ℕ → ℕ → ℕ → ℕ → List ℕ
put_on w n len literal mark =
    set (set (set (set w 0 (word w 0 + 4294967296)) (n - 1 + literal / 2) (1 + 2 * len + literal % 2)) (2 * n + len) literal) (3 * n + len) mark

-- the literal is of an open atom
pub record Puttable (w : List ℕ) (n literal : ℕ) : Type 0 where
  pub low : 2 ≤ literal
  pub high : literal / 2 ≤ n
  pub free_atom : value_at w n (literal / 2) ≡ 0

-- ---- the rows above level k taken off: the table marks the atoms that were on them

pub record Cut (w w' : List ℕ) (n len level k left : ℕ) (touched : List ℕ) : Type 0 where
  pub size : length w' ≡ length w
  pub few : left ≤ len
  pub rows : rows_from w' n left ≡ up_to k (rows_from w n len)
  pub trail_ok : TrailOk w' n left k
  pub first : word w' 0 ≡ word w 0
  pub behind : (i : ℕ) → 4 * n ≤ i → word w' i ≡ word w i
  -- a kept row keeps its words
  pub kept : (i : ℕ) → i < left → (word w' (2 * n + i) ≡ word w (2 * n + i)) × (word w' (3 * n + i) ≡ word w (3 * n + i))
  pub table : length touched ≡ 4097
  -- an atom that is not marked has its value
  pub values : (a : ℕ) → 1 ≤ a → a ≤ n → word touched a ≡ 0 → value_at w' n a ≡ value_at w n a
