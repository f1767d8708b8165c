-- What the check of word 0 and of the trail's words decides: the clauses of `Whole` that speak of them, for n atoms and a trail of len
-- rows.
use Rattle.std.specs.Prelude.{◌≡◌, List, ℕ, ◌+◌, ◌*◌, ◌<◌, ◌≤◌, length}
use Rattle.types.specs.declared.Limits.{Limits}
use Rattle.area.specs.Layout.{word, atoms_of, sentences_of, length_of, level_of, value_at, literal_at, cause_at, rows_from, value_word}
use Rattle.area.specs.Whole.{AtomsOnce, Rising}

-- word 0: limits, room for the trail and the records, and the counters
pub record HeaderOk (lim : Limits) (w : List ℕ) (len level : ℕ) : Type 0 where
  pub atoms_low : 1 ≤ atoms_of w
  pub atoms_high : atoms_of w ≤ lim.atoms
  pub sentences : sentences_of w ≤ lim.sentences
  pub records : 4 * atoms_of w + 8 * sentences_of w ≤ length w
  pub length_is : length_of w ≡ len
  pub level_is : level_of w ≡ level
  pub level_limit : level_of w ≤ lim.levels
  pub few : len ≤ atoms_of w

-- the words of the trail
pub record TrailOk (w : List ℕ) (n len level : ℕ) : Type 0 where
  pub atoms : AtomsOnce n (rows_from w n len)
  pub values : (a : ℕ) → 1 ≤ a → a ≤ n → value_at w n a ≡ value_word (rows_from w n len) a
  pub rising : Rising level (rows_from w n len)
  pub front : (i : ℕ) → 1 ≤ i → i < n → word w i ≡ 0
  pub literals : (i : ℕ) → len ≤ i → i < n → literal_at w n i ≡ 0
  pub marks : (i : ℕ) → len ≤ i → i < n → cause_at w n i ≡ 0
