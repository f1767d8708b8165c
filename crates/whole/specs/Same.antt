-- What two lists of words share: the words that say what a sentence is, and all that is read off them.
use Rattle.std.specs.Prelude.{◌≡◌, List, ℕ, ◌+◌, ◌%◌, ◌<◌}
use Rattle.area.specs.Layout.{word, atoms_of, level_of, rows_of, tag_at, theory_of}

-- the words of the sentence at b that say what it is, and not how it stands
pub record SameRecord (w w' : List ℕ) (b : ℕ) : Type 0 where
  pub head : word w' b ≡ word w b
  pub tag : tag_at w' b % 16 ≡ tag_at w b % 16
  pub tag_low : tag_at w' b < 32
  pub bound : word w' (b + 2) ≡ word w (b + 2)
  pub constant : word w' (b + 3) ≡ word w (b + 3)
  pub before : word w' (b + 6) ≡ word w (b + 6)
  pub counts : word w' (b + 7) ≡ word w (b + 7)

-- what is read off two lists is the same
pub record ReadAlike (w w' : List ℕ) : Type 0 where
  pub atoms : atoms_of w' ≡ atoms_of w
  pub level : level_of w' ≡ level_of w
  pub rows : rows_of w' ≡ rows_of w
  pub theory : theory_of w' ≡ theory_of w
