-- The own words of a sentence's record, as their check takes them.
use Rattle.std.specs.Prelude.{List, ℕ, ◌+◌, ◌<◌, ◌≤◌, ◌%◌}
use Rattle.types.specs.Limits.{bound_limit}
use Rattle.numbers.specs.Words.{unbias}
use Rattle.area.specs.Layout.{word, tag_at, written_at, kind_of}
use Rattle.area.specs.Whole.{Near}
use Rattle.word_check.specs.Inner.Words.{ConstantOk}

pub record RecordOk (w : List ℕ) (n b : ℕ) : Type 0 where
  pub head_low : 1 ≤ word w b
  pub head_high : word w b ≤ n
  pub kind : tag_at w b % 8 ≤ 4
  pub tag : tag_at w b < 32
  pub bound : Near (unbias (word w (b + 2))) bound_limit
  pub constant : ConstantOk (kind_of (tag_at w b % 8)) (written_at w b) (word w (b + 3))
