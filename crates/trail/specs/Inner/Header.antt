-- Word 0 made of its fields: atoms, sentences, the trail's length, level.
use Rattle.std.specs.Prelude.{ℕ, ◌+◌, ◌*◌}

abbrev pub header_word : ℕ → ℕ → ℕ → ℕ → ℕ
header_word n S len level = n + 65536 * S + 4294967296 * len + 281474976710656 * level
