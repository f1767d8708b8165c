-- What merging a written set into a part of the area leaves: the merged entries first, and words 0 behind them.
use Rattle.std.specs.Prelude.{◌≡◌, not, List, ℕ, ◌+◌, ◌*◌, ◌<◌, ◌≤◌, ℤ, length, take, T}
use Rattle.numbers.specs.Words.{unbias}
use Rattle.meaning.specs.Meaning.{Kind, mixes, count}
use Rattle.meaning.specs.Merge.{merge, constant, nonzero}
use Rattle.area.specs.Layout.{word, entries_of}
use Rattle.columns.specs.Columns.{paired}
use Rattle.gather.specs.declared.Merged.{Merged}
use Rattle.gather.specs.Inner.Gather.{first_entries, Literals}

-- the first n entries without those of weight 0
pub record Sifted (before part : List ℕ) (n r : ℕ) : Type 0 where
  pub entries : first_entries part r ≡ nonzero (first_entries before n)
  pub literals : Literals before n → Literals part r
  pub few : r ≤ n

-- the part holds the merge of the set; a kind without a constant has the word 0 for it
pub record MergedInto (part : List ℕ) (kind : Kind) (ws ls : List ℤ) (r : Merged) : Type 0 where
  pub size : length part ≡ 2 * length ws
  pub count : r.count ≤ length ws
  pub entries : entries_of (take (2 * r.count) part) ≡ (merge kind (paired ws ls)).entries
  pub literals : (i : ℕ) → i < r.count → 2 ≤ word part (2 * i + 1)
  pub rest : (i : ℕ) → 2 * r.count ≤ i → i < 2 * length ws → word part i ≡ 0
  pub constant : T (mixes kind) → unbias r.constant ≡ (merge kind (paired ws ls)).constant
  pub no_constant : T (not (mixes kind)) → r.constant ≡ 0
