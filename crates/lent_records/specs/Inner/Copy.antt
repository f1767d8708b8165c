-- What the copy of a list of records into two arrays leaves.
use Rattle.std.specs.Prelude.{◌≡◌, List, ℕ, ◌≤◌, length, take}
use Rattle.lent_records.specs.Records.{weights_in, literals_in}
use Rattle.lent_records.specs.declared.Weighted.{Weighted}
use Rattle.lent_records.specs.declared.Copied.{Copied}

-- the records are counted, and where they fit, at most so many, their columns are the fronts of the two arrays
pub record CopyOf (most : ℕ) (rs : List Weighted) (r : Copied) : Type 0 where
  pub count_is : r.count ≡ length rs
  pub weights_are : length rs ≤ most → take (length rs) r.weights ≡ weights_in rs
  pub literals_are : length rs ≤ most → take (length rs) r.literals ≡ literals_in rs
