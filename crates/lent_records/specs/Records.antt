-- The columns of a list of records.
use Rattle.std.specs.Prelude.{List, [], ◌∷◌, ℤ}
use Rattle.lent_records.specs.declared.Weighted.{Weighted}

unfoldable pub weights_in : List Weighted → List ℤ
weights_in [] = []
weights_in (r ∷ rs) = r.weight ∷ weights_in rs

unfoldable pub literals_in : List Weighted → List ℤ
literals_in [] = []
literals_in (r ∷ rs) = r.literal ∷ literals_in rs
