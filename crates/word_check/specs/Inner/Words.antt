-- The clauses of a sentence's wholeness that speak of single words: an entry's, the constant's, and the running product of the weights.
use Rattle.std.specs.Prelude.{◌≡◌, ℕ, ◌*◌, ◌-◌, ◌<◌, ◌≤◌}
use Rattle.types.specs.Limits.{weight_limit, bound_limit}
use Rattle.numbers.specs.Words.{half, unbias}
use Rattle.meaning.specs.Meaning.{Kind, sum, product, count, maximum, minimum}
use Rattle.area.specs.Whole.{Near}

-- at most 10^9 for each written entry in a sum or count; the word of the other kinds is unused
abbrev pub ConstantOk : Kind → ℕ → ℕ → Type 0
ConstantOk sum written x = Near (unbias x) (weight_limit * written)
ConstantOk product written x = x ≡ 0
ConstantOk count written x = Near (unbias x) (weight_limit * written)
ConstantOk maximum written x = x ≡ 0
ConstantOk minimum written x = x ≡ 0

-- `next` is a product with one weight more; the other kinds have no product
pub record Grown (kind : Kind) (so_far weight next : ℕ) : Type 0 where
  pub is : kind ≡ product → next ≡ so_far * (weight - half)
  pub low : 1 ≤ next
  pub high : next ≤ bound_limit

-- with one weight more a product passes 10^18
pub record Past (kind : Kind) (so_far weight : ℕ) : Type 0 where
  pub is : kind ≡ product
  pub past : bound_limit < so_far * (weight - half)
