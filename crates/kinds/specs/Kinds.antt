-- The kinds by document 01's numbers, and the weights that a sentence of each may have ('Limits': weights -10^9 to 10^9, product 1 to 10^9,
-- count 1).
use Rattle.std.specs.Prelude.{◌≡◌, Bool, ◌&&◌, ℕ, zero, suc, ◌<◌, ◌≤◌, ℤ, pos, neg_ℤ, Result, MatchResult}
use Rattle.std.specs.Int.Signed.{le_z}
use Rattle.types.specs.Limits.{weight_limit}
use Rattle.meaning.specs.Meaning.{Kind, sum, product, count, maximum, minimum}
use Rattle.kinds.specs.declared.Kind as code
use Rattle.kinds.specs.declared.Kind.TheVariants.{Sum, Product, Count, Max, Min}
use Rattle.kinds.specs.declared.NoKind.{NoKind}

-- document 01's numbers; the check of an area and of columns comes before any other number is read
abbrev pub kind_of : ℕ → Kind
kind_of zero = sum
kind_of (suc zero) = product
kind_of (suc (suc zero)) = count
kind_of (suc (suc (suc zero))) = maximum
kind_of (suc (suc (suc (suc k)))) = minimum

-- the kind that the code's enum stands for
abbrev pub meant : code.Kind → Kind
meant Sum = sum
meant Product = product
meant Count = count
meant Max = maximum
meant Min = minimum

-- a kind's number gives that kind, and any other none
abbrev pub Decodes : ℕ → Result code.Kind NoKind → Type 0
Decodes number r = MatchResult r (λ k. (number ≤ 4) × (meant k ≡ kind_of number)) (λ e. 4 < number)

abbrev pub least_weight : Kind → ℤ
least_weight sum = neg_ℤ (pos weight_limit)
least_weight product = pos 1
least_weight count = pos 1
least_weight maximum = neg_ℤ (pos weight_limit)
least_weight minimum = neg_ℤ (pos weight_limit)

abbrev pub greatest_weight : Kind → ℤ
greatest_weight sum = pos weight_limit
greatest_weight product = pos weight_limit
greatest_weight count = pos 1
greatest_weight maximum = pos weight_limit
greatest_weight minimum = pos weight_limit

-- least ≤ w ≤ greatest
abbrev pub between : ℤ → ℤ → ℤ → Bool
between least greatest w = le_z least w && le_z w greatest

abbrev pub weight_fits : Kind → ℤ → Bool
weight_fits k w = between (least_weight k) (greatest_weight k) w
