-- By the kind: the sum less 2^62, the product of what is above 2^62, the larger or the smaller word.
use Rattle.std.proofs.Common.{ap, arith, rules}
use Rattle.kinds.specs.Kinds.{meant}
use Rattle.entry_words.proofs.Joining.{SumFits, mixing, sum_fits, sum_joins, ProductFits, product_fits, product_joins, least_joins, most_joins}
use Rattle.entry_words.proofs.join.Goals as goal

sums : (c : goal.In-Sum) → SumFits c.args.x c.args.y
sums c = sum_fits _ _ _ (mixing _ c.in-Sum.is) c.requires

products : (c : goal.In-Product) → ProductFits c.args.x c.args.y
products c = product_fits _ _ _ (ap meant c.in-Product.is) c.requires

pub overflow_add-result : goal.overflow_add-result
overflow_add-result c = omega (arith, (sums c).high)

pub overflow_sub-result : goal.overflow_sub-result
overflow_sub-result c = (sums c).low

pub overflow_sub-result-in-Product : goal.overflow_sub-result-in-Product
overflow_sub-result-in-Product c = (products c).left

pub overflow_sub-result-in-Product-2 : goal.overflow_sub-result-in-Product-2
overflow_sub-result-in-Product-2 c = (products c).right

pub overflow_mul-result : goal.overflow_mul-result
overflow_mul-result c = omega (arith, (products c).high)

pub overflow_add-result-in-Product : goal.overflow_add-result-in-Product
overflow_add-result-in-Product c = omega (arith, (products c).high)

pub returns-in-Sum : goal.returns-in-Sum
returns-in-Sum c = sum_joins _ _ _ (mixing _ c.in-Sum.is) c.requires

pub returns-in-Product : goal.returns-in-Product
returns-in-Product c = product_joins _ _ _ (ap meant c.in-Product.is) c.requires

pub returns-in-Max : goal.returns-in-Max
returns-in-Max c = most_joins _ _ _ _ (ap meant c.in-Max.is) (search rules)

pub returns-in-Min : goal.returns-in-Min
returns-in-Min c = least_joins _ _ _ _ (ap meant c.in-Min.is) (search rules)
