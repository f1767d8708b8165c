use Rattle.std.proofs.Common.{◌≡◌, ◌≤◌, ◌*◌, ℕ, length, sym, ap, arith, rules, nat_abs}
use borrow.Author.Tests.{le-ltb}
use Rattle.types.specs.Limits.{bound_limit}
use Rattle.decide.specs.Below.{product_below}
use Rattle.decide.proofs.Below.{product_none}
use Rattle.columns.specs.Indexed.{nth}
use Rattle.weight_check.proofs.Products.{positive, next, passed, within}
use Rattle.weight_check.proofs.too_great.Goals as goal

pub loop-weight-init : goal.loop-weight-init
loop-weight-init c = record { product_is = sym (product_none _); low = omega arith }

pub nonzero_div-size : goal.nonzero_div-size
nonzero_div-size c = let l = c.loop-weight in
    positive c.args.weights.now l.weight-index l.product c.unsigned_abs-size.result c.requires c.loop-weight-test.true l.invariant.product_is (search rules)

pub returns-then-product-size : goal.returns-then-product-size
returns-then-product-size c = let l = c.loop-weight in
    passed c.args.weights.now l.weight-index l.product c.unsigned_abs-size.result c.requires c.loop-weight-test.true l.invariant.product_is (search rules) c.if-product-size.true

pub overflow_mul-product : goal.overflow_mul-product
overflow_mul-product c =
    let l = c.loop-weight in
    let w = c.unsigned_abs-size.result in
    let h : l.product * w ≤ bound_limit = within c.args.weights.now l.weight-index l.product w c.requires c.loop-weight-test.true l.invariant.product_is (search rules) c.if-product-size.false in
    omega arith

pub loop-weight-preserved : goal.loop-weight-preserved
loop-weight-preserved c =
    let l = c.loop-weight in
    let w = c.unsigned_abs-size.result in
    record {
      product_is = next c.args.weights.now l.weight-index l.product w c.requires c.loop-weight-test.true l.invariant.product_is (search rules);
      low = within c.args.weights.now l.weight-index l.product w c.requires c.loop-weight-test.true l.invariant.product_is (search rules) c.if-product-size.false;
    }

pub returns : goal.returns
returns c =
    let ws = c.args.weights.now in
    let e : c.loop-weight.weight-index ≡ length ws = omega arith in
    sym (le-ltb bound_limit (product_below (length ws) (λ k. nat_abs (nth ws k)))
    (omega (arith, c.loop-weight.invariant.product_is, c.loop-weight.invariant.low, ap {A = ℕ} (λ n. product_below n (λ k. nat_abs (nth ws k))) e)))
