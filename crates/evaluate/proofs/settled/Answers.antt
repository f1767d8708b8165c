-- Where the answer is yes, the tests are those of Unspoken.antt.
use Rattle.std.proofs.Common.{◌≡◌, ◌%◌, ◌<◌, ◌≤◌, true, false, arith, eqb}
use Rattle.std.proofs.lemmas.Bool.Decides.{nat_tests}
use Rattle.area.specs.Layout.{value_at, head_at, upper_at}
use Rattle.extremes.proofs.Stored.{bound_high}
use Rattle.evaluate.specs.Inner.Words.{limit_at, upwards}
use Rattle.evaluate.proofs.Unspoken.{settled_open, settled_up, settled_down}
use Rattle.evaluate.proofs.settled.Goals as goal

pub limit_at-limit-requires : goal.limit_at-limit-requires
limit_at-limit-requires c = (omega arith, bound_high c.args.sentence.ready)

pub returns-then-possible : goal.returns-then-possible
returns-then-possible c = λ e.
    let value : value_at c.args.sentence.area.now c.args.sentence.sizes.atoms (head_at c.args.sentence.area.now c.args.sentence.base) ≡ 0 = cc in
    let unsure : c.args.found.least < limit_at c.args.sentence.area.now c.args.sentence.base = grind (arith, nat_tests) in
    let possible : limit_at c.args.sentence.area.now c.args.sentence.base ≤ c.args.found.greatest = grind (arith, nat_tests) in
    settled_open c.args.sentence.ready c.requires value unsure possible

pub returns-then-sure : goal.returns-then-sure
returns-then-sure c = λ e.
    let fixed : ¬ (value_at c.args.sentence.area.now c.args.sentence.sizes.atoms (head_at c.args.sentence.area.now c.args.sentence.base) ≡ 0) = grind arith in
    let up : upwards (upper_at c.args.sentence.area.now c.args.sentence.base) (eqb (value_at c.args.sentence.area.now c.args.sentence.sizes.atoms (head_at c.args.sentence.area.now c.args.sentence.base) % 2) 1)
    ≡ true = grind arith in
    let sure : limit_at c.args.sentence.area.now c.args.sentence.base ≤ c.args.found.least = grind (arith, nat_tests) in
    let possible : limit_at c.args.sentence.area.now c.args.sentence.base ≤ c.args.found.greatest = grind (arith, nat_tests) in
    settled_up c.args.sentence.ready c.requires fixed up sure possible

pub returns-then-not-sure : goal.returns-then-not-sure
returns-then-not-sure c = λ e.
    let fixed : ¬ (value_at c.args.sentence.area.now c.args.sentence.sizes.atoms (head_at c.args.sentence.area.now c.args.sentence.base) ≡ 0) = grind arith in
    let down : upwards (upper_at c.args.sentence.area.now c.args.sentence.base) (eqb (value_at c.args.sentence.area.now c.args.sentence.sizes.atoms (head_at c.args.sentence.area.now c.args.sentence.base) % 2) 1)
    ≡ false = grind arith in
    let unsure : c.args.found.least < limit_at c.args.sentence.area.now c.args.sentence.base = grind (arith, nat_tests) in
    let impossible : c.args.found.greatest < limit_at c.args.sentence.area.now c.args.sentence.base = grind (arith, nat_tests) in
    settled_down c.args.sentence.ready c.requires fixed down unsure impossible
