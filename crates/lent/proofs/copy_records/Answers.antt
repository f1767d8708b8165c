-- A turn copies the i-th record into both columns; when the records are done, the fronts of the arrays are the columns.
use Rattle.std.proofs.Common.{◌≡◌, length, subst, arith, refl}
use Rattle.lent_records.specs.Records.{weights_in, literals_in}
use Rattle.lent_records.proofs.Records.{Front, weights_grow, literals_grow, all_copied}
use Rattle.lent.proofs.copy_records.Goals as goal

pub loop-i-preserved : goal.loop-i-preserved
loop-i-preserved c = record {
  weights = weights_grow 4096 c.args.records.now c.loop-i.copied.weights _ c.loop-i.i c.loop-i-test.true (λ l. (c.copy_one.ensures l).0) c.loop-i.invariant.weights;
  literals = literals_grow 4096 c.args.records.now c.loop-i.copied.literals _ c.loop-i.i c.loop-i-test.true (λ l. (c.copy_one.ensures l).1) c.loop-i.invariant.literals;
}

pub returns : goal.returns
returns c =
    let all : c.loop-i.i ≡ length c.args.records.now = omega arith in
    all_copied 4096 c.args.records.now _ refl (subst (Front 4096 (weights_in c.args.records.now) c.loop-i.copied.weights) all c.loop-i.invariant.weights)
    (subst (Front 4096 (literals_in c.args.records.now) c.loop-i.copied.literals) all c.loop-i.invariant.literals)
