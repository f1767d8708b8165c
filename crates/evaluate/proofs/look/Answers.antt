-- The extremes that it is given are the folds, so that each branch is one of the answers of Unscanned.antt.
use mathlib.Core.Path.{sym, ◌∙◌}
use Rattle.std.proofs.Common.{◌≡◌, arith, refl}
use Rattle.area.specs.Layout.{value_at, head_at, upper_at}
use Rattle.extremes.proofs.Stored.{entries_at, bound_high}
use Rattle.evaluate.proofs.Unscanned.{known_open, known_fixed}
use Rattle.evaluate.proofs.look.Goals as goal

pub limit_at-limit-requires : goal.limit_at-limit-requires
limit_at-limit-requires c = (omega arith, bound_high c.args.sentence.ready)

pub returns-then-v-eq0 : goal.returns-then-v-eq0
returns-then-v-eq0 c =
    let value : value_at c.args.sentence.area.now c.args.sentence.sizes.atoms (head_at c.args.sentence.area.now c.args.sentence.base) ≡ 0 = cc in
    rw (
      c.of_head.ensures,
      c.keep.ensures,
      c.keep-then-v-eq0.ensures,
      c.towards.ensures,
      c.towards-then-v-eq0.ensures,
      c.upwards-failing.ensures,
      c.upwards-holding.ensures,
      c.limit_at-limit.ensures,
      c.upper_at-upper.ensures,
      c.head_at-head.ensures,
    )
    (known_open c.args.sentence.ready c.requires (upper_at c.args.sentence.area.now c.args.sentence.base) refl value)

pub of_body-requires : goal.of_body-requires
of_body-requires c = rw (c.entry_at.ensures, c.merged_at.ensures) (entries_at c.kind_at.result c.args.sentence.ready c.kind_at.ensures)

pub returns : goal.returns
returns c =
    let value : c.value_at-v.result ≡ value_at c.args.sentence.area.now c.args.sentence.sizes.atoms (head_at c.args.sentence.area.now c.args.sentence.base) = cc in
    rw (c.of_body.ensures, c.towards-2.ensures, c.towards-3.ensures, c.limit_at-limit.ensures, c.entry_at.ensures, c.merged_at.ensures)
    (known_fixed c.args.sentence.ready c.requires c.kind_at.result c.kind_at.ensures c.upwards-up.result
    (λ z. c.if-v-eq0.false (value ∙ z)) (sym (rw (c.upper_at-upper.ensures, value) at c.upwards-up.ensures)))
