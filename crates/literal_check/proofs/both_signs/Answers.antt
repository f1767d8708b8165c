use Rattle.std.proofs.Common.{◌≡◌, ℕ, length, length-set, refl, sym, ap, ◌∙◌, arith, rules}
use Rattle.decide.specs.Below.{some_below}
use Rattle.decide.proofs.Below.{some_none, some_more, some_here}
use Rattle.columns.specs.Indexed.{negated_before}
use Rattle.literal_check.proofs.Marks.{none_met, Known, known, low_size, low_mark, step_opposite, step_none, step_met}
use Rattle.literal_check.proofs.both_signs.Goals as goal

pub loop-literal-init : goal.loop-literal-init
loop-literal-init c = record { size = refl; marks = none_met _ 4097 refl; none = some_none _ }

pub bounds-met-a : goal.bounds-met-a
bounds-met-a c = low_size {m = c.mark-m.result} (known _ _ _ _ c.requires c.loop-literal-test.true (search rules) (search rules))

pub overflow_sub-m : goal.overflow_sub-m
overflow_sub-m c =
    let k : Known c.args.literals.now c.loop-literal.literal-index c.unsigned_abs-a.result c.mark-m.result = known _ _ _ _ c.requires c.loop-literal-test.true (search rules) (search rules) in
    omega (arith, low_mark k)

pub returns-then-met-a : goal.returns-then-met-a
returns-then-met-a c =
    let k : Known c.args.literals.now c.loop-literal.literal-index c.unsigned_abs-a.result c.mark-m.result = known _ _ _ _ c.requires c.loop-literal-test.true (search rules) (search rules) in
    sym (some_here c.loop-literal.literal-index _ _ c.loop-literal-test.true (step_opposite _ c.loop-literal.invariant.size c.loop-literal.invariant.marks k c.if-met-a.true))

pub bounds-met-a-in-loop-literal : goal.bounds-met-a-in-loop-literal
bounds-met-a-in-loop-literal c = low_size {m = c.mark-m.result} (known _ _ _ _ c.requires c.loop-literal-test.true (search rules) (search rules))

pub loop-literal-preserved : goal.loop-literal-preserved
loop-literal-preserved c =
    let k : Known c.args.literals.now c.loop-literal.literal-index c.unsigned_abs-a.result c.mark-m.result = known _ _ _ _ c.requires c.loop-literal-test.true (search rules) (search rules) in
    let i = c.loop-literal.invariant in
    record {
      size = simp length-set i.size;
      marks = step_met _ i.size i.marks k c.if-met-a.false;
      none = some_more _ _ i.none (step_none _ i.size i.marks k c.if-met-a.false);
    }

pub returns : goal.returns
returns c =
    let e : c.loop-literal.literal-index ≡ length c.args.literals.now = omega arith in
    sym c.loop-literal.invariant.none ∙ ap {A = ℕ} (λ k. some_below k (negated_before c.args.literals.now)) e
