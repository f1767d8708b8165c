use Rattle.std.proofs.Common.{◌≡◌, ◌+◌, ◌-◌, pos, sym, refl, ◌∙◌, arith, rules, get_or, take, drop}
use Rattle.decide.proofs.Below.{sum_none}
use Rattle.columns.specs.Columns.{held}
use Rattle.columns.specs.Answers.{fault_code}
use Rattle.columns.specs.Indexed.{column_code}
use Rattle.columns.proofs.Answers.{sentence_refused}
use Rattle.columns.proofs.Shapes.{inside}
use Rattle.columns.proofs.Walk.{from_first, from_later, from_none, same_sentence}
use Rattle.load_check.proofs.check_sentences.Goals as goal

pub loop-s-init : goal.loop-s-init
loop-s-init c = record { from_is = sym (sum_none _); low = omega arith; same = from_first c.args.lim c.args.n (held c.args.columns) 0 refl }

pub overflow_add-to : goal.overflow_add-to
overflow_add-to c = let k = inside c.args.lim c.args.n (held c.args.columns) c.loop-s.s c.loop-s.from c.requires.1 c.loop-s-test.true c.loop-s.invariant.from_is in
    omega (arith, k.weights)

pub slice_bounds-sentence-end : goal.slice_bounds-sentence-end
slice_bounds-sentence-end c = let k = inside c.args.lim c.args.n (held c.args.columns) c.loop-s.s c.loop-s.from c.requires.1 c.loop-s-test.true c.loop-s.invariant.from_is in
    omega (arith, k.weights)

pub returns-in-Err : goal.returns-in-Err
returns-in-Err c =
    let cs = held c.args.columns in
    let s = c.loop-s.s in
    let f = c.loop-s.from in
    let m = f + get_or cs.counts s 0 - f in
    let z : fault_code c.in-Err.fault ≡ column_code c.args.lim c.args.n (get_or cs.heads s 0) (get_or cs.kinds s 0) (get_or cs.sides s 0) (get_or cs.bounds s (pos 0))
    (take m (drop f cs.weights)) (take m (drop f cs.literals)) = search rules in
    sym (c.loop-s.invariant.same ∙ sentence_refused c.args.lim c.args.n cs s c.in-Err.fault c.loop-s-test.true
    (z ∙ same_sentence c.args.lim c.args.n cs s (get_or cs.bounds s (pos 0)) f m refl c.loop-s.invariant.from_is (omega arith) c.requires.1.equals.literals))

pub loop-s-preserved : goal.loop-s-preserved
loop-s-preserved c =
    let cs = held c.args.columns in
    let s = c.loop-s.s in
    let f = c.loop-s.from in
    let m = f + get_or cs.counts s 0 - f in
    let k = inside c.args.lim c.args.n cs s f c.requires.1 c.loop-s-test.true c.loop-s.invariant.from_is in
    let z : 0 ≡ column_code c.args.lim c.args.n (get_or cs.heads s 0) (get_or cs.kinds s 0) (get_or cs.sides s 0) (get_or cs.bounds s (pos 0))
    (take m (drop f cs.weights)) (take m (drop f cs.literals)) = search rules in
    record {
      from_is = sym k.next;
      low = omega (arith, k.weights);
      same = c.loop-s.invariant.same ∙ from_later c.args.lim c.args.n cs s c.loop-s-test.true
          (sym (z ∙ same_sentence c.args.lim c.args.n cs s (get_or cs.bounds s (pos 0)) f m refl c.loop-s.invariant.from_is (omega arith) c.requires.1.equals.literals));
    }

pub returns : goal.returns
returns c = sym (c.loop-s.invariant.same ∙ from_none c.args.lim c.args.n (held c.args.columns) c.loop-s.s (omega arith))
