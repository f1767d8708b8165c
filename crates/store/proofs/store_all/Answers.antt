use Rattle.std.proofs.Common.{◌≡◌, ◌+◌, ◌-◌, ℕ, pos, to_z, of_z, w64, length, get_or, subst, ◌∙◌, arith, rules}
use Rattle.columns.specs.Columns.{Written, held}
use Rattle.columns.specs.Columns as column
use Rattle.stored_sentence.specs.Inner.Sentences.{Stored}
use Rattle.store.proofs.Storing.{lent_is, here, storable, running_none, running_more, all_stored}
use Rattle.store.proofs.store_all.Goals as goal

pub clear-requires : goal.clear-requires
clear-requires c = let k = c.requires.accepted in (omega arith, omega (arith, k.enough))

pub invariant_of-sizes : goal.invariant_of-sizes
invariant_of-sizes c =
    let q = c.requires in
    let few = q.accepted.shape.within in
    record { room = (omega (arith, q.fitting.atoms, few.high), omega (arith, q.fitting.sentences, few.few_sentences)) }

pub loop-s-init : goal.loop-s-init
loop-s-init c = record { low = omega arith; running = running_none _ _ _ }

pub overflow_add-to : goal.overflow_add-to
overflow_add-to c =
    let q = c.requires in
    let i = here q.lim (length c.args.area.now) c.args.n (held c.args.columns) q.fitting q.accepted c.loop-s.s c.loop-s.from c.loop-s-test.true c.loop-s.invariant.running.from_is in
    omega (arith, i.weights)

pub slice_bounds-sentence-end : goal.slice_bounds-sentence-end
slice_bounds-sentence-end c =
    let q = c.requires in
    let i = here q.lim (length c.args.area.now) c.args.n (held c.args.columns) q.fitting q.accepted c.loop-s.s c.loop-s.from c.loop-s-test.true c.loop-s.invariant.running.from_is in
    omega (arith, i.weights)

pub store_one-requires : goal.store_one-requires
store_one-requires c =
    let q = c.requires in
    let cs = held c.args.columns in
    let l = c.loop-s in
    let z : to_z w64 (of_z w64 (get_or cs.bounds l.s (pos 0))) ≡ get_or cs.bounds l.s (pos 0) = search rules in
    storable q.lim (length c.args.area.now) c.args.n cs q.fitting q.accepted l.s l.from c.loop-s-test.true l.invariant.running.from_is
    _ _ (l.from + get_or cs.counts l.s 0 - l.from) (l.invariant.running.size ∙ c.clear.auto.area) z (omega arith)

pub loop-s-preserved : goal.loop-s-preserved
loop-s-preserved c =
    let q = c.requires in
    let cs = held c.args.columns in
    let l = c.loop-s in
    let i = here q.lim (length c.args.area.now) c.args.n cs q.fitting q.accepted l.s l.from c.loop-s-test.true l.invariant.running.from_is in
    let z : to_z w64 (of_z w64 (get_or cs.bounds l.s (pos 0))) ≡ get_or cs.bounds l.s (pos 0) = search rules in
    let x = lent_is cs l.s _ l.from (l.from + get_or cs.counts l.s 0 - l.from) z l.invariant.running.from_is (omega arith) in
    record {
      low = omega (arith, i.weights);
      running = running_more q.lim (length c.args.area.now) c.args.n cs q.fitting q.accepted c.clear.new.area l.area c.store_one.new.area l.s l.from
          c.loop-s-test.true c.clear.auto.area l.invariant.running
          (subst (λ (k : ℕ). Stored l.area c.store_one.new.area c.args.n (length cs.heads) l.s k (column.written_at cs l.s)) l.invariant.running.from_is
          (subst (λ (y : Written). Stored l.area c.store_one.new.area c.args.n (length cs.heads) l.s l.from y) x c.store_one.ensures));
    }

pub returns : goal.returns
returns c =
    let q = c.requires in
    all_stored q.lim (length c.args.area.now) c.args.n (held c.args.columns) q.fitting q.accepted c.args.area.now c.clear.new.area c.loop-s.area c.loop-s.s c.loop-s.from
    (omega arith) c.clear.ensures c.loop-s.invariant.running
