-- Each entry may be taken after those before it, and at the end they are all.
use Rattle.std.proofs.Common.{◌≡◌, ◌≤◌, pos, nat_abs, length, get_or, take, replicate, false, refl, arith, rules}
use Rattle.std.proofs.Math.Seq.{take_all}
use Rattle.numbers.specs.Words.{bias, literal_word}
use Rattle.types.specs.Limits.{bound_limit, widest}
use Rattle.kinds.specs.Kinds.{meant}
use Rattle.columns.specs.Columns.{paired}
use Rattle.gather.proofs.Taking.{paired_length, weight_small, literal_small, one_more, takeable, gathered_none}
use Rattle.gather.proofs.gather.Goals as goal

pub loop-i-init : goal.loop-i-init
loop-i-init c = gathered_none (meant c.args.kind) (paired c.args.weights.now c.args.literals.now) c.args.part.now (replicate 8194 0) (replicate 8194 false) refl refl

pub number_word-x-requires : goal.number_word-x-requires
number_word-x-requires c =
    let h : nat_abs (get_or c.args.weights.now c.loop-i.i (pos 0)) ≤ bound_limit = weight_small c.requires c.loop-i.i (omega arith) in search rules

pub bounds-literals-i : goal.bounds-literals-i
bounds-literals-i c = omega (arith, c.requires.same)

pub literal_word-l-requires : goal.literal_word-l-requires
literal_word-l-requires c =
    let h : nat_abs (get_or c.args.literals.now c.loop-i.i (pos 0)) ≤ widest.atoms = literal_small c.requires c.loop-i.i (omega arith) in search rules

pub add-m-requires : goal.add-m-requires
add-m-requires c =
    let x : c.number_word-x.result ≡ bias (get_or c.args.weights.now c.loop-i.i (pos 0)) = search rules in
    let l : c.literal_word-l.result ≡ literal_word (get_or c.args.literals.now c.loop-i.i (pos 0)) = search rules in
    record {
      before = take c.loop-i.i (paired c.args.weights.now c.args.literals.now);
      gathered = c.loop-i.invariant;
      takeable = takeable c.requires c.loop-i.i (omega arith) x l (length c.loop-i.part) c.loop-i.auto.part;
    }

pub loop-i-preserved : goal.loop-i-preserved
loop-i-preserved c =
    let x : c.number_word-x.result ≡ bias (get_or c.args.weights.now c.loop-i.i (pos 0)) = search rules in
    let l : c.literal_word-l.result ≡ literal_word (get_or c.args.literals.now c.loop-i.i (pos 0)) = search rules in
    rw (one_more c.requires c.loop-i.i (omega arith) x l)
    (c.add-m.ensures.next (take c.loop-i.i (paired c.args.weights.now c.args.literals.now)) c.loop-i.invariant
    (takeable c.requires c.loop-i.i (omega arith) x l (length c.loop-i.part) c.loop-i.auto.part))

pub returns : goal.returns
returns c =
    let es = paired c.args.weights.now c.args.literals.now in
    rw (take_all c.loop-i.i es (omega (arith, paired_length c.args.weights.now c.args.literals.now c.requires.same))) at c.loop-i.invariant.collected
