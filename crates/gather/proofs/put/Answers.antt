-- The table's word at the literal is 0 or 1 more than the place of the literal's entry, and so the entry is put behind all others, or joined
-- in its place.
use Rattle.std.proofs.Common.{◌-◌, get_or, arith}
use Rattle.gather.proofs.Putting.{one_less, put_behind, old_few, old_joinable, put_onto}
use Rattle.gather.proofs.put.Goals as goal

pub returns-then-p-eq0 : goal.returns-then-p-eq0
returns-then-p-eq0 c = put_behind c.requires c.if-p-eq0.true

pub bounds-part-k : goal.bounds-part-k
bounds-part-k c = let p = get_or c.args.table.now c.args.l 0 in omega (arith, old_few c.requires (p - 1) (one_less p c.if-p-eq0.false))

pub join-requires : goal.join-requires
join-requires c = let p = get_or c.args.table.now c.args.l 0 in old_joinable c.requires (p - 1) (one_less p c.if-p-eq0.false)

pub bounds-part-k-2 : goal.bounds-part-k-2
bounds-part-k-2 c = let p = get_or c.args.table.now c.args.l 0 in omega (arith, old_few c.requires (p - 1) (one_less p c.if-p-eq0.false))

pub returns : goal.returns
returns c = let p = get_or c.args.table.now c.args.l 0 in put_onto c.requires (p - 1) (one_less p c.if-p-eq0.false) c.join.result c.join.ensures
