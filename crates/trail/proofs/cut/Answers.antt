-- `Cutting` is kept by each row taken off, and is `Cut` where the loop ends.
use Rattle.std.proofs.Common.{◌≡◌, ◌≤◌, ◌+◌, ◌-◌, ◌/◌, arith}
use lib.ListN.{length-set}
use Rattle.area.specs.Layout.{level_of}
use Rattle.trail.proofs.Cutting.{cutting_goes_on, literal_there, row_within, cut_at_none, cut_at_row}
use Rattle.trail.proofs.cut.Goals as goal

-- the last row is of an atom
last_row : (c : goal.After-literal_at) → (1 ≤ c.literal_at.result / 2) × (c.literal_at.result / 2 ≤ c.args.n)
last_row c = rw c.literal_at.ensures (row_within _ _ _ _ _ _ _ _ c.loop-last.invariant c.loop-last-test.true)

pub returns-then-row_level-k : goal.returns-then-row_level-k
returns-then-row_level-k c =
    let e : c.loop-last.last - 1 + 1 ≡ c.loop-last.last = omega arith in
    rw e (cut_at_row _ _ _ _ _ _ _ _ c.loop-last.invariant c.loop-last-test.true (rw c.row_level.ensures at c.if-row_level-k.true) _)

pub offset_bounds-area-n : goal.offset_bounds-area-n
offset_bounds-area-n c = omega (arith, last_row c)

pub bounds-area-n : goal.bounds-area-n
bounds-area-n c = omega (arith, last_row c)

pub bounds-touched-a : goal.bounds-touched-a
bounds-touched-a c = omega (arith, last_row c)

pub loop-last-preserved : goal.loop-last-preserved
loop-last-preserved c = rw c.literal_at.ensures (cutting_goes_on _ _ _ _ _ _ _ _ c.loop-last.invariant c.loop-last-test.true
    (rw c.row_level.ensures at c.if-row_level-k.false))

pub returns : goal.returns
returns c =
    let e : c.loop-last.last ≡ 0 = omega arith in
    rw e at (cut_at_none _ _ _ _ _ _ _ _ c.loop-last.invariant c.loop-last-test.false (level_of c.args.area.now))
