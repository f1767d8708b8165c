use Rattle.std.proofs.Common.{◌≡◌, arith}
use Rattle.decide.proofs.Tells.{told_yes, told_no}
use Rattle.area.specs.Layout.{word}
use Rattle.refresh.proofs.Touching.{atom_in, entry_untouched, all_untouched}
use Rattle.refresh.proofs.touches.Goals as goal

pub bounds-touched-atom : goal.bounds-touched-atom
bounds-touched-atom c =
    omega (arith, c.requires, atom_in c.args.sentence.ready c.entry_at-start.ensures c.merged_at-merged.ensures c.loop-i-test.true c.literal_in.ensures)

pub returns-then-touched-atom-ne0 : goal.returns-then-touched-atom-ne0
returns-then-touched-atom-ne0 c =
    told_no
    (λ u. c.if-touched-atom-ne0.true (entry_untouched c.args.sentence.ready c.entry_at-start.ensures c.merged_at-merged.ensures c.args.touched.now u c.loop-i-test.true c.literal_in.ensures))

pub returns : goal.returns
returns c =
    let head : word c.args.touched.now c.head_at-head.result ≡ 0 = omega arith in
    told_yes
    (all_untouched c.args.sentence.ready c.entry_at-start.ensures c.merged_at-merged.ensures c.args.touched.now c.head_at-head.ensures head (λ j l. c.loop-i.invariant j (omega arith)))
