-- The entries passed are whole, apart and stamped, and `product` is their product (`Passed`): an entry is told of, for the kind that the
-- record has, and so its atom has a place in the table.
use Rattle.std.proofs.Common.{arith, refl, ap}
use Rattle.kinds.specs.Kinds.{meant}
use Rattle.entries_check.proofs.Entries.{place_below, factor_above, entry_is, none_passed, stamped_twice, one_passed, product_past, all_passed}
use Rattle.entries_check.proofs.entries_ok.Goals as goal

pub loop-i-init : goal.loop-i-init
loop-i-init c = none_passed _ _ _ _ _ _ c.requires.0.stamps

pub bounds-seen-atom : goal.bounds-seen-atom
bounds-seen-atom c = omega (arith, place_below _ _ c.requires.0.atoms (c.if-not-entry_ok.ensures.yes refl), c.loop-i.invariant.stamped.size)

pub bounds-seen-atom-in-loop-i : goal.bounds-seen-atom-in-loop-i
bounds-seen-atom-in-loop-i c = omega (arith, place_below _ _ c.requires.0.atoms (c.if-not-entry_ok.ensures.yes refl), c.loop-i.invariant.stamped.size)

pub returns-then-seen-atom : goal.returns-then-seen-atom
returns-then-seen-atom c = let l = c.literal_in-literal.ensures in
    let b = rw l at (place_below _ _ c.requires.0.atoms (c.if-not-entry_ok.ensures.yes refl)) in
    stamped_twice _ _ _ _ _ _ _ _ c.loop-i.invariant b (omega arith) (rw l at c.if-seen-atom.true)

pub grown-requires : goal.grown-requires
grown-requires c = (c.loop-i.invariant.low, c.loop-i.invariant.high, λ q. factor_above _ _ (ap meant q) (c.if-not-entry_ok.ensures.yes refl))

pub returns-in_default : goal.returns-in_default
returns-in_default c = let l = c.literal_in-literal.ensures in
    let b = rw l at (place_below _ _ c.requires.0.atoms (c.if-not-entry_ok.ensures.yes refl)) in
    rw l (product_past _ _ _ _ _ _ _ _ c.loop-i.invariant _ (omega arith) b (rw l at c.if-seen-atom.false) (omega arith)
    (rw (c.requires.1, c.weight_in-weight.ensures) at c.in_default.ensures))

pub loop-i-preserved : goal.loop-i-preserved
loop-i-preserved c = let l = c.literal_in-literal.ensures in
    let e = c.if-not-entry_ok.ensures.yes refl in
    let b = rw l at (place_below _ _ c.requires.0.atoms e) in
    rw l (one_passed _ _ _ _ _ _ _ _ c.loop-i.invariant _ (omega arith) b (rw l at c.if-seen-atom.false) _
    (entry_is c.args.area.now c.args.base c.args.at c.loop-i.i
    c.head_at-head.ensures c.requires.1 c.written_at-written.ensures c.weight_in-weight.ensures l e)
    (rw (c.requires.1, c.weight_in-weight.ensures) at c.in-Some.ensures))

pub returns : goal.returns
returns c = all_passed _ _ _ _ _ _ _ _ c.loop-i.invariant (omega arith)
