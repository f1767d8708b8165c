-- What is left of the table's run comes to the whole run (`Reaching`), and what is found forced can be put on (`Forcing`).
use Rattle.std.proofs.Common.{refl, arith}
use Rattle.derive.proofs.Forcing.{Sizes, forced_advanceable, forced_sizes}
use Rattle.derive.proofs.Reaching.{reached_first, few_rows, reached_next, reached_conflict, settleable, reached_still}
use Rattle.derive.proofs.run.Goals as goal

pub loop-area-init : goal.loop-area-init
loop-area-init c = (refl, λ lim a. reached_first a)

pub find-requires : goal.find-requires
find-requires c = record {
  lim = c.requires.0;
  len = c.loop-area.length;
  level = c.args.level;
  searchable = (c.loop-area.invariant.1 c.requires.0 c.requires.1).searchable;
}

pub settle-requires : goal.settle-requires
settle-requires c = settleable (c.loop-area.invariant.1 c.requires.0 c.requires.1)

pub returns-in-Nothing-clause-stopped : goal.returns-in-Nothing-clause-stopped
returns-in-Nothing-clause-stopped c = λ lim a. reached_still (c.loop-area.invariant.1 lim a) c.find.ensures c.in-Nothing.is _ c.settle.ensures

pub returns-in-Conflict-clause-stopped : goal.returns-in-Conflict-clause-stopped
returns-in-Conflict-clause-stopped c = λ lim a. reached_conflict (c.loop-area.invariant.1 lim a) c.find.ensures c.in-Conflict.is

sizes : (c : goal.In-Forced) → Sizes c.args.level c.in-Forced.s c.in-Forced.place
sizes c = forced_sizes (c.loop-area.invariant.1 c.requires.0 c.requires.1).searchable c.find.ensures c.in-Forced.is

pub overflow_mul-mark-in-Forced : goal.overflow_mul-mark-in-Forced
overflow_mul-mark-in-Forced c = let z = sizes c in omega arith

pub overflow_add-mark-in-Forced-2 : goal.overflow_add-mark-in-Forced-2
overflow_add-mark-in-Forced-2 c = let z = sizes c in omega arith

pub advance-requires : goal.advance-requires
advance-requires c =
    let p = c.requires in
    (p.0, c.args.level, forced_advanceable (c.loop-area.invariant.1 p.0 p.1).searchable c.find.ensures c.in-Forced.is)

pub loop-area-preserved : goal.loop-area-preserved
loop-area-preserved c = let p = c.requires in (
  (reached_next (c.loop-area.invariant.1 p.0 p.1) c.find.ensures c.in-Forced.is _ (c.advance.ensures p.0 c.args.level)).moved.size,
  λ lim a. reached_next (c.loop-area.invariant.1 lim a) c.find.ensures c.in-Forced.is _ (c.advance.ensures lim c.args.level),
)

pub overflow_add-length : goal.overflow_add-length
overflow_add-length c =
    let p = c.requires in
    let r = reached_next (c.loop-area.invariant.1 p.0 p.1) c.find.ensures c.in-Forced.is _ (c.advance.ensures p.0 c.args.level) in
    omega (arith, few_rows r.searchable, (settleable (c.loop-area.invariant.1 p.0 p.1)).atoms)

pub loop-area-smaller : goal.loop-area-smaller
loop-area-smaller c =
    let p = c.requires in
    let r = reached_next (c.loop-area.invariant.1 p.0 p.1) c.find.ensures c.in-Forced.is _ (c.advance.ensures p.0 c.args.level) in
    omega (arith, few_rows r.searchable)
