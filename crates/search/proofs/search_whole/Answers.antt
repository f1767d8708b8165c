-- By the words reached (`Turning`): the list goes on where propagate is still, and every other answer is the end.
use mir.Val.{SFits}
use mir.ValLaws.{to_z-of_z}
use Rattle.std.proofs.Common.{◌≡◌, sym, ap, subst, ℕ, ◌+◌, ◌≤◌, drop, ℤ, w64, arith}
use Rattle.book.specs.Table.{propagate, trying}
use Rattle.area.specs.Layout.{atoms_of}
use Rattle.calls.specs.Calls.{counted, area_state, Acts}
use Rattle.propagate.specs.declared.Propagated.{Propagated}
use Rattle.propagate.specs.Propagate.{stop_returned, counters_of}
use Rattle.candidates.specs.Inner.Candidates.{AllKnown, nth, Tryable}
use Rattle.candidates.proofs.Passing.{known_at}
use Rattle.search.specs.declared.Searched.{Searched}
use Rattle.search.specs.Inner.Turn.{Ends}
use Rattle.search.proofs.Turning.{Reached, after_small, reached_still, ends_answer, ends_list, ends_level, reached_given}
use Rattle.search.proofs.search_whole.Goals as goal
use Rattle.search.proofs.search_whole.Goals.{After-propagate_whole-answer, In-Still}

-- what propagate did
acts : (c : After-propagate_whole-answer) → let p = c.propagate_whole-answer in
    Acts c.args.lim c.loop-count.area p.new.area (counted c.loop-count.current) (counted (counters_of p.result)) propagate (stop_returned p.result)
acts c =
    c.propagate_whole-answer.ensures.acts c.args.lim
    (record { fitting = c.requires.usable.fitting; whole = c.loop-count.invariant.reached.moved.whole })

few : (c : After-propagate_whole-answer) → c.loop-count.total + (stop_returned c.propagate_whole-answer.result).value ≤ 4096
few c =
    let l = c.loop-count in
    after_small c.args.lim l.area l.gone (drop l.gone c.args.literals.now) l.invariant.reached _ _ (acts c) c.requires.usable.fitting

pub ended-requires : goal.ended-requires
ended-requires c = let f = few ((goal.at.ended-requires c).After-propagate_whole-answer) in omega arith

pub returns-in_default-clause-ends : goal.returns-in_default-clause-ends
returns-in_default-clause-ends c =
    let l = c.loop-count in
    let p = c.propagate_whole-answer in
    subst (λ (r : Searched). Ends c.args.lim c.args.area.now p.new.area c.args.literals.now r) (sym c.ended.ensures)
    (ends_answer c.args.lim l.area l.gone (drop l.gone c.args.literals.now) l.invariant.reached p.new.area p.result
    (acts ((goal.at.returns-in_default-clause-ends c).After-propagate_whole-answer)) p.ensures.named (λ n k e. c.in_default.not-Still n k e))

pub overflow_add-total : goal.overflow_add-total
overflow_add-total c =
    let e : (stop_returned c.propagate_whole-answer.result).value ≡ c.in-Still.count = ap {A = Propagated} (λ a. (stop_returned a).value) c.in-Still.is in
    let f = few ((goal.at.overflow_add-total c).After-propagate_whole-answer) in
    omega (arith, e)

-- still: what is left is the list
stopped : (c : In-Still) → let l = c.loop-count in
    let w = c.propagate_whole-answer.new.area in
    Reached c.args.lim c.args.area.now w (counted c.in-Still.after) c.args.literals.now (l.total + c.in-Still.count)
    (trying (area_state c.args.lim w) (l.total + c.in-Still.count) l.gone (drop l.gone c.args.literals.now))
stopped c =
    let l = c.loop-count in
    let p = c.propagate_whole-answer in
    reached_still c.args.lim l.area l.gone (drop l.gone c.args.literals.now) l.invariant.reached p.new.area p.result
    (p.ensures.acts c.args.lim (record { fitting = c.requires.usable.fitting; whole = l.invariant.reached.moved.whole }))
    c.in-Still.count c.in-Still.after c.in-Still.is

-- atoms are as they were
known : (c : In-Still) → AllKnown (atoms_of c.propagate_whole-answer.new.area) c.args.literals.now
known c = subst (λ (n : ℕ). AllKnown n c.args.literals.now) (sym (stopped c).moved.atoms) c.requires.known

pub next_open-requires : goal.next_open-requires
next_open-requires c =
    let d = (goal.at.next_open-requires c).In-Still in
    record {
      lim = c.args.lim;
      counters = counted c.in-Still.after;
      searchable = record { usable = record { fitting = c.requires.usable.fitting; whole = (stopped d).moved.whole }; known = known d };
      inside = c.loop-count.invariant.inside;
    }

pub returns-in_default-next_open-clause-ends : goal.returns-in_default-next_open-clause-ends
returns-in_default-next_open-clause-ends c =
    let g = stopped ((goal.at.returns-in_default-next_open-clause-ends c).In-Still) in
    subst (λ (r : Searched). Ends c.args.lim c.args.area.now c.propagate_whole-answer.new.area c.args.literals.now r) (sym c.unopposed.ensures)
    (ends_list c.args.lim g (c.in_default-next_open.ensures c.args.lim _ g.moved.whole))

pub bounds-literals-j : goal.bounds-literals-j
bounds-literals-j c = (c.in-Some.ensures c.args.lim _ (stopped ((goal.at.bounds-literals-j c).In-Still)).moved.whole).1

pub offset_bounds-literals-j : goal.offset_bounds-literals-j
offset_bounds-literals-j c =
    let l = (c.in-Some.ensures c.args.lim _ (stopped ((goal.at.offset_bounds-literals-j c).In-Still)).moved.whole).1 in
    omega (arith, l)

pub try_literal-tried-requires : goal.try_literal-tried-requires
try_literal-tried-requires c =
    let d = (goal.at.try_literal-tried-requires c).In-Still in
    let whole = (stopped d).moved.whole in
    let o = c.in-Some.ensures c.args.lim _ whole in
    let fits : SFits w64 (nth c.args.literals.now c.in-Some.j) = record { sfits = omega arith } in
    subst (λ (l : ℤ). Tryable c.args.lim c.propagate_whole-answer.new.area (counted c.in-Still.after) l) (sym (to_z-of_z w64 _ fits))
    (record {
      usable = record { fitting = c.requires.usable.fitting; whole = whole };
      known = known_at _ c.args.literals.now (known d) c.in-Some.j o.1;
      off = o.2;
    })

pub returns-in_default-tried-clause-ends : goal.returns-in_default-tried-clause-ends
returns-in_default-tried-clause-ends c =
    let g = stopped ((goal.at.returns-in_default-tried-clause-ends c).In-Still) in
    rw c.unopposed-in_default-tried.ensures (ends_level c.args.lim g (c.in-Some.ensures c.args.lim _ g.moved.whole) _ c.in_default-tried.ensures)

pub loop-count-smaller : goal.loop-count-smaller
loop-count-smaller c =
    let o = c.in-Some.ensures c.args.lim _ (stopped ((goal.at.loop-count-smaller c).In-Still)).moved.whole in
    omega (arith, o.1, o.0.later)

pub loop-count-preserved : goal.loop-count-preserved
loop-count-preserved c =
    let g = stopped ((goal.at.loop-count-preserved c).In-Still) in
    let o = c.in-Some.ensures c.args.lim _ g.moved.whole in
    let fits : SFits w64 (nth c.args.literals.now c.in-Some.j) = record { sfits = omega arith } in
    let given = rw (to_z-of_z w64 (nth c.args.literals.now c.in-Some.j) fits) at c.in-Ok.ensures in
    record {
      inside = omega (arith, o.1);
      reached = reached_given c.args.lim g o _ c.in-Ok.next given;
    }
