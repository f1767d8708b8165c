use mathlib.Core.Path.{◌∙◌}
use Rattle.std.proofs.Common.{◌≡◌, arith, rules}
use Rattle.evaluate.proofs.Loops.{scanning_turns, scanning_next}
use Rattle.find.proofs.Speech.{silent_next, found_nothing}
use Rattle.find.proofs.Scan.{scanned_none, conflict_found, head_found, entry_found}
use Rattle.find.proofs.find.Goals.{in-Silent, in-Undecided+else-loop-i-test}
use Rattle.find.proofs.find.Goals as goal

pub entry_turns-requires : goal.entry_turns-requires
entry_turns-requires c = scanning_turns c.loop-i-test.true c.in-Undecided.ensures.placed.entries c.loop-i.invariant.scanning c.entry_in-e.ensures

pub loop-i-preserved : goal.loop-i-preserved
loop-i-preserved c = record {
  nothing = c.loop-i.invariant.nothing;
  scanning =
      scanning_next c.loop-i-test.true c.in-Undecided.ensures.placed.entries c.loop-i.invariant.scanning c.entry_in-e.ensures c.entry_turns.ensures
      c.if-entry_turns.false;
}

pub sentences-preserved : goal.sentences-preserved
sentences-preserved c =
    let silent = silent_next _ _ _ _ c.sentences-test.true c.sentences.invariant.silent in
    elim c.match-known_of.branch [
      | in-Silent w ↦ record { nothing = w.found-is ∙ c.sentences.invariant.nothing; silent = silent w.in-Silent.ensures.said_is }
      | in-Undecided+else-loop-i-test w ↦ record {
        nothing = w.found-is ∙ w.loop-i.invariant.nothing;
        silent = silent (scanned_none c.sentences-test.true c.sentences.invariant.silent w.in-Undecided.ensures w.loop-i.invariant.scanning (omega arith));
      }
    ]

pub returns-after-sentences : goal.returns-after-sentences
returns-after-sentences c =
    let e : c.sentences.s ≡ c.args.sizes.sentences = omega arith in
    rw c.sentences.invariant.nothing (found_nothing _ _ _ _ e c.sentences.invariant.silent)

pub returns-in-Conflict : goal.returns-in-Conflict
returns-in-Conflict c = let f = conflict_found c.sentences-test.true c.sentences.invariant.silent c.in-Conflict.ensures in search rules

pub returns-in-Forced : goal.returns-in-Forced
returns-in-Forced c = let f = head_found c.sentences-test.true c.sentences.invariant.silent c.in-Forced.l c.in-Forced.ensures in search rules

pub returns-then-entry_turns : goal.returns-then-entry_turns
returns-then-entry_turns c =
    let f = entry_found c.sentences-test.true c.sentences.invariant.silent c.in-Undecided.ensures c.loop-i-test.true c.loop-i.invariant.scanning
    c.entry_in-e.ensures c.entry_turns.ensures c.if-entry_turns.true c.entry_wanted-forced.ensures in
    search rules
