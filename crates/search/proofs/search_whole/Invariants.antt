-- What is left to do from the words reached comes to the whole search (`Turning`); the list grows shorter by each literal tried.
use Rattle.std.proofs.Common.{◌-◌, ◌≤◌, length, drop}
use Rattle.calls.specs.Calls.{counted, area_state}
use Rattle.candidates.proofs.Passing.{turns}
use Rattle.search.proofs.Turning.{Reached}
use Rattle.search.proofs.search_whole.Given as goal

abbrev pub invariant-loop-count : goal.invariant-loop-count
invariant-loop-count l = record {
  inside : l.gone ≤ length l.literals;
  reached : Reached l.lim l.fn.area l.area (counted l.current) l.literals l.total (turns (area_state l.lim l.area) l.total l.gone (drop l.gone l.literals));
}

abbrev pub decreases-loop-count : goal.decreases-loop-count
decreases-loop-count l = length l.literals - l.gone
