-- The answer of all sentences is that of those from s on, whose entries start where the counts before s end.
use Rattle.std.proofs.Common.{◌≡◌, ◌≤◌, length}
use Rattle.decide.specs.Below.{sum_first}
use Rattle.columns.specs.Columns.{held, all_written}
use Rattle.columns.specs.Refusals.{all_refusals, first_refusal}
use Rattle.columns.proofs.Walk.{answer_from}
use Rattle.load_check.proofs.check_sentences.Given as goal

abbrev pub invariant-loop-s : goal.invariant-loop-s
invariant-loop-s l = record {
  from_is : l.from ≡ sum_first l.columns.counts.now l.s;
  low : l.from ≤ length l.columns.weights.now;
  same : first_refusal (all_refusals l.lim l.n 1 (all_written (held l.columns))) ≡ answer_from l.lim l.n (held l.columns) l.s;
}
