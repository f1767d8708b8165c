-- All levels rise up to `level` exactly where those of the rows left rise up to `high`, the level of the row passed last.
use Rattle.area.specs.Layout.{rows_from}
use Rattle.area.specs.Whole.{Rising}
use Rattle.trail_check.proofs.Trail.levels_ok.Given as goal

abbrev pub invariant-loop-i : goal.invariant-loop-i
invariant-loop-i l = record {
  all : Rising l.high (rows_from l.self.area.now l.self.n l.i) → Rising l.level (rows_from l.self.area.now l.self.n l.self.len);
  left : Rising l.level (rows_from l.self.area.now l.self.n l.self.len) → Rising l.high (rows_from l.self.area.now l.self.n l.i);
}
