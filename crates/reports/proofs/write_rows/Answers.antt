-- Three numbers more are the next row (`Rows`).
use Rattle.std.proofs.Common.{◌∙◌, ap, ℕ, rules, arith}
use mir.Syntax.{w64}
use mir.ValLaws.{to_z-of_z}
use Rattle.numbers.specs.Words.{literal_of}
use Rattle.reports.proofs.Rows.{none_written, row_written}
use Rattle.reports.proofs.write_rows.Goals as goal

pub loop-i-init : goal.loop-i-init
loop-i-init c = none_written _ _ _

pub loop-i-preserved : goal.loop-i-preserved
loop-i-preserved c =
    c.write_row.ensures
    ∙ row_written _ c.args.trail.n c.loop-i.i _ _ (omega arith) c.loop-i.invariant
    (to_z-of_z w64 c.literal_of-literal.result (search rules) ∙ c.literal_of-literal.ensures ∙ ap {A = ℕ} literal_of c.literal_at.ensures)
    c.row_level-level.ensures c.row_reason-reason.ensures
