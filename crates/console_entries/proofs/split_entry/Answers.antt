-- Two words, both numbers.
use Rattle.std.proofs.Common.{rules}
use mir.Syntax.{w64}
use mir.ValLaws.{to_z-of_z}
use Rattle.console_entries.proofs.Entries.{no_weight, no_literal, entry_split}
use Rattle.console_entries.proofs.split_entry.Goals as goal

pub returns-in_err-weight : goal.returns-in_err-weight
returns-in_err-weight c = rw c.from_residual.ensures (no_weight c.args.line.now c.in_err-weight.ensures)

pub returns-in_err-literal : goal.returns-in_err-literal
returns-in_err-literal c = rw c.from_residual-in_err-literal.ensures (no_literal c.args.line.now _ _ c.in_ok-weight.ensures c.in_err-literal.ensures)

pub returns : goal.returns
returns c = rw (to_z-of_z w64 c.in_ok-weight.weight (search rules), to_z-of_z w64 c.in_ok-literal.literal (search rules))
    (entry_split c.args.line.now _ _ c.in_ok-weight.ensures _ _ c.in_ok-literal.ensures)
