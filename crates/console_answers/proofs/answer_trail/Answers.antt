-- The page has room for the rows of such a list, whatever its numbers are.
use Rattle.std.proofs.Common.{ℕ, ◌/◌, ap, rules, arith}
use Rattle.calls.specs.Calls.{listed_returned}
use Rattle.answer_lines.specs.Lines.{trail_lines}
use Rattle.answer_lines.proofs.Fits.{trail_fits}
use Rattle.console_answers.proofs.answer_trail.Goals as goal

pub write-requires-clause-fits : goal.write-requires-clause-fits
write-requires-clause-fits c =
    let answer = listed_returned c.args.answer in
    let list = c.args.list.now in
    (trail_lines answer list, omega (arith, trail_fits answer list, ap (λ (n : ℕ). n / 3) c.told-list), λ p q r. search rules)
