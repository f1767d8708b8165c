-- One number more, behind those before it; at the end the whole list.
use borrow.Author.Rules.{rules}
use mathlib.Core.Path.{ap}
use native.Mathlib.Omega.{arith}
use lib.Seq.{take_all}
use Rattle.answer_lines.specs.Lines.{numbers}
use Rattle.pages.proofs.Laws.{puts_as}
use Rattle.list_lines.proofs.Lists.{no_numbers, number_more, none_gone}
use Rattle.list_lines.proofs.put_numbers.Goals as goal

pub loop-number-init : goal.loop-number-init
loop-number-init c = no_numbers c.args.list.now c.args.page.now

pub loop-number-preserved : goal.loop-number-preserved
loop-number-preserved c =
    number_more c.args.list.now _ c.loop-number.number-index (grind (arith, take_all, none_gone)) c.loop-number-test.true (search rules)
    c.loop-number.invariant c.put_named.ensures

pub returns : goal.returns
returns c = puts_as (ap numbers (take_all c.loop-number.number-index c.args.list.now (grind (arith, take_all, none_gone)))) c.loop-number.invariant
