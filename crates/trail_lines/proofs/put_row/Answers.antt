-- Part behind part.
use Rattle.numbers.specs.Text.{bytes}
use Rattle.pages.proofs.Laws.{then, then_named}
use Rattle.pages.proofs.Numbers.{named_put}
use Rattle.trail_lines.proofs.put_row.Goals as goal

pub returns : goal.returns
returns c =
    let a = c.args in
    let r = c.ranges in
    let first = named_put (bytes "t ") a.literal r.literal c.put_named.ensures in
    let second = then_named (bytes " ") a.level first (named_put (bytes " ") a.level r.level c.put_named-2.ensures) in
    then (then_named (bytes " ") a.reason second (named_put (bytes " ") a.reason r.reason c.put_named-3.ensures)) c.put_bytes.ensures
