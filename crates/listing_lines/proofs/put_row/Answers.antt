-- Part behind part.
use Rattle.numbers.specs.Text.{bytes}
use Rattle.pages.proofs.Laws.{then_pair}
use Rattle.pages.proofs.Numbers.{named_put}
use Rattle.listing_lines.proofs.put_row.Goals as goal

pub returns : goal.returns
returns c = then_pair (bytes " ") _ _ (named_put (bytes "t ") c.args.literal c.ranges.literal c.put_named.ensures) c.put_pair.ensures
