-- Part behind part.
use Rattle.std.proofs.Common.{[], ◌∷◌}
use Rattle.pages.proofs.Laws.{then, then_line}
use Rattle.pages.proofs.Page.put_pair.Goals as goal

pub returns : goal.returns
returns c = then_line (32 ∷ []) c.args.n (then c.put_bytes.ensures c.put_number.ensures) c.put_line.ensures
