-- The four stores of `put` and the renewal of the sentences that have the one touched atom (`Advancing`).
use Rattle.give.proofs.Advancing.{put_ready, refresh_ready, advance_done}
use Rattle.give.proofs.advance.Goals as goal

pub put-requires : goal.put-requires
put-requires c = put_ready _ _ _ _ _ _ _ _ c.requires.2

pub refresh-requires : goal.refresh-requires
refresh-requires c =
    rw c.put.ensures (c.requires.0, refresh_ready _ _ _ _ _ _ _ _ c.requires.2 _ c.only-touched.ensures.1 c.only-touched.ensures.0)

pub returns : goal.returns
returns c lim level a = advance_done lim _ _ _ _ level _ _ a _ c.only-touched.ensures.1 _ (rw c.put.ensures at c.refresh.ensures)
