-- An open atom leaves room for a row.
use Rattle.std.proofs.Common.{arith}
use lib.ListN.{length-set}
use Rattle.trail.proofs.PutOn.{room_left}
use Rattle.trail.proofs.put.Goals as goal

pub bounds-area-n-3 : goal.bounds-area-n-3
bounds-area-n-3 c =
    let short = room_left _ _ _ _ _ _ c.requires.0.standing c.requires.1 in
    simp length-set (omega arith)
