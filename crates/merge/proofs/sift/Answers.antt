use Rattle.std.proofs.Common.{◌≡◌, ◌≢◌, ◌*◌, get_or, arith, rules, tests}
use Rattle.numbers.specs.Words.{half}
use Rattle.merge.proofs.Sifting.{sift_none, sift_drop, sift_keep}
use Rattle.merge.proofs.sift.Goals as goal
use Rattle.merge.proofs.sift.Goals.{then-kept, else-kept}

pub loop-k-init : goal.loop-k-init
loop-k-init c = record { few = omega arith; sifting = sift_none _ }

pub loop-k-preserved : goal.loop-k-preserved
loop-k-preserved c =
    let l = c.loop-k in
    elim c.if-kept.branch [
      | then-kept w ↦
          let something : get_or l.part (2 * l.k) 0 ≢ half = search (rules, tests) in
          record { few = omega arith; sifting = rw (w.part-is, w.m-is) (sift_keep l.invariant.sifting (omega (arith, c.requires.0)) l.auto.part something) }
      | else-kept w ↦
          let nothing : get_or l.part (2 * l.k) 0 ≡ half = search (rules, tests) in
          record { few = omega arith; sifting = rw (w.part-is, w.m-is) (sift_drop l.invariant.sifting (omega (arith, c.requires.0)) nothing) }
    ]
