-- One head more, behind the first k.
use native.Mathlib.Omega.{arith}
use Prim.Native.Nat.{◌+◌}
use mir.Syntax.{w64}
use mir.Val.{to_z}
use mir.ValLaws.{to_z_pos}
use Rattle.types.specs.Limits.{document}
use Rattle.load.proofs.Base.{base_fits}
use Rattle.listing_heads.proofs.Moves.{heads_none, heads_more, heads_all}
use Rattle.listing_heads.proofs.give_heads.Goals as goal

pub loop-k-init : goal.loop-k-init
loop-k-init c = rw c.start-current.ensures (heads_none c.args.area.now c.args.variables c.requires.whole)

pub give_whole-requires : goal.give_whole-requires
give_whole-requires c = (document, record { fitting = base_fits; whole = c.loop-k.invariant.stands.whole })

pub loop-k-preserved : goal.loop-k-preserved
loop-k-preserved c =
    let head = c.args.variables + c.loop-k.k + 1 in
    let g = c.loop-k.invariant in
    heads_more (to_z w64 head) c.give_whole.result (to_z_pos w64 head (omega (arith, c.requires.few))) c.unwrap_or-current.ensures g
    (c.give_whole.ensures document (record { fitting = base_fits; whole = g.stands.whole }))

pub returns : goal.returns
returns c = heads_all (omega arith) c.loop-k.invariant
