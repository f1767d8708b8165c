-- The atom's value word says where its literal stands (`Positions`).
use Rattle.causes.proofs.Positions.{cause_open, cause_placed}
use Rattle.causes.proofs.cause_at.Goals as goal

pub returns-then-v-eq0 : goal.returns-then-v-eq0
returns-then-v-eq0 c =
    cause_open _ _ _ c.requires.0.trail_asked c.atom_at.ensures c.value_at-v.ensures _ c.requires.0.few c.if-v-eq0.true

pub returns : goal.returns
returns c =
    rw c.then_some.ensures
    (cause_placed _ _ _ c.requires.0.trail_asked c.atom_at.ensures c.value_at-v.ensures _ c.requires.0.few c.if-v-eq0.false)
