-- The atom's value word says where its literal stands, and of which sign (`Positions`).
use Rattle.std.proofs.Common.{ℕ, ℤ, arith}
use Rattle.meaning.specs.Meaning.{atom}
use Rattle.literals.specs.Inner.Literals.{IsAtom}
use Rattle.causes.specs.Inner.Causes.{AtomAt}
use Rattle.causes.proofs.Positions.{position_open, position_opposite, position_found}
use Rattle.located.proofs.Signs.{sign_other, sign_same}
use Rattle.located.proofs.position_of.Goals as goal
use Rattle.located.proofs.position_of.Goals.{then-v-eq0-via-then-v-eq0, then-v-eq0-via-else-v-eq0+then-v-is_negative}

at : {n a : ℕ} {l : ℤ} → IsAtom n l a → AtomAt n (atom l) a
at k = record { is = k.is; low = omega (arith, k.is, k.low); high = omega (arith, k.is, k.high) }

pub returns-then-v-eq0 : goal.returns-then-v-eq0
returns-then-v-eq0 c =
    elim c.then-v-eq0.branch [
      | then-v-eq0-via-then-v-eq0 w ↦
          position_open _ _ _ c.requires.0 c.args.literal (at c.requires.1) c.value_at-v.ensures w.if-v-eq0.true
      | then-v-eq0-via-else-v-eq0+then-v-is_negative w ↦
          position_opposite _ _ _ c.requires.0 c.args.literal (at c.requires.1) c.value_at-v.ensures w.if-v-eq0.false
          (sign_other c.ranges.literal (omega arith) w.is_negative.ensures w.if-v-is_negative.true)
    ]

pub returns : goal.returns
returns c =
    position_found _ _ _ c.requires.0 c.args.literal (at c.requires.1) c.value_at-v.ensures c.if-v-eq0.false
    (sign_same c.ranges.literal (omega arith) c.is_negative.ensures c.if-v-is_negative.false)
