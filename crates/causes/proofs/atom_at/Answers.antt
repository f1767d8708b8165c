-- Half the literal's word of a merged entry, at its place (`Places`).
use Rattle.causes.proofs.Places.{entry_within}
use Rattle.causes.proofs.atom_at.Goals as goal

pub returns : goal.returns
returns c = rw c.entry_literal_at.ensures (entry_within _ _ _ _ c.args.sentence.ready c.args.place c.if-place-eq0.false c.requires)
