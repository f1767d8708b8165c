use Rattle.find.proofs.Sentences.{ready_of, extremes_of, marked}
use Rattle.find.proofs.known_of.Goals as goal

pub invariant_of-look : goal.invariant_of-look
invariant_of-look c = record { ready = rw c.record_at-base.ensures (ready_of c.requires.find_ready c.requires.s_lt_sentences) }

pub look-requires : goal.look-requires
look-requires c = rw c.record_at-base.ensures
    (extremes_of c.requires.find_ready c.requires.s_lt_sentences (rw c.record_at-base.ensures at c.least_at.ensures)
    (rw c.record_at-base.ensures at c.greatest_at.ensures))

pub returns : goal.returns
returns c = marked c.requires.find_ready c.requires.s_lt_sentences (rw c.record_at-base.ensures at c.look.ensures)
