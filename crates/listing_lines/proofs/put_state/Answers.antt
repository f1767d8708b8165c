-- A whole area's sentences are as many as word 0 says.
use Rattle.listing_lines.proofs.Parts.{state_put}
use Rattle.listing_lines.proofs.put_state.Goals as goal

pub returns : goal.returns
returns c =
    let t = c.trail.ensures in
    state_put c.args.checked.lim _ t.atoms t.rows c.sentences_of.ensures (rw t.words at c.put_rows.ensures) c.put_bounds.ensures
