-- Propagate's answer is the table's, and the area is whole after it.
use Rattle.types.specs.Limits.{document}
use Rattle.load.proofs.Base.{base_fits}
use Rattle.listing.proofs.Moves.{still_whole, listing_put}
use Rattle.listing.proofs.put_listing.Goals as goal

pub propagate_whole-stopped-requires : goal.propagate_whole-stopped-requires
propagate_whole-stopped-requires c = (document, record { fitting = base_fits; whole = c.requires })

pub invariant_of-whole : goal.invariant_of-whole
invariant_of-whole c =
    let s = c.propagate_whole-stopped in
    record {
      fitting = rw c.document.ensures base_fits;
      whole = rw c.document.ensures (still_whole s.result c.requires s.ensures.acts c.counters.result c.counters.ensures);
    }

pub returns : goal.returns
returns c =
    let s = c.propagate_whole-stopped in
    listing_put s.result c.requires s.ensures.acts s.ensures.named c.put_stopped.ensures (rw c.document.ensures at c.put_state.ensures)
