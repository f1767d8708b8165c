-- Load's answer decides, and the area's state is the table's at each step.
use mathlib.Core.Path.{refl}
use Rattle.columns.proofs.Answers.{refusal_some}
use Rattle.listing.proofs.Loading.{refusal_answered, heads_asked, listing_answered}
use Rattle.listing.proofs.list_sentences.Goals as goal

pub give_heads-given-requires : goal.give_heads-given-requires
give_heads-given-requires c =
    let loads = rw c.in-Ok.is at c.load.ensures.loads in heads_asked c.args.variables c.args.constraints refl loads refl c.requires

pub put_listing-requires : goal.put_listing-requires
put_listing-requires c = c.give_heads-given.ensures.stands.whole

pub returns-in-Ok : goal.returns-in-Ok
returns-in-Ok c =
    let loads = rw c.in-Ok.is at c.load.ensures.loads in
    listing_answered c.args.variables c.args.constraints refl loads refl c.give_heads-given.ensures c.put_listing.ensures

pub returns-in-Err : goal.returns-in-Err
returns-in-Err c =
    let loads = rw c.in-Err.is at c.load.ensures.loads in
    refusal_answered c.args.variables c.args.constraints refl loads (refusal_some c.in-Err.refusal) (rw c.answer-told.ensures at c.put_pair.ensures)
