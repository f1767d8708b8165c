-- Every public contract is a call of the claim: give, open, take back, propagate and the search are steps, the others reports. Bounds lend no
-- list, so that none is written.
use mathlib.Core.List.{List, []}
use Prim.Native.Nat.{ℕ}
use lib.ListN.{length}
use lib.IntN.{ℤ}
use Rattle.std.specs.Prelude.{Result}
use Rattle.types.specs.declared.Limits.{Limits}
use Rattle.types.specs.declared.Counters.{Counters}
use Rattle.book.specs.Table.{give, open_level, take_back, propagate, search, bounds, explain, explain_conflict, origin, list_trail, a_step, a_report}
use Rattle.calls.specs.declared.Refusal.{Refusal}
use Rattle.calls.specs.declared.Bounds.{Bounds}
use Rattle.calls.specs.Calls.{counted, counters_after, done_returned, bounds_returned, listed_returned}
use Rattle.calls.proofs.Acting.{bounds_report}
use Rattle.propagate.specs.declared.Propagated.{Propagated}
use Rattle.propagate.specs.Propagate.{propagated_returned, counters_stopped}
use Rattle.search.specs.declared.Searched.{Searched}
use Rattle.search.specs.Search.{searched_returned, counters_searched}
use Rattle.dalelead.specs.Public.{Gives, Opens, TakesBack, Propagates, SearchesFor, ReadsBounds, ListsExplanation, ListsConflict, ListsOrigin, ListsTrail}
use Rattle.history.specs.History.{event_of, counters_held, Called, by_step, by_report}

module _ {lim : Limits} {w w' : List ℕ} {c d : Counters} where
  pub gives : {l : ℤ} (r : Result Counters Refusal) → Gives lim w w' d l r
      → Called lim w c d w' (event_of (a_step (give l)) w d (done_returned r) [] []) (counters_held (done_returned r) c (counters_after d r))
  gives r a = by_step _ (done_returned r) (counters_after d r) a

  pub opens : (r : Result Counters Refusal) → Opens lim w w' d r
      → Called lim w c d w' (event_of (a_step open_level) w d (done_returned r) [] []) (counters_held (done_returned r) c (counters_after d r))
  opens r a = by_step _ (done_returned r) (counters_after d r) a

  pub takes_back : {k : ℕ} (r : Result Counters Refusal) → TakesBack lim w w' d k r
      → Called lim w c d w' (event_of (a_step (take_back k)) w d (done_returned r) [] []) (counters_held (done_returned r) c (counters_after d r))
  takes_back r a = by_step _ (done_returned r) (counters_after d r) a

  pub propagates : (r : Result Propagated Refusal) → Propagates lim w w' d r
      → Called lim w c d w' (event_of (a_step propagate) w d (propagated_returned r) [] []) (counters_held (propagated_returned r) c (counters_stopped d r))
  propagates r a = by_step _ (propagated_returned r) (counters_stopped d r) a.0

  pub searches : {ls : List ℤ} (r : Result Searched Refusal) → SearchesFor lim w w' d ls r
      → Called lim w c d w' (event_of (a_step (search ls)) w d (searched_returned r) [] []) (counters_held (searched_returned r) c (counters_searched d r))
  searches r a = by_step _ (searched_returned r) (counters_searched d r) a.0

module _ {lim : Limits} {w : List ℕ} {c d : Counters} where
  pub reads_bounds : {k : ℕ} (r : Result Bounds Refusal) → ReadsBounds lim w d k r
      → Called lim w c d w (event_of (a_report (bounds k) 0) w d (bounds_returned r) [] []) c
  reads_bounds {k} r a = by_report (bounds k) (bounds_returned r) [] [] (bounds_report lim w (counted d) k (bounds_returned r) a)

  module _ {old new : List ℤ} (r : Result ℕ Refusal) where
    pub lists_explanation : {l : ℤ} → ListsExplanation lim w d l old new r → Called lim w c d w (event_of (a_report (explain l) (length old)) w d (listed_returned r) old new) c
    lists_explanation a = by_report _ (listed_returned r) _ _ a

    pub lists_conflict : {k : ℕ} → ListsConflict lim w d k old new r
        → Called lim w c d w (event_of (a_report (explain_conflict k) (length old)) w d (listed_returned r) old new) c
    lists_conflict a = by_report _ (listed_returned r) _ _ a

    pub lists_origin : {l : ℤ} → ListsOrigin lim w d l old new r → Called lim w c d w (event_of (a_report (origin l) (length old)) w d (listed_returned r) old new) c
    lists_origin a = by_report _ (listed_returned r) _ _ a

    pub lists_trail : ListsTrail lim w d old new r → Called lim w c d w (event_of (a_report list_trail (length old)) w d (listed_returned r) old new) c
    lists_trail a = by_report _ (listed_returned r) _ _ a
