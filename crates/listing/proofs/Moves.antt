-- Propagate always moves; its answer has one line, whether it is read off the table or off the code; and the listing behind it.
use mathlib.Core.Path.{◌≡◌, refl, sym, ap, subst}
use mathlib.Core.Bool.{Bool, false, not, ◌||◌}
use mathlib.Core.List.{List}
use Prim.Native.Nat.{ℕ, zero, suc}
use lib.Dec.{T}
use Rattle.types.specs.Limits.{document}
use Rattle.types.specs.declared.Limits.{Limits}
use Rattle.types.specs.declared.Counters as t
use Rattle.book.specs.Table.{propagate, a_step, Returned, returned_by, ended, propagated, reply}
use Rattle.book.specs.Book.{Counters}
use Rattle.area.specs.Whole.{Whole}
use Rattle.whole.specs.Inner.Usable.{Usable}
use Rattle.load.proofs.Base.{base_fits}
use Rattle.calls.specs.Calls.{area_state, counted, is_refusal, unmoved, Acts}
use Rattle.propagate.specs.declared.Propagated.{Propagated}
use Rattle.propagate.specs.Propagate.{stop_returned, counters_of, SentenceNamed}
use Rattle.answer_lines.specs.Lines.{stopped_line, stop_line}
use Rattle.answer_lines.proofs.Told.{stopped_told}
use Rattle.pages.specs.declared.Page.{Page}
use Rattle.pages.specs.Page.{Puts}
use Rattle.pages.proofs.Laws.{then, puts_as}
use Rattle.listing.specs.Output.{listing}
use Rattle.listing_lines.specs.Lines.{state_lines}
use Rattle.listing_heads.proofs.Moves.{Next, moved_next}

ended_moves : (s n : ℕ) → is_refusal (ended s n) ≡ false
ended_moves zero n = refl
ended_moves (suc k) n = refl

propagate_moves : (w : List ℕ) → T (not (unmoved (area_state document w) propagate))
unfolding reply
propagate_moves w =
    subst (λ (b : Bool). T (not (b || false))) (sym (ended_moves (propagated (area_state document w)).sentence _)) tt

pub propagate_next : {w w' : List ℕ} {c c' : Counters} {p : Returned} → Whole document w c → Acts document w w' c c' propagate p → Next w w' c' (a_step propagate)
propagate_next {w} h a = moved_next (a_step propagate) (a.moved h (propagate_moves w))

-- ---- the listing

module _ {w w' : List ℕ} {c : Counters} (r : Propagated) (h : Whole document w c)
    (a : (lim : Limits) → Usable lim w c → Acts lim w w' c (counted (counters_of r)) propagate (stop_returned r)) where
  acts : Acts document w w' c (counted (counters_of r)) propagate (stop_returned r)
  acts = a document (record { fitting = base_fits; whole = h })

  pub still_whole : (d : t.Counters) → d ≡ counters_of r → Whole document w' (counted d)
  still_whole d s = subst (λ (x : t.Counters). Whole document w' (counted x)) (sym s) (propagate_next h acts).whole

  line : SentenceNamed r → stopped_line r ≡ stop_line (returned_by (reply (area_state document w) (a_step propagate)).answer)
  line = stopped_told r (reply (area_state document w) (a_step propagate)).answer (acts.answer.told h)

  pub listing_put : {p q s : Page} → SentenceNamed r → Puts p q (stopped_line r) → Puts q s (state_lines (area_state document w'))
      → Puts p s (listing (area_state document w))
  listing_put d f g = then (puts_as (line d) f) (puts_as (ap state_lines (propagate_next h acts).state) g)
