-- The refusal of a search, 10 where a literal of the list is of no atom; and what it answers on a whole area otherwise: what the loop comes to.
use mathlib.Core.Path.{◌≡◌, refl, sym, ap, ◌∙◌, subst}
use mathlib.Core.Bool.{Bool, true, false, not, cond, ◌||◌}
use mathlib.Core.List.{List}
use Prim.Native.Nat.{ℕ}
use lib.IntN.{ℤ}
use lib.Dec.{T}
use Rattle.types.specs.declared.Limits.{Limits}
use Rattle.book.specs.Rows.{any}
use Rattle.book.specs.Table.{search, Returned, returned_by, State, no_atom, Outcome}
use Rattle.book.specs.Book.{Counters}
use Rattle.area.specs.Layout.{atoms_of}
use Rattle.area.specs.Whole.{Whole}
use Rattle.calls.specs.Calls.{counted, area_state, is_refusal, Moved, Acts}
use Rattle.calls.proofs.Acting.{acts_moved}
use Rattle.give.specs.Inner.Refused.{refusal_code}
use Rattle.give.proofs.Refused.{none_applies, replied}
use Rattle.search.specs.declared.Searched.{Searched}
use Rattle.candidates.specs.Inner.Candidates.{AllKnown}
use Rattle.search.specs.Search.{end_returned}
use Rattle.search.specs.Inner.Turn.{Ends}

module _ (lim : Limits) (w : List ℕ) (ls : List ℤ) where
  abbrev q : State
  q = area_state lim w

  -- ---- the code of the refusal

  known_code : AllKnown (atoms_of w) ls → 0 ≡ refusal_code lim w (search ls)
  known_code k = ap {A = Bool} (λ b. cond b 10 0) (sym k)

  pub all_known : refusal_code lim w (search ls) ≡ 0 → AllKnown (atoms_of w) ls
  all_known z = (none_applies lim w (search ls) z).0

  -- ---- not refused

  -- whatever is handed back: it is the loop's end
  pub acts_handed : (c : Counters) → Whole lim w c → AllKnown (atoms_of w) ls → (w' : List ℕ) (r : Searched) → Ends lim w w' ls r
      → (c' : Counters) (p : Returned) → c' ≡ counted r.counters → p ≡ end_returned r → Acts lim w w' c c' (search ls) p
  acts_handed c h k w' r e c' p after told =
      let o = (replied lim w (search ls)).passes (sym (known_code k)) in
      acts_moved lim w c (search ls) p w' c' h
      (subst (λ (x : Outcome). T (not (is_refusal x.answer || false))) (sym o) tt)
      (told ∙ e.answer ∙ ap {A = Outcome} (λ x. returned_by x.answer) (sym o))
      (rw after (subst (λ (x : Outcome). Moved lim w w' (counted r.counters) x) (sym o) e.moved))

  pub acts_searched : (c : Counters) → Whole lim w c → AllKnown (atoms_of w) ls → (w' : List ℕ) (r : Searched) → Ends lim w w' ls r
      → Acts lim w w' c (counted r.counters) (search ls) (end_returned r)
  acts_searched c h k w' r e = acts_handed c h k w' r e (counted r.counters) (end_returned r) refl refl
