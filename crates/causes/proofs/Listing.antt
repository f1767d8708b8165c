-- The ways out of a call that writes a lent list: 9 where the area is not whole; on a whole area a refusal, which leaves the list, or the
-- result at its front.
use mathlib.Core.Path.{◌≡◌, refl, sym, ◌∙◌, ap}
use mathlib.Core.List.{List, ◌++◌}
use Prim.Native.Nat.{ℕ}
use lib.IntN.{ℤ, pos}
use lib.ListN.{length, drop}
use Rattle.std.specs.Prelude.{Result, Ok, Err}
use Rattle.types.specs.declared.Limits.{Limits}
use Rattle.numbers.specs.Extended.{at}
use Rattle.book.specs.Table.{Report, a_report, listed, Answer, refused, reported, numbers, returned_by, list_after, reply}
use Rattle.book.specs.Book.{Counters}
use Rattle.area.specs.Whole.{Whole}
use Rattle.calls.specs.declared.Refusal.{Refusal}
use Rattle.calls.specs.Calls.{area_state, listed_returned, Reports}
use Rattle.calls.specs.Refusals.{code_of, value_of}
use Rattle.calls.proofs.Acting.{answered_nine, answered_whole}
use Rattle.causes.specs.Inner.Listing.{Listing}

module _ (lim : Limits) (w : List ℕ) (c : Counters) (x : Report) (old : List ℤ) where
  pub lists_nine : (r : Result ℕ Refusal) → (Whole lim w c → ⊥) → listed_returned r ≡ returned_by (refused 9 0) → Reports lim w c x old old (listed_returned r)
  lists_nine r n e = record { answer = answered_nine lim w c (a_report x (length old)) (listed_returned r) n e; broken = λ _. refl; written = λ h. absurd (n h) }

  pub lists_whole : (new : List ℤ) (r : Result ℕ Refusal) → Whole lim w c → Listing lim w x old new r → Reports lim w c x old new (listed_returned r)
  lists_whole new r h l =
      record { answer = answered_whole lim w c (a_report x (length old)) (listed_returned r) h l.answer; broken = λ n. absurd (n h); written = λ _. l.written }

module _ (lim : Limits) (w : List ℕ) (x : Report) (old : List ℤ) where
  pub listing_refused : (r : Refusal) → (reply (area_state lim w) (a_report x (length old))).answer ≡ refused (code_of r) (value_of r)
      → Listing lim w x old old (Err r)
  listing_refused r e = record { answer = ap {A = Answer} returned_by (sym e); written = ap {A = Answer} (λ a. list_after a old) (sym e) }

  pub listing_done : (ls new : List ℤ) (m : ℕ) → (reply (area_state lim w) (a_report x (length old))).answer ≡ reported (listed ls) → m ≡ length ls → new ≡ ls ++ drop m old
      → Listing lim w x old new (Ok m)
  listing_done ls new m e size d = record {
    answer = ap {A = ℕ} (λ k. numbers 0 k 0 0 (at (pos 0)) (at (pos 0))) size ∙ ap {A = Answer} returned_by (sym e);
    written = d ∙ ap {A = ℕ} (λ k. ls ++ drop k old) size ∙ ap {A = Answer} (λ a. list_after a old) (sym e);
  }
