-- The table's answers to origin on a whole area: 10 where the literal is of no atom, 12 where it is not on the trail, and otherwise its
-- origins, or 18 with their number.
use mathlib.Core.Path.{◌≡◌, refl, sym, subst}
use mathlib.Core.Bool.{true, false}
use mathlib.Core.List.{List}
use mathlib.Core.Logic.{⊎_elim}
use Prim.Native.Nat.{ℕ, ◌<◌, ◌≤◌}
use lib.IntN.{ℤ}
use lib.ListN.{length}
use borrow.Author.Tests.{lt-ltb, le-ltb}
use Rattle.std.specs.Prelude.{Result, Err}
use Rattle.types.specs.declared.Limits.{Limits}
use Rattle.numbers.proofs.Words.{cases}
use Rattle.book.specs.Rows.{origins}
use Rattle.book.specs.Table.{Report, origin, refused, listed, scopes, no_atom, stands, reply, a_report, reported}
use Rattle.book.specs.Book.{judged_all}
use Rattle.area.specs.Layout.{rows_of, theory_of}
use Rattle.calls.specs.declared.Refusal.{Refusal}
use Rattle.calls.specs.declared.Refusal.TheVariants.{TooShort}
use Rattle.calls.specs.Calls.{area_state}
use Rattle.causes.specs.Inner.Listing.{Listing}
use Rattle.causes.proofs.Listing.{listing_refused, listing_done}
use Rattle.located.specs.Inner.Located.{OnTrail}
use Rattle.origins.specs.Inner.Origins.{origins_at, Handed}

module _ (lim : Limits) (w : List ℕ) (l : ℤ) (old : List ℤ) where
  abbrev call : Report
  call = origin l

  abbrev ls : List ℤ
  ls = origins (scopes (judged_all (theory_of w))) (rows_of w) l

  -- ---- refused

  pub strange : no_atom (area_state lim w) l ≡ true → (reply (area_state lim w) (a_report call (length old))).answer ≡ refused 10 0
  unfolding reply
  strange e = rw e

  module _ (known : no_atom (area_state lim w) l ≡ false) where
    pub absent : stands (area_state lim w) l ≡ false → (reply (area_state lim w) (a_report call (length old))).answer ≡ refused 12 0
    unfolding reply
    absent e = rw (known, e)

    -- ---- listed

    module _ (on : stands (area_state lim w) l ≡ true) where
      short : length old < length ls → (reply (area_state lim w) (a_report call (length old))).answer ≡ refused 18 (length ls)
      unfolding reply
      short h = rw (known, on, lt-ltb (length old) (length ls) h)

      enough : length ls ≤ length old → (reply (area_state lim w) (a_report call (length old))).answer ≡ reported (listed ls)
      unfolding reply
      enough h = rw (known, on, le-ltb (length old) (length ls) h)

      listing_handed : (new : List ℤ) (r : Result ℕ Refusal) → Handed ls old new r → Listing lim w call old new r
      listing_handed new r h =
          ⊎_elim
          (λ (q : length ls ≤ length old).
          let x = h.enough q in
          subst (Listing lim w call old new) (sym x.0) (listing_done lim w call old ls new (length ls) (enough q) refl x.1))
          (λ (q : length old < length ls).
          let x = h.short q in
          subst (Listing lim w call old new) (sym x.0)
          (subst (λ y. Listing lim w call old y (Err (TooShort (length ls)))) (sym x.1) (listing_refused lim w call old (TooShort (length ls)) (short q))))
          (cases (length old) (length ls))

  pub listing_at : {p : ℕ} → OnTrail w l p → (new : List ℤ) (r : Result ℕ Refusal) → Handed (origins_at w p) old new r → Listing lim w call old new r
  listing_at on new r x =
      listing_handed on.known on.position.found new r
      (subst (λ k. Handed (origins (scopes (judged_all (theory_of w))) (rows_of w) k) old new r) on.position.literal_is x)
