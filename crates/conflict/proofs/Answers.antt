-- The ways out of the call on a whole area once the sentence is found: 17, 18, or the list written.
use mathlib.Core.Path.{◌≡◌, sym, ◌∙◌, ap, subst}
use mathlib.Core.Bool.{true, false}
use mathlib.Core.List.{List, ◌++◌}
use Prim.Native.Nat.{ℕ, suc, ◌+◌, ◌-◌, ◌<◌, ◌≤◌}
use native.Mathlib.Omega.{arith}
use lib.IntN.{ℤ}
use lib.ListN.{length, drop}
use Rattle.std.specs.Prelude.{Ok, Err}
use Rattle.types.specs.declared.Limits.{Limits}
use Rattle.types.specs.Limits.{Fitting}
use Rattle.book.specs.Table.{explain_conflict}
use Rattle.book.specs.Book.{Counters}
use Rattle.area.specs.Layout.{atoms_of, sentences_of, length_of, record_at}
use Rattle.area.specs.Whole.{Whole}
use Rattle.calls.specs.declared.Refusal.TheVariants.{NoConflict, TooShort}
use Rattle.causes.specs.Inner.Causes.{CausesAsked}
use Rattle.causes.specs.Inner.Listing.{Listing}
use Rattle.causes.proofs.Gives.{causes_asked}
use Rattle.causes.proofs.Listing.{listing_refused, listing_done}
use Rattle.negations.specs.Inner.Negations.{negations, overwritten}
use Rattle.conflict.specs.Inner.Conflict.{ConflictIs}
use Rattle.conflict.proofs.Conflicts.{conflict_tested}
use Rattle.conflict.proofs.Replies.{conflict_quiet, conflict_short, conflict_listed}

module _ {lim : Limits} {w : List ℕ} {c : Counters} (fit : Fitting lim) (h : Whole lim w c) where
  abbrev n : ℕ
  n = atoms_of w

  abbrev S : ℕ
  S = sentences_of w

  pub conflict_asked : CausesAsked w n (length_of w)
  conflict_asked = causes_asked lim w c fit h (length_of w) (omega arith)

  module _ (k : ℕ) (low : 1 ≤ k) (high : k ≤ S) where
    number : k ≡ suc (k - 1)
    number = omega arith

    inside : k - 1 < S
    inside = omega arith

    pub quiet_refused : (old : List ℤ) → ConflictIs w n S (record_at n (k - 1)) false
        → Listing lim w (explain_conflict k) old old (Err NoConflict)
    quiet_refused old is =
        listing_refused lim w (explain_conflict k) old NoConflict
        (conflict_quiet lim w k (length old) (k - 1) number inside (conflict_tested fit h (k - 1) inside k false number is))

    abbrev all : List ℤ
    all = negations w n S (record_at n (k - 1)) (length_of w)

    module _ (is : ConflictIs w n S (record_at n (k - 1)) true) (old : List ℤ) {found : ℕ} (counted : found ≡ length all) where
      pub clash_short : length old < found → Listing lim w (explain_conflict k) old old (Err (TooShort found))
      clash_short room =
          subst (λ m. Listing lim w (explain_conflict k) old old (Err (TooShort m))) (sym counted)
          (listing_refused lim w (explain_conflict k) old (TooShort (length all))
          (conflict_short lim w k (length old) (k - 1) number inside (conflict_tested fit h (k - 1) inside k true number is) (omega arith)))

      pub clash_listed : {new : List ℤ} → found ≤ length old → new ≡ overwritten old 0 all
          → Listing lim w (explain_conflict k) old new (Ok found)
      clash_listed {new} room e =
          let size : 0 + length all ≡ found = omega arith in
          listing_done lim w (explain_conflict k) old all new found
          (conflict_listed lim w k (length old) (k - 1) number inside (conflict_tested fit h (k - 1) inside k true number is) (omega arith)) counted
          (e ∙ ap {A = ℕ} (λ m. all ++ drop m old) size)
