-- The table's answers to the call, for a work area: the tests of the code are those of the table, and the list is the negated causes that the
-- code counts and writes.
use mathlib.Core.Path.{◌≡◌, ◌∙◌, ap, ap₂}
use mathlib.Core.Bool.{Bool, true, false, not, ◌&&◌}
use mathlib.Core.Logic.{◌⊎◌, inl, inr}
use mathlib.Core.List.{List, [], map}
use Prim.Native.Nat.{ℕ, suc, ◌<◌, ◌≤◌}
use native.Mathlib.Omega.{arith}
use lib.ListN.{length}
use lib.IntN.{ℤ, neg_ℤ}
use lib.Dec.{leb}
use borrow.Author.Tests.{le-leb, lt-leb, lt-ltb, le-ltb}
use Rattle.types.specs.declared.Limits.{Limits}
use Rattle.book.specs.Rows.{trail, causes, numbered, conflict_explanation}
use Rattle.book.specs.Table.{explain_conflict, refused, listed, Judged, scopes, no_sentence, in_conflict, reply, a_report, reported}
use Rattle.book.specs.Book.{judged_all}
use Rattle.area.specs.Layout.{atoms_of, sentences_of, length_of, rows_of, record_at, theory_of}
use Rattle.whole.proofs.Gives.{judged_count}
use Rattle.calls.specs.Calls.{area_state}
use Rattle.causes.proofs.Gives.{scope_numbered}
use Rattle.negations.specs.Inner.Negations.{negations}

module _ (lim : Limits) (w : List ℕ) where
  abbrev n : ℕ
  n = atoms_of w

  abbrev S : ℕ
  S = sentences_of w

  abbrev js : List Judged
  js = judged_all (theory_of w)

  module _ (k room : ℕ) where
    no_number : no_sentence (area_state lim w) k ≡ true → (reply (area_state lim w) (a_report (explain_conflict k) room)).answer ≡ refused 16 0
    unfolding reply
    no_number e = rw e

    pub conflict_unnumbered : (s : ℕ) → s ≡ S → (k ≡ 0) ⊎ (¬ (k ≡ 0) × (s < k))
        → (reply (area_state lim w) (a_report (explain_conflict k) room)).answer ≡ refused 16 0
    conflict_unnumbered s e (inl z) = no_number (ap {A = Bool} (λ b. not (b && leb k (length js))) (lt-leb 1 k (omega arith)))
    conflict_unnumbered s e (inr (d, h)) =
        no_number (ap₂ {A = Bool} {B = Bool} (λ x y. not (x && y)) (le-leb 1 k (omega arith)) (lt-leb k (length js) (omega (arith, judged_count w))))

  module _ (k room s : ℕ) (number : k ≡ suc s) (few : s < S) where
    a_number : no_sentence (area_state lim w) k ≡ false
    a_number = ap₂ {A = Bool} {B = Bool} (λ x y. not (x && y)) (le-leb 1 k (omega arith)) (le-leb k (length js) (omega (arith, judged_count w)))

    pub conflict_quiet : in_conflict (area_state lim w) k ≡ false → (reply (area_state lim w) (a_report (explain_conflict k) room)).answer ≡ refused 17 0
    unfolding reply
    conflict_quiet e = rw (a_number, e)

    module _ (conflicting : in_conflict (area_state lim w) k ≡ true) where
      abbrev all : List ℤ
      all = negations w n S (record_at n s) (length_of w)

      all_is : conflict_explanation (scopes js) (rows_of w) k ≡ all
      all_is =
          ap {A = ℕ} (λ j. map neg_ℤ (causes (trail (rows_of w)) (numbered [] j (scopes js)))) number
          ∙ ap {A = List ℕ} (λ sc. map neg_ℤ (causes (trail (rows_of w)) sc)) (scope_numbered w s few)

      all_size : length (conflict_explanation (scopes js) (rows_of w) k) ≡ length all
      all_size = ap {A = List ℤ} length all_is

      pub conflict_short : room < length all → (reply (area_state lim w) (a_report (explain_conflict k) room)).answer ≡ refused 18 (length all)
      unfolding reply
      conflict_short h =
          rw (a_number, conflicting, lt-ltb room (length (conflict_explanation (scopes js) (rows_of w) k)) (omega (arith, all_size)))
          (ap {A = ℕ} (λ m. refused 18 m) all_size)

      pub conflict_listed : length all ≤ room → (reply (area_state lim w) (a_report (explain_conflict k) room)).answer ≡ reported (listed all)
      unfolding reply
      conflict_listed h =
          rw (a_number, conflicting, le-ltb room (length (conflict_explanation (scopes js) (rows_of w) k)) (omega (arith, all_size)))
          (ap {A = List ℤ} (λ x. reported (listed x)) all_is)
