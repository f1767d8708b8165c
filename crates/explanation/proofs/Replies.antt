-- The table's answers to the call, for a work area: the tests of the code are those of the table, and the list is the literal and the negated
-- causes that the code counts and writes.
use mathlib.Core.Path.{◌≡◌, sym, ◌∙◌, ap}
use mathlib.Core.Bool.{true, false}
use mathlib.Core.List.{List, [], ◌∷◌, map}
use Prim.Native.Nat.{ℕ, suc, ◌+◌, ◌<◌, ◌≤◌}
use native.Mathlib.Omega.{arith}
use lib.ListN.{length}
use lib.IntN.{ℤ, neg_ℤ}
use borrow.Author.Tests.{lt-ltb, le-ltb, eq-eqb, ne_eqb}
use Rattle.types.specs.declared.Limits.{Limits}
use Rattle.book.specs.Rows.{trail, causes, Standpoint, row_of, numbered, explanation}
use Rattle.book.specs.Table.{explain, refused, listed, Judged, scopes, no_atom, stands, was_given, reply, a_report, reported}
use Rattle.book.specs.Book.{judged_all}
use Rattle.area.specs.Layout.{atoms_of, sentences_of, length_of, row_at, rows_of, record_at, theory_of}
use Rattle.calls.specs.Calls.{area_state}
use Rattle.causes.specs.Inner.Causes.{before, Stands}
use Rattle.causes.proofs.Gives.{scope_numbered}
use Rattle.negations.specs.Inner.Negations.{negations}

module _ (lim : Limits) (w : List ℕ) where
  abbrev n : ℕ
  n = atoms_of w

  abbrev S : ℕ
  S = sentences_of w

  abbrev js : List Judged
  js = judged_all (theory_of w)

  module _ (l : ℤ) (room : ℕ) where
    pub explain_strange : no_atom (area_state lim w) l ≡ true → (reply (area_state lim w) (a_report (explain l) room)).answer ≡ refused 10 0
    unfolding reply
    explain_strange e = rw e

    module _ (an_atom : no_atom (area_state lim w) l ≡ false) where
      pub explain_absent : stands (area_state lim w) l ≡ false → (reply (area_state lim w) (a_report (explain l) room)).answer ≡ refused 12 0
      unfolding reply
      explain_absent e = rw (an_atom, e)

      module _ (p : ℕ) (at : Stands w n l (length_of w) p) where
        reason_is : (row_of l (rows_of w)).mine.reason ≡ (row_at w n p).reason
        reason_is = ap {A = Standpoint} (λ x. x.mine.reason) at.row_is

        pub explain_given : (row_at w n p).reason ≡ 0 → (reply (area_state lim w) (a_report (explain l) room)).answer ≡ refused 13 0
        unfolding reply
        explain_given e = rw (an_atom, at.found, eq-eqb (row_of l (rows_of w)).mine.reason 0 (reason_is ∙ e))

        module _ (s : ℕ) (derived : (row_at w n p).reason ≡ suc s) (few : s < S) where
          abbrev others : List ℤ
          others = negations w n S (record_at n s) p

          explanation_is : explanation (scopes js) (rows_of w) l ≡ l ∷ others
          explanation_is =
              ap {A = Standpoint} (λ x. l ∷ map neg_ℤ (causes (trail x.before) (numbered [] x.mine.reason (scopes js)))) at.row_is
              ∙ ap {A = ℕ} (λ k. l ∷ map neg_ℤ (causes (before w n p) (numbered [] k (scopes js)))) derived
              ∙ ap {A = List ℕ} (λ sc. l ∷ map neg_ℤ (causes (before w n p) sc)) (scope_numbered w s few)

          size : length (explanation (scopes js) (rows_of w) l) ≡ 1 + length others
          size = omega (arith, ap {A = List ℤ} length explanation_is)

          not_given : was_given (area_state lim w) l ≡ false
          not_given = ne_eqb (row_of l (rows_of w)).mine.reason 0 (λ z. let e : 0 ≡ suc s = sym z ∙ reason_is ∙ derived in let b : ⊥ = omega arith in b)

          pub explain_short : room < 1 + length others → (reply (area_state lim w) (a_report (explain l) room)).answer ≡ refused 18 (1 + length others)
          unfolding reply
          explain_short h =
              rw (an_atom, at.found, not_given, lt-ltb room (length (explanation (scopes js) (rows_of w) l)) (omega (arith, size)))
              (ap {A = ℕ} (λ m. refused 18 m) size)

          pub explain_listed : 1 + length others ≤ room → (reply (area_state lim w) (a_report (explain l) room)).answer ≡ reported (listed (l ∷ others))
          unfolding reply
          explain_listed h =
              rw (an_atom, at.found, not_given, le-ltb room (length (explanation (scopes js) (rows_of w) l)) (omega (arith, size)))
              (ap {A = List ℤ} (λ x. reported (listed x)) explanation_is)
