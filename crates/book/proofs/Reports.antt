-- What the book's reports mean: the lists that explain, explain_conflict and origin hand back, and the two bounds. A report that is not
-- refused has passed the table's tests, and these give what the theorems on rows ask for.
use mathlib.Core.Path.{◌≡◌, refl, sym, subst}
use mathlib.Core.Bool.{Bool, true, false, not}
use mathlib.Core.List.{List, map}
use Prim.Native.Nat.{ℕ, ◌≤◌}
use native.Mathlib.Omega.{arith}
use lib.ListN.{length}
use lib.IntN.{ℤ}
use lib.Dec.{T, leb, leb→le, T_not}
use borrow.Author.Tests.{eq-eqb}
use Rattle.numbers.specs.Extended.{Extended, up, down}
use Rattle.meaning.specs.Meaning.{Sentence, Consistent, Furthest, Conflicting, Said, silent, conflict, forced, Says, Each}
use Rattle.types.specs.declared.Limits.{Limits}
use Rattle.book.specs.Rows.{trail, row_of, numbered}
use Rattle.book.specs.Table.{Report, bounds, explain, explain_conflict, origin, a_report, Result, bounds_of, listed, reported, Judged, State, no_sentence_judged, result_of, no_sentence, stands, was_given, in_conflict, is_conflict, refusals, reply}
use Rattle.book.specs.Book.{WellFormed, Judgement, Judging, Book, Counters, book_state}
use Rattle.meaning.proofs.Orders.{T_true}
use Rattle.book.specs.Means.{IsNumber, Bounded, Explains, ExplainsConflict, OriginList}
use Rattle.book.proofs.Number.{numbered_exists, judges_numbered, judges_length}
use Rattle.book.proofs.Tests.{stands_told, both_told, Passed, reply_is}
use Rattle.book.proofs.Judged.{all_judging, all_blind}
use Rattle.book.proofs.Sound.{consistent}
use Rattle.book.specs.Sound.{JudgesAll, Blind, SoundBook}
use Rattle.book.proofs.Explained.{explained, conflict_explained}
use Rattle.book.proofs.Origins.{originates}

-- ---- the answer of a report

-- a result is handed back only where no refusal applies, and it is the report's
pub reported_is : (q : State) (x : Report) (room : ℕ) (r : Result) → (reply q (a_report x room)).answer ≡ reported r
    → Passed (refusals q (a_report x room)) × (result_of q x ≡ r)
reported_is q x room r =
    reply_is (λ o. o.answer ≡ reported r → Passed (refusals q (a_report x room)) × (result_of q x ≡ r)) q (a_report x room)
    (λ c n e. let z : ◌≡◌ {A = ℕ} 0 1 = cc in absurd (omega arith)) (λ p e. (p, (cc)))

-- ---- what the tests tell

affirmed : (b : Bool) → T (not (not b)) → T b
affirmed true h = tt
affirmed false h = h

conflict_told : (y : Said) → T (is_conflict y) → y ≡ conflict
conflict_told silent h = absurd h
conflict_told conflict h = refl
conflict_told (forced l) h = absurd h

module _ (lim : Limits) (j : Judgement) (right : Judging j) (b : Book) (well : Each (WellFormed b.atoms) b.sentences) (h : SoundBook b) (size : ℕ) (d : Counters) where
  abbrev q : State
  q = book_state lim j b size d

  abbrev js : List Judged
  js = map j b.sentences

  m : JudgesAll b.sentences js
  m = all_judging b.atoms j right b.sentences well

  blind : Each Blind b.sentences
  blind = all_blind b.atoms b.sentences well

  abbrev t : List ℤ
  t = trail b.rows

  c : Consistent t
  c = consistent b.atoms b.sentences b.level b.rows h

  sentence_at : (k : ℕ) → T (not (no_sentence q k)) → (s : Sentence) × IsNumber k b.sentences s
  sentence_at k p =
      let i = both_told (leb 1 k) (leb k (length js)) p in
      numbered_exists k b.sentences (leb→le 1 k i.0) (subst (λ n. k ≤ n) (sym (judges_length b.sentences js m)) (leb→le k (length js) i.1))

  -- bounds
  pub bounds_mean : (k room : ℕ) (v w : Extended) → (reply q (a_report (bounds k) room)).answer ≡ reported (bounds_of v w) → Bounded b.sentences t k v w
  bounds_mean k room v w e =
      let x = reported_is q (bounds k) room (bounds_of v w) e in
      let s = sentence_at k x.0.0 in
      let u = judges_numbered no_sentence_judged k b.sentences js s.0 m s.1 in
      record {
        sentence = s.0;
        number = s.1;
        least = subst (Furthest down s.0 t) (cc x.1) (u.least_is t c);
        greatest = subst (Furthest up s.0 t) (cc x.1) (u.greatest_is t c);
      }

  in_conflict_means : (k : ℕ) (s : Sentence) → IsNumber k b.sentences s → T (in_conflict q k) → Conflicting s t
  in_conflict_means k s num y =
      let u = judges_numbered no_sentence_judged k b.sentences js s m num in
      subst (Says s t (numbered no_sentence_judged k js).scope) (conflict_told ((numbered no_sentence_judged k js).says t) y) (u.said t c)

  -- explain
  pub explain_means : (l : ℤ) (room : ℕ) (ls : List ℤ) → (reply q (a_report (explain l) room)).answer ≡ reported (listed ls) → Explains b.sentences b.rows l ls
  explain_means l room ls e =
      let x = reported_is q (explain l) room (listed ls) e in
      subst (Explains b.sentences b.rows l) (cc x.1)
      (explained b.atoms b.sentences js blind m b.level b.rows h l (stands_told l t (affirmed (stands q l) x.0.1.0))
      (λ z. T_not (was_given q l) x.0.1.1.0 (T_true (eq-eqb (row_of l b.rows).mine.reason 0 z))))

  -- explain_conflict
  pub explain_conflict_means : (k room : ℕ) (ls : List ℤ) → (reply q (a_report (explain_conflict k) room)).answer ≡ reported (listed ls) → ExplainsConflict b.sentences b.rows k ls
  explain_conflict_means k room ls e =
      let x = reported_is q (explain_conflict k) room (listed ls) e in
      let s = sentence_at k x.0.0 in
      subst (ExplainsConflict b.sentences b.rows k) (cc x.1)
      (conflict_explained b.atoms b.sentences js blind m b.level b.rows h k s.0 s.1
      (in_conflict_means k s.0 s.1 (affirmed (in_conflict q k) x.0.1.0)))

  -- origin
  pub origin_means : (l : ℤ) (room : ℕ) (ls : List ℤ) → (reply q (a_report (origin l) room)).answer ≡ reported (listed ls) → OriginList b.sentences b.rows l ls
  origin_means l room ls e =
      let x = reported_is q (origin l) room (listed ls) e in
      subst (OriginList b.sentences b.rows l) (cc x.1)
      (originates b.atoms b.sentences js blind m b.level b.rows h l (stands_told l t (affirmed (stands q l) x.0.1.0)))
