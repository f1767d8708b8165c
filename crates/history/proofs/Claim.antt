-- The claim about every list of calls after an accepted load. The area follows the book step by step; at the end its words give the
-- bounds, and a report on it is a report of the book, whose meaning is known. Whoever judges by full assignments, the book's answers are
-- the same.
use mathlib.Core.Path.{◌≡◌, refl, sym, ap, ap₂, ◌∙◌, subst}
use mathlib.Core.Bool.{Bool, true, false, cond}
use mathlib.Core.List.{List, [], ◌∷◌}
use Prim.Native.Nat.{ℕ, suc, ◌-◌, ◌<◌}
use native.Mathlib.Omega.{arith}
use lib.ListN.{length, take, drop}
use lib.IntN.{ℤ}
use Rattle.std.specs.Prelude.{Result, Ok, Err}
use Rattle.types.specs.declared.Limits.{Limits}
use Rattle.types.specs.Limits.{Fitting}
use Rattle.types.specs.declared.Counters as t
use Rattle.numbers.specs.Words.{unword}
use Rattle.meaning.specs.Meaning.{Sentence, Each}
use Rattle.book.specs.Rows.{Row, trail}
use Rattle.book.specs.Table.{Report, explain, explain_conflict, origin, a_report, Answer, refused, reported, list_of, returned_by, list_after, State, Refusal, refuse_if, refusals, result_of, Outcome, unchanged, effect, decided, reply}
use Rattle.book.specs.Book.{Counters, WellFormed, Judgement, Judging, computed, rules_of, Book, fresh, need, book_state, book_after}
use Rattle.book.specs.Means.{Bounded, Explains, ExplainsConflict, OriginList}
use Rattle.book.proofs.Judged.{computed_right}
use Rattle.book.proofs.Reports.{explain_means, explain_conflict_means, origin_means}
use Rattle.book.proofs.Keeps.{played_sentences, reach_is}
use Rattle.book.proofs.Same.{answers_same, played_same, reach_same}
use Rattle.area.specs.Layout.{atoms_of, rows_of, theory_of, record_at, least_at, greatest_at}
use Rattle.calls.specs.declared.Refusal as calls
use Rattle.calls.specs.declared.Refusal.TheVariants.{NotWhole, NoAtom, NotOnTrail, TooShort}
use Rattle.calls.specs.Calls.{counted, refused_returned, listed_returned, area_state, Reports}
use Rattle.calls.proofs.Acting.{answered_whole}
use Rattle.calls.proofs.Effects.{reported_here, taken}
use Rattle.give.proofs.Moves.{rows_count}
use Rattle.reports.proofs.Replies.{bounds_stored}
use Rattle.reports.proofs.Meaning.{bounds_mean}
use Rattle.columns.specs.Columns.{all_written, sentences_in}
use Rattle.columns.specs.declared.Answer as load
use Rattle.dalelead.specs.Public.{ListsExplanation, ListsConflict, ListsOrigin}
use Rattle.history.specs.History.{Event, asked_in, HandedBack, Claim, History}
use Rattle.history.proofs.Sentences.{loaded_well_formed, sentences_are}
use Rattle.history.proofs.Stands.{Stands, whole_fits, state_is}
use Rattle.history.proofs.Steps.{played_atoms, Followed, followed}

-- ---- reports on an area that stands for the book

-- every answer of the table to an origin report is one that the code can hand back
abbrev Handed : Answer → Type 0
Handed a = (r : Result ℕ calls.Refusal) × (listed_returned r ≡ returned_by a)

abbrev Refused : Refusal → Type 0
Refused x = (e : calls.Refusal) × (refused_returned e ≡ returned_by (refused x.code x.value))

decided_handed : (q : State) (xs : List Refusal) (o : Outcome) → Each Refused xs → Handed o.answer → Handed (decided q xs o).answer
decided_handed q [] o h p = p
decided_handed q (x ∷ xs) o h p = go x.applies (decided_handed q xs o h.1 p)
  where
    go : (b : Bool) → Handed (decided q xs o).answer → Handed (cond b (unchanged q (refused x.code x.value)) (decided q xs o)).answer
    go true later = (Err h.0.0, h.0.1)
    go false later = later

origin_handed : (q : State) (l : ℤ) (room : ℕ) → Handed (reply q (a_report (origin l) room)).answer
unfolding reply
origin_handed q l room =
    let x = a_report (origin l) room in
    let n = length (list_of (result_of q (origin l))) in
    decided_handed q (refuse_if 9 q.broken ∷ refusals q x) (effect q x) ((NotWhole, refl), ((NoAtom, refl), ((NotOnTrail, refl), ((TooShort n, refl), tt)))) (Ok n, refl)

module _ (lim : Limits) (fit : Fitting lim) (b : Book) (w : List ℕ) (c : t.Counters) (s : Stands lim b w (counted c)) where
  abbrev q : State
  q = area_state lim w

  abbrev live : List Sentence
  live = b.sentences

  abbrev book_q : State
  book_q = book_state lim computed b (length w) (counted c)

  book_state_is : q ≡ book_q
  book_state_is = state_is lim b w (counted c) s (length w) (counted c) (whole_fits lim b w (counted c) s (length w) (counted c) s.whole s.whole.enough)

  bounds_right : (k : ℕ) → k < length live → Bounded live (trail (rows_of w)) (suc k) (unword (least_at w (record_at b.atoms k))) (unword (greatest_at w (record_at b.atoms k)))
  bounds_right k l =
      let at = record_at (atoms_of w) (suc k - 1) in
      let e : suc k - 1 ≡ k = omega arith in
      let x = bounds_stored lim w (counted c) fit s.whole (suc k) (omega arith) (omega (arith, sentences_are w b s.atoms s.theory)) in
      subst (λ i. Bounded live (trail (rows_of w)) (suc k) (unword (least_at w i)) (unword (greatest_at w i))) (ap₂ {A = ℕ} {B = ℕ} record_at s.atoms e)
      (bounds_mean lim w (counted c) s.whole b.atoms live s.well s.theory (suc k) (unword (least_at w at)) (unword (greatest_at w at)) x)

  -- a list that is handed back is of the book's result, and stands in front: what holds of the book's result holds of it
  module _ (x : Report) (old new : List ℤ) (count : ℕ) (a : Reports lim w (counted c) x old new (listed_returned (Ok count))) where
    told : (P : List Row → List ℤ → Type 0) → ((reply book_q (a_report x (length old))).answer ≡ reported (result_of book_q x) → P b.rows (list_of (result_of book_q x)))
        → P (rows_of w) (take count new)
    told P means =
        let e = book_state_is in
        subst (λ rs. P rs (take count new)) (sym s.rows)
        (subst (P b.rows) (sym (taken lim w (counted c) s.whole x old new (listed_returned (Ok count)) a refl ∙ ap {A = State} (λ y. list_of (result_of y x)) e))
        (means (ap {A = State} (λ y. (reply y (a_report x (length old))).answer) (sym e) ∙ reported_here lim w (counted c) s.whole x old new (listed_returned (Ok count)) a refl
        ∙ ap {A = State} (λ y. reported (result_of y x)) e)))

  explained_right : (l : ℤ) (old new : List ℤ) (count : ℕ) → ListsExplanation lim w c l old new (Ok count) → Explains live (rows_of w) l (take count new)
  explained_right l old new count a =
      told (explain l) old new count a (λ rs. Explains live rs l)
      (explain_means lim computed computed_right b s.well s.sound (length w) (counted c) l (length old) (list_of (result_of book_q (explain l))))

  conflict_right : (k : ℕ) (old new : List ℤ) (count : ℕ) → ListsConflict lim w c k old new (Ok count) → ExplainsConflict live (rows_of w) k (take count new)
  conflict_right k old new count a =
      told (explain_conflict k) old new count a (λ rs. ExplainsConflict live rs k)
      (explain_conflict_means lim computed computed_right b s.well s.sound (length w) (counted c) k (length old) (list_of (result_of book_q (explain_conflict k))))

  origin_right : (l : ℤ) (old new : List ℤ) (count : ℕ) → ListsOrigin lim w c l old new (Ok count) → OriginList live (rows_of w) l (take count new)
  origin_right l old new count a =
      told (origin l) old new count a (λ rs. OriginList live rs l)
      (origin_means lim computed computed_right b s.well s.sound (length w) (counted c) l (length old) (list_of (result_of book_q (origin l))))

  origin_has_answer : (l : ℤ) (old : List ℤ) → (new : List ℤ) × (r : Result ℕ calls.Refusal) × ListsOrigin lim w c l old new r
  origin_has_answer l old =
      let x = a_report (origin l) (length old) in
      let r = origin_handed q l (length old) in (
        list_after (reply q x).answer old,
        r.0,
        record { answer = answered_whole lim w (counted c) x (listed_returned r.0) s.whole r.1; broken = λ b. absurd (b s.whole); written = λ _. refl },
      )

-- ---- the claim

-- the book after the calls
abbrev book_then : Limits → Judgement → ℕ → List Sentence → List Event → Book
book_then lim j n ss es = book_after lim j (fresh n ss) (asked_in es)

pub history : (lim : Limits) → Fitting lim → History lim
history lim fit w₀ w n columns r loads code es w' c calls = record {
  answers_are = λ j m. subst (HandedBack es) (answers_same lim computed j computed_right m first well tt (asked_in es)) f.handed;
  judged = computed_right;
  whole = f.stands.whole;
  atoms = (at computed computed_right).atoms ∙ played_atoms lim computed first (asked_in es);
  theory = λ j m. (at j m).theory;
  size = f.size;
  past_need = λ j m. subst (λ k. drop k w' ≡ drop k w) (reach_same lim computed j computed_right m first well tt (asked_in es)) f.past_need;
  rows = λ j m. (at j m).rows;
  level = λ j m. (at j m).level;
  counters =
      ap₂ {A = ℕ} {B = ℕ} {C = Counters} (λ k v. record { length_is = k; level_is = v })
      (sym (rows_count lim w' (counted c) f.stands.whole)) (sym f.stands.whole.level_is);
  bounds_are = live (λ xs. (s : ℕ) → s < length xs → Bounded xs (trail (rows_of w')) (suc s) (unword (least_at w' (record_at n s))) (unword (greatest_at w' (record_at n s))))
      (subst (λ a. (s : ℕ) → s < length last.sentences
      → Bounded last.sentences (trail (rows_of w')) (suc s) (unword (least_at w' (record_at a s))) (unword (greatest_at w' (record_at a s))))
      (played_atoms lim computed first (asked_in es)) (bounds_right lim fit last w' c f.stands));
  explained = λ l old new count a. live (λ xs. Explains xs (rows_of w') l (take count new)) (explained_right lim fit last w' c f.stands l old new count a);
  conflict_explained = λ k old new count a.
      live (λ xs. ExplainsConflict xs (rows_of w') k (take count new)) (conflict_right lim fit last w' c f.stands k old new count a);
  origin_answered = origin_has_answer lim fit last w' c f.stands;
  originated = λ l old new count a. live (λ xs. OriginList xs (rows_of w') l (take count new)) (origin_right lim fit last w' c f.stands l old new count a);
}
  where
    ss : List Sentence
    ss = sentences_in (all_written columns)

    first : Book
    first = fresh n ss

    well : Each (WellFormed n) ss
    well = loaded_well_formed lim (length w₀) n columns (ap {A = load.Answer} (λ a. a.code) (sym loads.answer_is) ∙ code)

    f : Followed lim first w es w' c
    f =
        let l = loads.accepted code in
        followed lim first calls (record { whole = l.whole; atoms = l.atoms; theory = l.theory; level = l.level; rows = l.rows; well = well; sound = tt })

    last : Book
    last = book_then lim computed n ss es

    -- what holds of the sentences that the book then holds is of the load's
    live : (P : List Sentence → Type 0) → P last.sentences → P ss
    live P = subst P (played_sentences lim computed first (asked_in es))

    at : (j : Judgement) → Judging j → Stands lim (book_then lim j n ss es) w' (counted c)
    at j m = subst (λ b. Stands lim b w' (counted c)) (played_same lim computed j computed_right m first well tt (asked_in es)) f.stands

-- ---- no call of document 01 changes the sentences: those that the book then holds are the load's

module _ {lim : Limits} {n : ℕ} {ss : List Sentence} {loaded : List ℕ} {es : List Event} {w : List ℕ} {c : t.Counters} (h : Claim lim n ss loaded es w c) where
  pub theory_is : theory_of w ≡ rules_of ss
  theory_is = subst (λ xs. theory_of w ≡ rules_of xs) (played_sentences lim computed (fresh n ss) (asked_in es)) (h.theory computed h.judged)

  pub past_need_is : drop (need n ss) w ≡ drop (need n ss) loaded
  past_need_is = subst (λ k. drop k w ≡ drop k loaded) (reach_is lim computed (fresh n ss) (asked_in es)) (h.past_need computed h.judged)

  -- what the claim says of the load's sentences, field by field
  pub bounds_of_load : (s : ℕ) → s < length ss → Bounded ss (trail (rows_of w)) (suc s) (unword (least_at w (record_at n s))) (unword (greatest_at w (record_at n s)))
  bounds_of_load = h.bounds_are

  pub explained_of_load : (l : ℤ) (old new : List ℤ) (count : ℕ) → ListsExplanation lim w c l old new (Ok count) → Explains ss (rows_of w) l (take count new)
  explained_of_load = h.explained

  pub conflict_of_load : (k : ℕ) (old new : List ℤ) (count : ℕ) → ListsConflict lim w c k old new (Ok count) → ExplainsConflict ss (rows_of w) k (take count new)
  conflict_of_load = h.conflict_explained

  pub origins_of_load : (l : ℤ) (old new : List ℤ) (count : ℕ) → ListsOrigin lim w c l old new (Ok count) → OriginList ss (rows_of w) l (take count new)
  origins_of_load = h.originated

  -- and of those that the book then holds, whoever judges
  of_book : (j : Judgement) (P : List Sentence → Type 0) → P ss → P (book_after lim j (fresh n ss) (asked_in es)).sentences
  of_book j P = subst P (sym (played_sentences lim j (fresh n ss) (asked_in es)))

  pub bounds_of_book : (j : Judgement) → Judging j → (s : ℕ) → s < length (book_after lim j (fresh n ss) (asked_in es)).sentences
      → Bounded (book_after lim j (fresh n ss) (asked_in es)).sentences (trail (rows_of w)) (suc s) (unword (least_at w (record_at n s))) (unword (greatest_at w (record_at n s)))
  bounds_of_book j m =
      of_book j (λ xs. (s : ℕ) → s < length xs → Bounded xs (trail (rows_of w)) (suc s) (unword (least_at w (record_at n s))) (unword (greatest_at w (record_at n s)))) h.bounds_are

  pub explained_of_book : (j : Judgement) → Judging j → (l : ℤ) (old new : List ℤ) (count : ℕ) → ListsExplanation lim w c l old new (Ok count)
      → Explains (book_after lim j (fresh n ss) (asked_in es)).sentences (rows_of w) l (take count new)
  explained_of_book j m l old new count a = of_book j (λ xs. Explains xs (rows_of w) l (take count new)) (h.explained l old new count a)

  pub conflict_of_book : (j : Judgement) → Judging j → (k : ℕ) (old new : List ℤ) (count : ℕ) → ListsConflict lim w c k old new (Ok count)
      → ExplainsConflict (book_after lim j (fresh n ss) (asked_in es)).sentences (rows_of w) k (take count new)
  conflict_of_book j m k old new count a = of_book j (λ xs. ExplainsConflict xs (rows_of w) k (take count new)) (h.conflict_explained k old new count a)

  pub origins_of_book : (j : Judgement) → Judging j → (l : ℤ) (old new : List ℤ) (count : ℕ) → ListsOrigin lim w c l old new (Ok count)
      → OriginList (book_after lim j (fresh n ss) (asked_in es)).sentences (rows_of w) l (take count new)
  origins_of_book j m l old new count a = of_book j (λ xs. OriginList xs (rows_of w) l (take count new)) (h.originated l old new count a)
