-- One call after an area that stands for the book: its answer and its list are the book's, and what it leaves stands for the book after
-- it. Then a list of calls, by induction.
use mathlib.Core.Path.{◌≡◌, refl, sym, ap, ◌∙◌, subst}
use mathlib.Core.Bool.{Bool, true, false, not, true≢false}
use mathlib.Core.List.{List, [], ◌∷◌, ◌++◌}
use Prim.Native.Nat.{ℕ, ◌+◌, ◌-◌, ◌≤◌, max}
use native.Mathlib.Omega.{arith}
use lib.ListN.{length, drop, length-append}
use lib.Seq.{drop-append-le, drop-drop}
use Rattle.types.specs.declared.Limits.{Limits}
use Rattle.types.specs.declared.Counters as t
use Rattle.meaning.specs.Meaning.{Sentence}
use Rattle.meaning.specs.Merge.{Rule, rule_of}
use Rattle.book.specs.Rows.{up_to}
use Rattle.book.specs.Table.{Call, Answer, refused, State, Outcome, unchanged, reply}
use Rattle.book.specs.Book.{Judgement, computed, rules_of, Book, Asked, need, fits, book_state, outcome_of, theory_after, after, book_next, answers, book_after, most_needed}
use Rattle.book.proofs.Judged.{computed_right}
use Rattle.book.proofs.Sound.{up_to_all}
use Rattle.book.proofs.Keeps.{theory_stays, turn_well, turn_sound}
use Rattle.area.specs.Layout.{rows_of, need_of}
use Rattle.whole.proofs.Gives.{need_stays}
use Rattle.whole.proofs.Need.{cut_whole, grown_whole}
use Rattle.calls.specs.Calls.{counted, area_state, Moved}
use Rattle.history.specs.History.{Event, Called, Calls, none, next, asked_in, HandsBack, HandedBack}
use Rattle.history.proofs.Replies.{nine}
use Rattle.history.proofs.Ways.{asked_is, called_broken, called_whole}
use Rattle.history.proofs.Stands.{Stands, needed, whole_fits, fits_whole, state_is, stands_grown, stands_cut}

-- the sentences of the book after a call are merged into the rules after it
rules_after : (x : Call) (a : Answer) (ss : List Sentence) → theory_after rule_of x a (rules_of ss) ≡ rules_of (theory_after (λ s. s) x a ss)
rules_after x a ss = theory_stays rule_of x a (rules_of ss) ∙ ap {A = List Sentence} rules_of (sym (theory_stays (λ s. s) x a ss))

-- words behind a place stay behind a later one
later : (k m : ℕ) (v w : List ℕ) → k ≤ m → drop k v ≡ drop k w → drop m v ≡ drop m w
later k m v w l e =
    let q : k + (m - k) ≡ m = omega (arith, l) in
    subst (λ i. drop i v ≡ drop i w) q (sym (drop-drop (m - k) k v) ∙ ap {A = List ℕ} (drop (m - k)) e ∙ drop-drop (m - k) k w)

module _ (lim : Limits) where
  abbrev after_call : Book → Asked → Book
  after_call b a = book_next lim computed b a

  abbrev words : Book → ℕ
  words b = need b.atoms b.sentences

  pub record Stepped (b : Book) (w w' : List ℕ) (e : Event) (c' : t.Counters) : Type 0 where
    pub stands : Stands lim (after_call b e.asked) w' (counted c')
    pub size : length w' ≡ length w
    pub past_need : drop (max (words b) (words (after_call b e.asked))) w' ≡ drop (max (words b) (words (after_call b e.asked))) w
    pub told : HandsBack e (outcome_of lim computed b e.asked).answer

  module _ (b : Book) (part part' rest : List ℕ) (c d c' : t.Counters) (e : Event) (s : Stands lim b (part ++ rest) (counted c)) (p : Called lim part c d part' e c') where
    -- 9: the book is as it was
    step_broken : fits b (length part) (counted d) ≡ false → Stepped b (part ++ rest) (part' ++ rest) e c'
    step_broken fails =
        let k =
        called_broken (λ h. true≢false (sym (whole_fits lim b (part ++ rest) (counted c) s (length part) (counted d) (grown_whole lim part rest (counted d) h)
        (omega (arith, need_stays lim part (counted d) h rest, h.enough))) ∙ fails)) p in
        let same : part' ++ rest ≡ part ++ rest = ap {A = List ℕ} (λ v. v ++ rest) k.area in
        let o : outcome_of lim computed b e.asked ≡ unchanged (book_state lim computed b (length part) (counted d)) (refused 9 0) =
        ap {A = Asked} (outcome_of lim computed b) (asked_is p) ∙ nine (book_state lim computed b (length part) (counted d)) e.asked.call (ap {A = Bool} not fails) in
        let kept : after_call b e.asked ≡ b =
        ap {A = Outcome} (after b e.asked.call) o
        ∙ ap {A = List Sentence} (λ ss. record { atoms = b.atoms; sentences = ss; level = b.level; rows = b.rows }) (theory_stays (λ s. s) e.asked.call (refused 9 0) b.sentences) in
        record {
          stands = subst (λ y. Stands lim y (part' ++ rest) (counted c')) (sym kept)
              (subst (λ v. Stands lim b v (counted c')) (sym same) (subst (λ v. Stands lim b (part ++ rest) (counted v)) (sym k.counters) s));
          size = ap {A = List ℕ} length same;
          past_need = ap {A = List ℕ} (drop (max (words b) (words (after_call b e.asked)))) same;
          told = subst (λ (y : Outcome). HandsBack e y.answer) (sym o) k.told;
        }

    -- whole: the table looks at one state. A call on the first part of the words does with it what it would do with all of them
    step_whole : fits b (length part) (counted d) ≡ true → Stepped b (part ++ rest) (part' ++ rest) e c'
    step_whole f =
        let g = fits_whole lim b (part ++ rest) (counted c) s (length part) (counted d) f in
        let here = stands_cut lim b part rest (counted c) s g.1 in
        let r =
        called_whole lim part c d here.whole (cut_whole lim part rest (counted d) g.0 g.1)
        (subst (λ v. up_to v (rows_of part) ≡ rows_of part) (sym here.level) (subst (λ rs. up_to b.level rs ≡ rs) (sym here.rows)
        (up_to_all b.atoms b.sentences b.level b.level b.rows (omega arith) here.sound))) p in
        let o : reply (area_state lim part) e.asked.call ≡ outcome_of lim computed b e.asked =
        ap {A = State} (λ q. reply q e.asked.call) (state_is lim b part (counted c) here (length part) (counted d) f)
        ∙ ap {A = Asked} (outcome_of lim computed b) (sym (asked_is p)) in
        let m : Moved lim part part' (counted c') (outcome_of lim computed b e.asked) = subst (Moved lim part part' (counted c')) o r.moved in
        let left : Stands lim (after_call b e.asked) part' (counted c') = record {
          whole = m.whole;
          atoms = m.atoms ∙ here.atoms;
          theory = m.theory ∙ ap {A = List Rule} (theory_after rule_of e.asked.call (outcome_of lim computed b e.asked).answer) here.theory
              ∙ rules_after e.asked.call (outcome_of lim computed b e.asked).answer b.sentences;
          level = m.level;
          rows = m.rows;
          well = turn_well lim computed b e.asked s.well;
          sound = turn_sound lim computed computed_right b s.well s.sound e.asked;
        } in
        let u : need_of part ≡ words b = needed lim b part (counted c) here in
        let v : need_of part' ≡ words (after_call b e.asked) = needed lim (after_call b e.asked) part' (counted c') left in
        let k = max (need_of part) (need_of part') in
        let z : k ≡ max (words b) (words (after_call b e.asked)) = omega (arith, u, v) in
        record {
          stands = stands_grown lim (after_call b e.asked) part' rest (counted c') left;
          size = omega (arith, length-append part' rest, length-append part rest, m.size);
          past_need = subst (λ k. drop k (part' ++ rest) ≡ drop k (part ++ rest)) z
              (drop-append-le k part' rest (omega (arith, here.whole.enough, m.whole.enough, m.size)) ∙ ap {A = List ℕ} (λ v. v ++ rest) (later (need_of part) k part' part (omega arith) m.rest)
              ∙ sym (drop-append-le k part rest (omega (arith, here.whole.enough, m.whole.enough, m.size))));
          told = subst (λ (y : Outcome). HandsBack e y.answer) o r.told;
        }

    called : Stepped b (part ++ rest) (part' ++ rest) e c'
    called = go (fits b (length part) (counted d)) refl
      where
        go : (x : Bool) → fits b (length part) (counted d) ≡ x → Stepped b (part ++ rest) (part' ++ rest) e c'
        go true f = step_whole f
        go false f = step_broken f

  -- ---- a list of calls

  pub record Followed (b : Book) (w : List ℕ) (es : List Event) (w' : List ℕ) (c' : t.Counters) : Type 0 where
    pub stands : Stands lim (book_after lim computed b (asked_in es)) w' (counted c')
    pub size : length w' ≡ length w
    pub past_need : drop (most_needed lim computed b (asked_in es)) w' ≡ drop (most_needed lim computed b (asked_in es)) w
    pub handed : HandedBack es (answers lim computed b (asked_in es))

  pub played_atoms : (j : Judgement) (b : Book) (xs : List Asked) → (book_after lim j b xs).atoms ≡ b.atoms
  unfolding book_after
  played_atoms j b [] = refl
  played_atoms j b (x ∷ xs) = played_atoms j (book_next lim j b x) xs

  reach_low : (b : Book) (xs : List Asked) → words b ≤ most_needed lim computed b xs
  unfolding most_needed
  reach_low b [] = omega arith
  reach_low b (x ∷ xs) = omega arith

  pub followed : {w w' : List ℕ} {c c' : t.Counters} {es : List Event} (b : Book) → Calls lim w c es w' c' → Stands lim b w (counted c) → Followed b w es w' c'
  unfolding answers book_after most_needed
  followed b none s = record { stands = s; size = refl; past_need = refl; handed = tt }
  followed {w} {w'} b (next {w₁ = w₁} {c = c} {d = d} {c₁ = c₁} {e = e} {es = es} part part₁ rest i p j more) s =
      let cut = called b part part₁ rest c d c₁ e (subst (λ v. Stands lim b v (counted c)) i s) p in
      let x : Stepped b w w₁ e c₁ = subst (λ v. Stepped b v w₁ e c₁) (sym i) (subst (λ v. Stepped b (part ++ rest) v e c₁) (sym j) cut) in
      let y = followed (after_call b e.asked) more x.stands in
      let n = after_call b e.asked in
      let r = most_needed lim computed n (asked_in es) in
      let low = reach_low n (asked_in es) in
      record {
        stands = y.stands;
        size = y.size ∙ x.size;
        past_need = later r (max (words b) r) w' w₁ (omega arith) y.past_need ∙ later (max (words b) (words n)) (max (words b) r) w₁ w (omega (arith, low)) x.past_need;
        handed = (x.told, y.handed);
      }
