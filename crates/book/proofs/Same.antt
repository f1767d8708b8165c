-- The answers are determined: any two lists of judgements that are right by full assignments give the same outcome to every call.
-- Where the trail is consistent, what a sentence says and its bounds are one thing, and the trail of a sound book is consistent.
use mathlib.Core.Path.{◌≡◌, refl, sym, ◌∙◌, ap, ap₂, subst}
use mathlib.Core.Bool.{Bool, not, cond, ◌&&◌}
use mathlib.Core.List.{List, [], ◌∷◌, ◌++◌, map}
use Prim.Native.Nat.{ℕ, zero, suc, ◌+◌, ◌-◌, max}
use lib.ListN.{length}
use lib.IntN.{ℤ}
use lib.Dec.{T, leb}
use Rattle.numbers.specs.Extended.{up, down}
use Rattle.meaning.specs.Meaning.{atom, Sentence, Consistent, Says, Each}
use Rattle.types.specs.declared.Limits.{Limits}
use Rattle.book.specs.Rows.{Row, a_row, trail, any, numbered, explanation, conflict_explanation, origins}
use Rattle.book.specs.Table.{Step, give, open_level, take_back, propagate, search, Report, bounds, explain, explain_conflict, origin, list_trail, Call, a_step, a_report, Result, bounds_of, listed, Answer, reported, list_of, Judged, State, scopes, no_sentence_judged, Speech, nothing, conflicts, derives, spoken, first_to_speak, Stop, run, propagated, result_of, Refusal, refuse_if, too_short, no_atom, on_trail, is_conflict, step_refusals, report_refusals, refusals, Outcome, unchanged, ended, End, end_at, apart, turning, trying, searching, search_ended, step_effect, effect, decided, reply}
use Rattle.book.specs.Book.{WellFormed, Judges, Judgement, Judging, Book, Asked, fits, outcome_of, after, book_next, answers, book_after, most_needed, need}
use Rattle.meaning.proofs.Says.{says_unique}
use Rattle.meaning.proofs.Extremes.{furthest_unique}
use Rattle.book.proofs.Judged.{all_judging, all_scoped}
use Rattle.book.proofs.Number.{judges_length}
use Rattle.book.proofs.Speech.{derived_of}
use Rattle.book.specs.Sound.{JudgesAll, none, more, Scoped, Sound, SoundBook}
use Rattle.book.proofs.Sound.{consistent, derive_sound}
use Rattle.book.proofs.Tests.{either₂, none_first, none_rest, Passed, decided_under}
use Rattle.book.proofs.Keeps.{next, atom_told, state_at, propagated_sound, tried_sound, turn_well, turn_sound}

-- ---- two judgements of a sentence

scope_same : (s : Sentence) (j j' : Judged) → Judges s j → Judges s j' → j.scope ≡ j'.scope
scope_same s j j' m m' = m.scope_is ∙ sym m'.scope_is

module _ (t : List ℤ) (c : Consistent t) where
  said_same : (s : Sentence) (j j' : Judged) → Judges s j → Judges s j' → j.says t ≡ j'.says t
  said_same s j j' m m' =
      says_unique s t j'.scope (j.says t) (j'.says t) (subst (λ x. Says s t x (j.says t)) (scope_same s j j' m m') (m.said t c)) (m'.said t c)

  least_same : (s : Sentence) (j j' : Judged) → Judges s j → Judges s j' → j.least t ≡ j'.least t
  least_same s j j' m m' = furthest_unique down s t (j.least t) (j'.least t) (m.least_is t c) (m'.least_is t c)

  greatest_same : (s : Sentence) (j j' : Judged) → Judges s j → Judges s j' → j.greatest t ≡ j'.greatest t
  greatest_same s j j' m m' = furthest_unique up s t (j.greatest t) (j'.greatest t) (m.greatest_is t c) (m'.greatest_is t c)

-- ---- two lists of judgements

-- what is one at every sentence is one at every number
numbered_same : {A : Type 0} (f : Judged → A) → ((s : Sentence) (j j' : Judged) → Judges s j → Judges s j' → f j ≡ f j')
    → (k : ℕ) (ss : List Sentence) (js js' : List Judged) → JudgesAll ss js → JudgesAll ss js' → f (numbered no_sentence_judged k js) ≡ f (numbered no_sentence_judged k js')
unfolding numbered
numbered_same f one k [] [] [] none none = refl
numbered_same f one zero (s ∷ ss) (j ∷ js) (j' ∷ js') (more p m) (more p' m') = refl
numbered_same f one (suc zero) (s ∷ ss) (j ∷ js) (j' ∷ js') (more p m) (more p' m') = one s j j' p p'
numbered_same f one (suc (suc k)) (s ∷ ss) (j ∷ js) (j' ∷ js') (more p m) (more p' m') = numbered_same f one (suc k) ss js js' m m'
numbered_same {A = A} f one k [] [] (j' ∷ js') _ x7 = elim x7 [ ]
numbered_same {A = A} f one k [] (j ∷ js) _ x5 _ = elim x5 [ ]
numbered_same {A = A} f one zero (s ∷ ss) [] _ x7 _ = elim x7 [ ]
numbered_same {A = A} f one zero (s ∷ ss) (j ∷ js) [] _ x11 = elim x11 [ ]
numbered_same {A = A} f one (suc zero) (s ∷ ss) [] _ x11 _ = elim x11 [ ]
numbered_same {A = A} f one (suc zero) (s ∷ ss) (j ∷ js) [] _ x15 = elim x15 [ ]
numbered_same {A = A} f one (suc (suc k)) (s ∷ ss) [] _ x12 _ = elim x12 [ ]
numbered_same {A = A} f one (suc (suc k)) (s ∷ ss) (j ∷ js) [] _ x16 = elim x16 [ ]

scopes_same : (ss : List Sentence) (js js' : List Judged) → JudgesAll ss js → JudgesAll ss js' → scopes js ≡ scopes js'
scopes_same [] [] [] none none = refl
scopes_same (s ∷ ss) (j ∷ js) (j' ∷ js') (more p m) (more p' m') = ap₂ ◌∷◌ (scope_same s j j' p p') (scopes_same ss js js' m m')
scopes_same [] [] (j' ∷ js') _ x7 = elim x7 [ ]
scopes_same [] (j ∷ js) _ x5 _ = elim x5 [ ]
scopes_same (s ∷ ss) [] _ x5 _ = elim x5 [ ]
scopes_same (s ∷ ss) (j ∷ js) [] _ x9 = elim x9 [ ]

speech_same : (t : List ℤ) → Consistent t → (k : ℕ) (ss : List Sentence) (js js' : List Judged) → JudgesAll ss js → JudgesAll ss js' → first_to_speak k js t ≡ first_to_speak k js' t
unfolding first_to_speak
speech_same t c k [] [] [] none none = refl
speech_same t c k (s ∷ ss) (j ∷ js) (j' ∷ js') (more p m) (more p' m') =
    ap₂ (λ y rest. spoken y k rest) (said_same t c s j j' p p') (speech_same t c (suc k) ss js js' m m')
speech_same t c k [] [] (j' ∷ js') _ x7 = elim x7 [ ]
speech_same t c k [] (j ∷ js) _ x5 _ = elim x5 [ ]
speech_same t c k (s ∷ ss) [] _ x5 _ = elim x5 [ ]
speech_same t c k (s ∷ ss) (j ∷ js) [] _ x9 = elim x9 [ ]

module _ (n : ℕ) (ss : List Sentence) (js js' : List Judged) (w : Each (Scoped n) ss) (m : JudgesAll ss js) (m' : JudgesAll ss js') where
  run_same : (v steps : ℕ) (rs : List Row) → Sound n ss v rs → run js v steps rs ≡ run js' v steps rs
  unfolding run
  run_same v zero rs h = refl
  run_same v (suc steps) rs h =
      go (first_to_speak 1 js (trail rs)) refl (λ k l g. run_same v steps (a_row l v k ∷ rs) g)
      ∙ ap (next js' v steps rs) (speech_same (trail rs) (consistent n ss v rs h) 1 ss js js' m m')
    where
      go : (y : Speech) → first_to_speak 1 js (trail rs) ≡ y → ((k : ℕ) (l : ℤ) → Sound n ss v (a_row l v k ∷ rs) → run js v steps (a_row l v k ∷ rs) ≡ run js' v steps (a_row l v k ∷ rs))
          → next js v steps rs y ≡ next js' v steps rs y
      go nothing e ih = refl
      go (conflicts k) e ih = refl
      go (derives k l) e ih = ih k l (derive_sound n ss w v rs k l h (derived_of (trail rs) (consistent n ss v rs h) ss js m k l e))

  -- ---- the search, turn by turn

  module _ (x : Bool) (top : ℕ) where
    abbrev here : List Judged → ℕ → List Row → State
    here j v rs = state_at x n top j v rs

    turning_same : (d g v : ℕ) (rs : List Row) (on : State → ℕ → End) → Sound n ss v rs
        → ((rs' : List Row) (e : ℕ) → Sound n ss v rs' → on (here js v rs') e ≡ on (here js' v rs') e)
        → turning (here js v rs) d g on ≡ turning (here js' v rs) d g on
    turning_same d g v rs on h f =
        ap (λ (z : Stop). by z.sentence (on (here js v z.rows) (d + (length z.rows - length rs))) z) (run_same v (suc n) rs h)
        ∙ go stop.sentence
      where
        stop : Stop
        stop = propagated (here js' v rs)

        by : ℕ → End → Stop → End
        by k e z = apart k (end_at z.sentence (d + (length z.rows - length rs)) g (here js v z.rows)) e

        go : (k : ℕ) → by k (on (here js v stop.rows) (d + (length stop.rows - length rs))) stop
            ≡ by k (on (here js' v stop.rows) (d + (length stop.rows - length rs))) stop
        go zero = f stop.rows (d + (length stop.rows - length rs)) (propagated_sound x n top ss js' w m' v rs h)
        go (suc k) = refl

    trying_same : (ls : List ℤ) (d g v : ℕ) (rs : List Row) → T (not (any (no_atom (here js v rs)) ls)) → Sound n ss v rs
        → trying (here js v rs) d g ls ≡ trying (here js' v rs) d g ls
    unfolding trying
    trying_same [] d g v rs t h = refl
    trying_same (l ∷ ls) d g v rs t h =
        let rest = none_rest (no_atom (here js v rs)) l ls t in
        either₂ ◌≡◌ (on_trail (here js v rs) (atom l)) (λ _. trying_same ls d (suc g) v rs rest h)
        (λ o. either₂ ◌≡◌ (leb top v) (λ _. refl)
        (λ _. turning_same d (suc g) (suc v) (a_row l (suc v) 0 ∷ rs) (λ p e. trying p e (suc g) ls)
        (tried_sound x n top ss js w m v rs l (atom_told n l (none_first (no_atom (here js v rs)) l ls t)) o h)
        (λ rs' e k. trying_same ls e (suc g) (suc v) rs' rest k)))

    searching_same : (ls : List ℤ) (v : ℕ) (rs : List Row) → T (not (any (no_atom (here js v rs)) ls)) → Sound n ss v rs
        → searching (here js v rs) ls ≡ searching (here js' v rs) ls
    searching_same ls v rs t h = turning_same 0 0 v rs (λ p e. trying p e 0 ls) h (λ rs' e k. trying_same ls e 0 v rs' t k)

    -- ---- one call

    module _ (v : ℕ) (rs : List Row) (h : Sound n ss v rs) where
      abbrev q : State
      q = here js v rs

      abbrev q' : State
      q' = here js' v rs

      abbrev t : List ℤ
      t = trail rs

      c : Consistent t
      c = consistent n ss v rs h

      result_same : (y : Report) → result_of q y ≡ result_of q' y
      result_same (bounds k) =
          ap₂ {C = Result} bounds_of (numbered_same (λ j. j.least t) (least_same t c) k ss js js' m m')
          (numbered_same (λ j. j.greatest t) (greatest_same t c) k ss js js' m m')
      result_same (explain l) = ap {B = Result} (λ sc. listed (explanation sc rs l)) (scopes_same ss js js' m m')
      result_same (explain_conflict k) = ap {B = Result} (λ sc. listed (conflict_explanation sc rs k)) (scopes_same ss js js' m m')
      result_same (origin l) = ap {B = Result} (λ sc. listed (origins sc rs l)) (scopes_same ss js js' m m')
      result_same list_trail = refl

      length_same : length js ≡ length js'
      length_same = sym (judges_length ss js m) ∙ judges_length ss js' m'

      abbrev unnumbered : ℕ → ℕ → Refusal
      unnumbered k n = refuse_if 16 (not (leb 1 k && leb k n))

      own_same : (y : Report) → report_refusals q y ≡ report_refusals q' y
      own_same (bounds k) = ap (λ n. unnumbered k n ∷ []) length_same
      own_same (explain l) = refl
      own_same (explain_conflict k) =
          ap₂ (λ n y. unnumbered k n ∷ refuse_if 17 (not (is_conflict y)) ∷ [])
          length_same (numbered_same (λ j. j.says t) (said_same t c) k ss js js' m m')
      own_same (origin l) = refl
      own_same list_trail = refl

      steps_same : (y : Step) → step_refusals q y ≡ step_refusals q' y
      steps_same (give l) = refl
      steps_same open_level = refl
      steps_same (take_back k) = refl
      steps_same propagate = refl
      steps_same (search ls) = refl

      refusals_same : (y : Call) → refusals q y ≡ refusals q' y
      refusals_same (a_step y) = steps_same y
      refusals_same (a_report y room) = ap₂ (λ rs r. rs ++ (too_short room (list_of r) ∷ [])) (own_same y) (result_same y)

      step_same : (y : Step) → Passed (step_refusals q y) → step_effect q y ≡ step_effect q' y
      step_same (give l) p = refl
      step_same open_level p = refl
      step_same (take_back k) p = refl
      step_same propagate p =
          ap {B = Outcome} (λ (z : Stop). record { answer = ended z.sentence (length z.rows - length rs); level = v; rows = z.rows })
          (run_same v (suc n) rs h)
      step_same (search ls) p =
          ap search_ended (searching_same ls v rs p.0 h)

      effect_same : (y : Call) → Passed (refusals q y) → effect q y ≡ effect q' y
      effect_same (a_step y) p = step_same y p
      effect_same (a_report y room) p = ap (λ r. unchanged q (reported r)) (result_same y)

      decided_same : (rs : List Refusal) (o : Outcome) → decided q rs o ≡ decided q' rs o
      decided_same [] o = refl
      decided_same (r ∷ rs) o = ap (cond r.applies (unchanged q (Answer.refused r.code r.value))) (decided_same rs o)

      pub reply_same : (y : Call) → reply q y ≡ reply q' y
      unfolding reply
      reply_same y =
          decided_under q (refuse_if 9 x ∷ refusals q y) (effect q y) (effect q' y) (λ p. effect_same y p.1)
          ∙ ap (λ rs. decided q (refuse_if 9 x ∷ rs) (effect q' y)) (refusals_same y)
          ∙ decided_same (refuse_if 9 x ∷ refusals q' y) (effect q' y)

-- ---- a list of calls

module _ (lim : Limits) (j j' : Judgement) (m : Judging j) (m' : Judging j') where
  pub turn_same : (b : Book) → Each (WellFormed b.atoms) b.sentences → SoundBook b → (a : Asked) → outcome_of lim j b a ≡ outcome_of lim j' b a
  turn_same b w h a =
      reply_same b.atoms b.sentences (map j b.sentences) (map j' b.sentences) (all_scoped b.atoms b.sentences w)
      (all_judging b.atoms j m b.sentences w) (all_judging b.atoms j' m' b.sentences w) (not (fits b a.size a.counters)) lim.levels
      b.level b.rows h a.call

  pub answers_same : (b : Book) → Each (WellFormed b.atoms) b.sentences → SoundBook b → (xs : List Asked) → answers lim j b xs ≡ answers lim j' b xs
  unfolding answers
  answers_same b w h [] = refl
  answers_same b w h (x ∷ xs) =
      ap (λ (o : Outcome). o.answer ∷ answers lim j (after b x.call o) xs) (turn_same b w h x)
      ∙ ap (λ ys. (outcome_of lim j' b x).answer ∷ ys) (answers_same (book_next lim j' b x) (turn_well lim j' b x w) (turn_sound lim j' m' b w h x) xs)

  pub played_same : (b : Book) → Each (WellFormed b.atoms) b.sentences → SoundBook b → (xs : List Asked) → book_after lim j b xs ≡ book_after lim j' b xs
  unfolding book_after
  played_same b w h [] = refl
  played_same b w h (x ∷ xs) =
      ap (λ (o : Outcome). book_after lim j (after b x.call o) xs) (turn_same b w h x)
      ∙ played_same (book_next lim j' b x) (turn_well lim j' b x w) (turn_sound lim j' m' b w h x) xs

  pub reach_same : (b : Book) → Each (WellFormed b.atoms) b.sentences → SoundBook b → (xs : List Asked) → most_needed lim j b xs ≡ most_needed lim j' b xs
  unfolding most_needed
  reach_same b w h [] = refl
  reach_same b w h (x ∷ xs) =
      ap (λ (o : Outcome). max (need b.atoms b.sentences) (most_needed lim j (after b x.call o) xs)) (turn_same b w h x)
      ∙ ap (max (need b.atoms b.sentences)) (reach_same (book_next lim j' b x) (turn_well lim j' b x w) (turn_sound lim j' m' b w h x) xs)
