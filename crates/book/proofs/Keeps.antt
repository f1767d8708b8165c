-- Each call keeps the rows of a book sound. A refused call and a report change nothing; what is given, taken back or derived keeps them,
-- and so does a search, whose literals are all of atoms and are given only where they are open.
use mathlib.Core.Path.{◌≡◌, refl, sym, ap, ◌∙◌, subst}
use mathlib.Core.Bool.{Bool, not, ◌&&◌}
use mathlib.Core.List.{List, [], ◌∷◌, map}
use Prim.Native.Nat.{ℕ, zero, suc, ◌+◌}
use native.Mathlib.Omega.{arith}
use lib.IntN.{ℤ}
use lib.Dec.{T, T_not, leb→le, leb}
use Rattle.meaning.specs.Meaning.{atom, Sentence, Each}
use Rattle.types.specs.declared.Limits.{Limits}
use Rattle.book.specs.Rows.{Row, a_row, trail, any}
use Rattle.book.specs.Table.{Judged, State, Outcome, Step, give, open_level, take_back, propagate, search, Call, a_step, a_report, Answer, Speech, nothing, conflicts, derives, first_to_speak, Stop, run, propagated, no_atom, on_trail, step_refusals, refusals, End, apart, put_on, turning, trying, searching, step_effect, effect, reply}
use Rattle.book.specs.Book.{WellFormed, Judgement, Judging, Book, need, Asked, fits, outcome_of, theory_after, book_next, book_after, most_needed}
use Rattle.book.proofs.Judged.{all_judging, all_scoped}
use Rattle.book.proofs.Speech.{derived_of}
use Rattle.book.specs.Sound.{JudgesAll, Within, Scoped, Sound, SoundBook}
use Rattle.book.proofs.Sound.{consistent, sound_higher, up_to_sound, give_sound, derive_sound}
use Rattle.book.proofs.Tests.{either, on_tells, both_told, none_first, none_rest, Passed, reply_is}

-- a step of propagate, by what is said
abbrev pub next : List Judged → (level steps : ℕ) → List Row → Speech → Stop
next js v steps rs y =
    elim y [ nothing ↦ record { sentence = 0; rows = rs } | conflicts k ↦ record { sentence = k; rows = rs } | derives k l ↦ run js v steps (a_row l v k ∷ rs) ]

run_sound : (n : ℕ) (ss : List Sentence) (js : List Judged) → Each (Scoped n) ss → JudgesAll ss js → (v steps : ℕ) (rs : List Row) → Sound n ss v rs → Sound n ss v (run js v steps rs).rows
unfolding run
run_sound n ss js w m v zero rs h = h
run_sound n ss js w m v (suc steps) rs h = go (first_to_speak 1 js (trail rs)) refl (λ k l g. run_sound n ss js w m v steps (a_row l v k ∷ rs) g)
  where
    go : (y : Speech) → first_to_speak 1 js (trail rs) ≡ y → ((k : ℕ) (l : ℤ) → Sound n ss v (a_row l v k ∷ rs) → Sound n ss v (run js v steps (a_row l v k ∷ rs)).rows)
        → Sound n ss v (next js v steps rs y).rows
    go nothing e ih = h
    go (conflicts k) e ih = h
    go (derives k l) e ih = ih k l (derive_sound n ss w v rs k l h (derived_of (trail rs) (consistent n ss v rs h) ss js m k l e))

-- ---- the search, at states that differ in level and rows only

pub atom_told : (n : ℕ) (l : ℤ) → T (not (not (leb 1 (atom l) && leb (atom l) n))) → Within n (atom l)
atom_told n l t = let i = both_told (leb 1 (atom l)) (leb (atom l) n) t in (leb→le 1 (atom l) i.0, leb→le (atom l) n i.1)

abbrev pub state_at : Bool → (atoms levels : ℕ) → List Judged → ℕ → List Row → State
state_at x n top js v rs = record { broken = x; atoms = n; levels = top; sentences = js; level = v; rows = rs }

-- a turn that goes on, or ends
pub apart_is : (P : End → Type 0) (k : ℕ) {e on : End} → P on → P e → P (apart k e on)
apart_is P zero f g = f
apart_is P (suc k) f g = g

module _ (x : Bool) (n top : ℕ) (ss : List Sentence) (js : List Judged) (w : Each (Scoped n) ss) (m : JudgesAll ss js) where
  abbrev here : ℕ → List Row → State
  here v rs = state_at x n top js v rs

  abbrev Ends : End → Type 0
  Ends e = Sound n ss e.level e.rows

  pub propagated_sound : (v : ℕ) (rs : List Row) → Sound n ss v rs → Sound n ss v (propagated (here v rs)).rows
  propagated_sound v rs h = run_sound n ss js w m v (suc n) rs h

  -- an open literal, tried
  pub tried_sound : (v : ℕ) (rs : List Row) (l : ℤ) → Within n (atom l) → T (not (on_trail (here v rs) (atom l))) → Sound n ss v rs
      → Sound n ss (suc v) (a_row l (suc v) 0 ∷ rs)
  tried_sound v rs l i o h =
      give_sound n ss (suc v) rs l i (λ y. T_not (on_trail (here v rs) (atom l)) o (on_tells (atom l) (trail rs) y))
      (sound_higher n ss v (suc v) rs (omega arith) h)

  turning_sound : (d g v : ℕ) (rs : List Row) (on : State → ℕ → End) → Sound n ss v rs
      → ((rs' : List Row) (e : ℕ) → Sound n ss v rs' → Ends (on (here v rs') e)) → Ends (turning (here v rs) d g on)
  turning_sound d g v rs on h f =
      apart_is Ends (propagated (here v rs)).sentence (f (propagated (here v rs)).rows (d + put_on (here v rs)) (propagated_sound v rs h)) (propagated_sound v rs h)

  trying_sound : (ls : List ℤ) (d g v : ℕ) (rs : List Row) → T (not (any (no_atom (here v rs)) ls)) → Sound n ss v rs → Ends (trying (here v rs) d g ls)
  unfolding trying
  trying_sound [] d g v rs t h = h
  trying_sound (l ∷ ls) d g v rs t h =
      let rest = none_rest (no_atom (here v rs)) l ls t in
      either Ends (on_trail (here v rs) (atom l)) (λ _. trying_sound ls d (suc g) v rs rest h)
      (λ o. either Ends (leb top v) (λ _. h)
      (λ _. turning_sound d (suc g) (suc v) (a_row l (suc v) 0 ∷ rs) (λ p e. trying p e (suc g) ls)
      (tried_sound v rs l (atom_told n l (none_first (no_atom (here v rs)) l ls t)) o h) (λ rs' e k. trying_sound ls e (suc g) (suc v) rs' rest k)))

  searching_sound : (ls : List ℤ) (v : ℕ) (rs : List Row) → T (not (any (no_atom (here v rs)) ls)) → Sound n ss v rs → Ends (searching (here v rs) ls)
  searching_sound ls v rs t h = turning_sound 0 0 v rs (λ p e. trying p e 0 ls) h (λ rs' e k. trying_sound ls e 0 v rs' t k)

  -- ---- each call

  module _ (v : ℕ) (rs : List Row) (h : Sound n ss v rs) where
    abbrev Good : Outcome → Type 0
    Good o = Sound n ss o.level o.rows

    step_sound : (y : Step) → Passed (step_refusals (here v rs) y) → Good (step_effect (here v rs) y)
    step_sound (give l) p =
        give_sound n ss v rs l (atom_told n l p.0) (λ o. T_not (on_trail (here v rs) (atom l)) p.1.0 (on_tells (atom l) (trail rs) o)) h
    step_sound open_level p = sound_higher n ss v (suc v) rs (omega arith) h
    step_sound (take_back k) p = up_to_sound n ss v k rs h
    step_sound propagate p = propagated_sound v rs h
    step_sound (search ls) p = searching_sound ls v rs p.0 h

    effect_sound : (y : Call) → Passed (refusals (here v rs) y) → Good (effect (here v rs) y)
    effect_sound (a_step y) p = step_sound y p
    effect_sound (a_report y room) p = h

    pub reply_sound : (y : Call) → Good (reply (here v rs) y)
    reply_sound y = reply_is Good (here v rs) y (λ c k. h) (effect_sound y)

-- ---- these calls leave the sentences as they are

module _ {A : Type 0} (stored : Sentence → A) where
  pub theory_stays : (x : Call) (a : Answer) (ts : List A) → theory_after stored x a ts ≡ ts
  theory_stays x a ts = refl

-- a book that was just loaded is sound, and so is every book that calls leave
module _ (lim : Limits) (j : Judgement) where
  sentences_same : (b : Book) (a : Asked) → (book_next lim j b a).sentences ≡ b.sentences
  sentences_same b a = theory_stays (λ s. s) a.call (outcome_of lim j b a).answer b.sentences

  pub turn_well : (b : Book) (a : Asked) → Each (WellFormed b.atoms) b.sentences → Each (WellFormed b.atoms) (book_next lim j b a).sentences
  turn_well b a w = subst (Each (WellFormed b.atoms)) (sym (sentences_same b a)) w

  pub turn_sound : Judging j → (b : Book) → Each (WellFormed b.atoms) b.sentences → SoundBook b → (a : Asked) → SoundBook (book_next lim j b a)
  turn_sound m b w h a =
      subst (λ ss. Sound b.atoms ss (outcome_of lim j b a).level (outcome_of lim j b a).rows) (sym (sentences_same b a))
      (reply_sound (not (fits b a.size a.counters)) b.atoms lim.levels b.sentences (map j b.sentences) (all_scoped b.atoms b.sentences w)
      (all_judging b.atoms j m b.sentences w) b.level b.rows h a.call)

  -- the book needs as many words as at first
  pub played_sentences : (b : Book) (xs : List Asked) → (book_after lim j b xs).sentences ≡ b.sentences
  unfolding book_after
  played_sentences b [] = refl
  played_sentences b (x ∷ xs) = played_sentences (book_next lim j b x) xs ∙ sentences_same b x

  pub reach_is : (b : Book) (xs : List Asked) → most_needed lim j b xs ≡ need b.atoms b.sentences
  unfolding most_needed
  reach_is b [] = refl
  reach_is b (x ∷ xs) = omega (arith, reach_is (book_next lim j b x) xs, ap {A = List Sentence} (need b.atoms) (sentences_same b x))
