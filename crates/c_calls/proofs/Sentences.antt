-- A conflict names one of the sentences, of propagate as of a search, so that it fits a word beside a code.
use mathlib.Core.Path.{◌≡◌, refl, ap, ◌∙◌, subst}
use mathlib.Core.Bool.{Bool, true, false, cond}
use mathlib.Core.List.{List, [], ◌∷◌}
use Prim.Native.Nat.{ℕ, zero, suc, ◌+◌, ◌<◌, ◌≤◌}
use native.Mathlib.Omega.{arith}
use lib.ListN.{length}
use lib.IntN.{ℤ}
use lib.Dec.{leb}
use Rattle.types.specs.declared.Limits.{Limits}
use Rattle.meaning.specs.Meaning.{atom, Said, silent, conflict, forced}
use Rattle.book.specs.Rows.{Row, a_row, trail}
use Rattle.book.specs.Table.{Step, give, open_level, take_back, propagate, search, Returned, returned_by, Judged, State, Speech, nothing, conflicts, derives, spoken, first_to_speak, run, propagated, on_trail, Outcome, ended, End, end_at, apart, put_on, propagating, following, turning, tried, trying, step_effect}
use Rattle.book.specs.Book.{Counters}
use Rattle.book.proofs.Keeps.{next, state_at}
use Rattle.area.specs.Whole.{Whole}
use Rattle.whole.proofs.Gives.{judged_count}
use Rattle.calls.specs.Calls.{area_state, Acts}
use Rattle.give.specs.Inner.Refused.{refusal_code}
use Rattle.give.proofs.Refused.{replied}

-- ---- propagate's

abbrev Below : ℕ → Speech → Type 0
Below top nothing = Unit {0}
Below top (conflicts k) = k < top
Below top (derives k l) = Unit {0}

speech_below : (k : ℕ) (js : List Judged) (t : List ℤ) → Below (k + length js) (first_to_speak k js t)
unfolding first_to_speak
speech_below k [] t = tt
speech_below k (j ∷ js) t = go (j.says t) (speech_below (suc k) js t)
  where
    go : (y : Said) → Below (suc k + length js) (first_to_speak (suc k) js t) → Below (k + suc (length js)) (spoken y k (first_to_speak (suc k) js t))
    go silent ih = let e : suc k + length js ≡ k + suc (length js) = omega arith in subst (λ n. Below n (first_to_speak (suc k) js t)) e ih
    go conflict ih = omega arith
    go (forced l) ih = tt

run_below : (js : List Judged) (v steps : ℕ) (rs : List Row) → (run js v steps rs).sentence ≤ length js
unfolding run
run_below js v zero rs = omega arith
run_below js v (suc steps) rs = go (first_to_speak 1 js (trail rs)) (speech_below 1 js (trail rs)) (λ k l. run_below js v steps (a_row l v k ∷ rs))
  where
    go : (y : Speech) → Below (1 + length js) y → ((k : ℕ) (l : ℤ) → (run js v steps (a_row l v k ∷ rs)).sentence ≤ length js)
        → (next js v steps rs y).sentence ≤ length js
    go nothing h ih = omega arith
    go (conflicts k) h ih = omega arith
    go (derives k l) h ih = ih k l

ended_sentence : (k n : ℕ) → (returned_by (ended k n)).sentence ≡ k
ended_sentence zero n = refl
ended_sentence (suc k) n = refl

-- ---- a search's is one of propagate's

module _ (x : Bool) (n top : ℕ) (js : List Judged) where
  abbrev here : ℕ → List Row → State
  here v rs = state_at x n top js v rs

  turning_below : (d g v : ℕ) (rs : List Row) (on : State → ℕ → End) → ((rs' : List Row) (e : ℕ) → (on (here v rs') e).sentence ≤ length js)
      → (turning (here v rs) d g on).sentence ≤ length js
  turning_below d g v rs on f = go (propagated (here v rs)).sentence
    where
      q : State
      q = here v rs

      go : (k : ℕ) → (apart k (end_at (propagated q).sentence (d + put_on q) g (following q (propagating q))) (on (following q (propagating q)) (d + put_on q))).sentence ≤ length js
      go zero = f (propagated q).rows (d + put_on q)
      go (suc k) = run_below js v (suc n) rs

  trying_below : (ls : List ℤ) (d g v : ℕ) (rs : List Row) → (trying (here v rs) d g ls).sentence ≤ length js
  unfolding trying
  trying_below [] d g v rs = omega arith
  trying_below (l ∷ ls) d g v rs =
      go (on_trail (here v rs) (atom l)) (leb top v) (trying_below ls d (suc g) v rs) (λ rs' e. trying_below ls e (suc g) (suc v) rs')
    where
      go : (on high : Bool) → (trying (here v rs) d (suc g) ls).sentence ≤ length js → ((rs' : List Row) (e : ℕ) → (trying (here (suc v) rs') e (suc g) ls).sentence ≤ length js)
          → (cond on (trying (here v rs) d (suc g) ls) (cond high (end_at 0 d g (here v rs)) (turning (tried (here v rs) l) d (suc g) (λ p e. trying p e
          (suc g) ls)))).sentence ≤ length js
      go true high past more = past
      go false true past more = omega arith
      go false false past more = turning_below d (suc g) (suc v) (a_row l (suc v) 0 ∷ rs) (λ p e. trying p e (suc g) ls) more

-- ---- of a step that is not refused

module _ (lim : Limits) (w : List ℕ) where
  abbrev q : State
  q = area_state lim w

  effect_sentence : (x : Step) → (returned_by (step_effect q x).answer).sentence ≤ length q.sentences
  effect_sentence (give l) = omega arith
  effect_sentence open_level = omega arith
  effect_sentence (take_back k) = omega arith
  effect_sentence propagate =
      omega (arith, ended_sentence (propagated q).sentence (put_on q), run_below q.sentences q.level (suc q.atoms) q.rows)
  effect_sentence (search ls) =
      turning_below false q.atoms q.levels q.sentences 0 0 q.level q.rows (λ p e. trying p e 0 ls)
      (λ rs e. trying_below false q.atoms q.levels q.sentences ls e 0 q.level rs)

pub sentence_small : {lim : Limits} {w w' : List ℕ} {c c' : Counters} {x : Step} {p : Returned} → Whole lim w c → refusal_code lim w x ≡ 0 → Acts lim w w' c c' x p
    → p.sentence < 4294967296
sentence_small {lim} {w} {x = x} h z a =
    let is = ap (λ (y : Returned). y.sentence) (a.answer.told h) ∙ ap (λ (o : Outcome). (returned_by o.answer).sentence) ((replied lim w x).passes z) in
    omega (arith, is, effect_sentence lim w x, judged_count w)
