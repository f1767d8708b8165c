-- Propagate settles: one step more than there are atoms always suffices, since every step but the last puts on an atom. So it ends at
-- still, where every sentence is silent, or at a conflict; and what it puts on is forced by the lowest-numbered sentence that speaks.
use mathlib.Core.Path.{◌≡◌, refl, ◌∙◌, ap}
use mathlib.Core.Logic.{◌⊎◌, inl, inr}
use mathlib.Core.List.{List, [], ◌∷◌, ◌++◌}
use Prim.Native.Nat.{ℕ, zero, suc, ◌+◌, ◌-◌, ◌≤◌, ◌<◌}
use native.Mathlib.Omega.{arith}
use lib.ListN.{length, length-append}
use lib.IntN.{ℤ}
use Rattle.meaning.specs.Meaning.{Sentence, Each}
use Rattle.book.specs.Rows.{Row, a_row, trail}
use Rattle.book.specs.Table.{Judged, Speech, nothing, conflicts, derives, first_to_speak, Stop, run}
use Rattle.book.specs.Means.{SaysNothing, ForcesFirst, Speaker, FirstConflict, DerivedRows, Additions}
use Rattle.book.proofs.Number.{numbered_positive}
use Rattle.book.proofs.Speech.{silent_of, conflict_of, derived_of}
use Rattle.book.specs.Sound.{JudgesAll, Scoped, Sound, Runs, rests, stopped, puts}
use Rattle.book.proofs.Sound.{consistent, derive_sound}
use Rattle.book.proofs.Few.{few_rows}
use Rattle.book.proofs.Keeps.{next}

-- lists of judgements that say the same run alike
pub run_alike : (js js' : List Judged) → ((t : List ℤ) → first_to_speak 1 js t ≡ first_to_speak 1 js' t) → (v steps : ℕ) (rs : List Row) → run js v steps rs ≡ run js' v steps rs
unfolding run
run_alike js js' same v zero rs = refl
run_alike js js' same v (suc steps) rs = ap (next js v steps rs) (same (trail rs)) ∙ go (first_to_speak 1 js' (trail rs)) (λ l k. run_alike js js' same v steps (a_row l v k ∷ rs))
  where
    go : (y : Speech) → ((l : ℤ) (k : ℕ) → run js v steps (a_row l v k ∷ rs) ≡ run js' v steps (a_row l v k ∷ rs)) → next js v steps rs y ≡ next js' v steps rs y
    go nothing ih = refl
    go (conflicts k) ih = refl
    go (derives k l) ih = ih l k

module _ (n : ℕ) (ss : List Sentence) (js : List Judged) (w : Each (Scoped n) ss) (m : JudgesAll ss js) (v : ℕ) where
  speaker_of : (rs : List Row) → Sound n ss v rs → (k : ℕ) (l : ℤ) → first_to_speak 1 js (trail rs) ≡ derives k l → Speaker (trail rs) (ForcesFirst (trail rs) l) ss k
  speaker_of rs h k l e = derived_of (trail rs) (consistent n ss v rs h) ss js m k l e

  one_more : (rs : List Row) → Sound n ss v rs → (k : ℕ) (l : ℤ) → first_to_speak 1 js (trail rs) ≡ derives k l → Sound n ss v (a_row l v k ∷ rs)
  one_more rs h k l e = derive_sound n ss w v rs k l h (speaker_of rs h k l e)

  -- ---- enough steps

  run_runs : (steps : ℕ) (rs : List Row) → Sound n ss v rs → n < steps + length rs → Runs js v rs (run js v steps rs).sentence (run js v steps rs).rows
  unfolding run
  run_runs zero rs h p = absurd (let f = few_rows n ss v rs h in omega (arith, f, p))
  run_runs (suc steps) rs h p =
      go (first_to_speak 1 js (trail rs)) refl (λ k l g. run_runs steps (a_row l v k ∷ rs) g (omega (arith, p)))
    where
      go : (y : Speech) → first_to_speak 1 js (trail rs) ≡ y → ((k : ℕ) (l : ℤ) → Sound n ss v (a_row l v k ∷ rs) → Runs js v (a_row l v k ∷ rs) (run js v steps (a_row l v k ∷ rs)).sentence (run js v steps (a_row l v k ∷ rs)).rows)
          → Runs js v rs (next js v steps rs y).sentence (next js v steps rs y).rows
      go nothing e ih = rests e
      go (conflicts k) e ih = stopped e
      go (derives k l) e ih = puts e (ih k l (one_more rs h k l e))

  pub run_settles : (rs : List Row) → Sound n ss v rs → Runs js v rs (run js v (suc n) rs).sentence (run js v (suc n) rs).rows
  run_settles rs h = run_runs (suc n) rs h (omega arith)

  -- ---- the end

  record LastStep (e : ℕ) (rs' : List Row) : Type 0 where
    pub sound : Sound n ss v rs'
    pub last : ((e ≡ 0) × (first_to_speak 1 js (trail rs') ≡ nothing)) ⊎ (first_to_speak 1 js (trail rs') ≡ conflicts e)

  last_step : (rs : List Row) (e : ℕ) (rs' : List Row) → Sound n ss v rs → Runs js v rs e rs' → LastStep e rs'
  last_step rs e rs' h (rests q) = record { sound = h; last = inl (refl, q) }
  last_step rs e rs' h (stopped q) = record { sound = h; last = inr q }
  last_step rs e rs' h (puts {k = k} {l = l} q r) = last_step (a_row l v k ∷ rs) e rs' (one_more rs h k l q) r

  module _ (rs : List Row) (h : Sound n ss v rs) where
    abbrev stop : Stop
    stop = run js v (suc n) rs

    end : LastStep stop.sentence stop.rows
    end = last_step rs stop.sentence stop.rows h (run_settles rs h)

    clash_speaks : (k : ℕ) → first_to_speak 1 js (trail stop.rows) ≡ conflicts k → FirstConflict ss (trail stop.rows) k
    clash_speaks k e = conflict_of (trail stop.rows) (consistent n ss v stop.rows end.sound) ss js m k e

    nothing_said : stop.sentence ≡ 0 → first_to_speak 1 js (trail stop.rows) ≡ nothing
    nothing_said z = go stop.sentence end.last z
      where
        go : (e : ℕ) → ((e ≡ 0) × (first_to_speak 1 js (trail stop.rows) ≡ nothing)) ⊎ (first_to_speak 1 js (trail stop.rows) ≡ conflicts e) → e ≡ 0 → first_to_speak 1 js (trail stop.rows) ≡ nothing
        go e (inl x) z = x.1
        go e (inr q) z = let x = clash_speaks e q in let p = numbered_positive e ss x.sentence x.number in absurd (omega (arith, p, z))

    -- at still every sentence is satisfiable, and forces no open literal
    pub still_means : stop.sentence ≡ 0 → Each (SaysNothing (trail stop.rows)) ss
    still_means z = silent_of (trail stop.rows) (consistent n ss v stop.rows end.sound) ss js m (nothing_said z)

    -- a conflict is that of the lowest-numbered sentence that is not silent
    pub clash_means : (k : ℕ) → stop.sentence ≡ suc k → FirstConflict ss (trail stop.rows) (suc k)
    clash_means k z = go stop.sentence end.last z
      where
        go : (e : ℕ) → ((e ≡ 0) × (first_to_speak 1 js (trail stop.rows) ≡ nothing)) ⊎ (first_to_speak 1 js (trail stop.rows) ≡ conflicts e) → e ≡ suc k
            → FirstConflict ss (trail stop.rows) (suc k)
        go e (inl x) z = let y = x.0 in absurd (omega (arith, y, z))
        go e (inr q) z = clash_speaks (suc k) (q ∙ ap conflicts z)

    -- ---- what was put on

    grows : (steps : ℕ) (added : List Row) → DerivedRows ss v rs added → Sound n ss v (added ++ rs) → Additions ss v rs (run js v steps (added ++ rs)).rows
    unfolding run
    grows zero added d g = record { added = added; rows_are = refl; derived = d }
    grows (suc steps) added d g =
        go (first_to_speak 1 js (trail (added ++ rs))) refl (λ k l x y. grows steps (a_row l v k ∷ added) x y)
      where
        go : (y : Speech) → first_to_speak 1 js (trail (added ++ rs)) ≡ y
            → ((k : ℕ) (l : ℤ) → DerivedRows ss v rs (a_row l v k ∷ added) → Sound n ss v (a_row l v k ∷ added ++ rs) → Additions ss v rs (run js v steps (a_row l v k ∷ added ++ rs)).rows)
            → Additions ss v rs (next js v steps (added ++ rs) y).rows
        go nothing e ih = record { added = added; rows_are = refl; derived = d }
        go (conflicts k) e ih = record { added = added; rows_are = refl; derived = d }
        go (derives k l) e ih = ih k l (record { level_is = refl; forced_by = speaker_of (added ++ rs) g k l e }, d) (one_more (added ++ rs) g k l e)

    -- each row put on is the first literal that its reason forces, and the sentences before the reason are silent
    pub derived_means : Additions ss v rs stop.rows
    derived_means = grows (suc n) [] tt h

    pub growth : (length stop.rows - length rs ≡ length derived_means.added) × (length derived_means.added ≤ n)
    growth =
        let e : length stop.rows ≡ length derived_means.added + length rs = ap length derived_means.rows_are ∙ length-append derived_means.added rs in
        let f : length stop.rows ≤ n = few_rows n ss v stop.rows end.sound in
        (omega (arith, e), omega (arith, e, f))
