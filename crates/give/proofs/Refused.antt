-- A step's refusals have a code that is not 0 and no value, so the code of the first that applies says what the table replies: that
-- refusal, which changes nothing, or at 0 the effect.
use mathlib.Core.Path.{◌≡◌, refl, sym, ap, ◌∙◌}
use mathlib.Core.Bool.{Bool, true, false, cond}
use mathlib.Core.List.{List, [], ◌∷◌}
use Prim.Native.Nat.{ℕ, ◌≤◌}
use native.Mathlib.Omega.{arith}
use Rattle.types.specs.declared.Limits.{Limits}
use Rattle.meaning.specs.Meaning.{Each}
use Rattle.book.specs.Table.{Step, give, open_level, take_back, propagate, search, a_step, refused, returned_by, State, Refusal, step_refusals, step_effect, Outcome, unchanged, decided, reply}
use Rattle.book.specs.Book.{Counters}
use Rattle.area.specs.Whole.{Whole}
use Rattle.calls.specs.declared.Refusal as error
use Rattle.calls.specs.declared.Refusal.TheVariants.{NotWhole, NoAtom, OnTrail, NotOnTrail, Given, HighestLevel, LevelAbove, NoSentence, NoConflict, TooShort}
use Rattle.calls.specs.Refusals.{code_of}
use Rattle.calls.specs.Calls.{area_state, refused_returned, Acts}
use Rattle.calls.proofs.Acting.{acts_refused}
use Rattle.give.specs.Inner.Refused.{first_code, refusal_code}

pub record Replied (q : State) (k : ℕ) (effect outcome : Outcome) : Type 0 where
  pub refuses : ¬ (k ≡ 0) → outcome ≡ unchanged q (refused k 0)
  pub passes : k ≡ 0 → outcome ≡ effect

abbrev Plain : Refusal → Type 0
Plain r = (1 ≤ r.code) × (r.value ≡ 0) × (r.code ≤ 17)

decided_by : (q : State) (o : Outcome) (rs : List Refusal) → Each Plain rs → Replied q (first_code rs) o (decided q rs o)
decided_by q o [] h = record { refuses = λ d. absurd (d refl); passes = λ _. refl }
decided_by q o (r ∷ rs) h = go r.applies (decided_by q o rs h.1)
  where
    go : (b : Bool) → Replied q (first_code rs) o (decided q rs o)
        → Replied q (cond b r.code (first_code rs)) o (cond b (unchanged q (refused r.code r.value)) (decided q rs o))
    go true ih = record {
      refuses = λ _. ap {A = ℕ} (λ n. unchanged q (refused r.code n)) h.0.1;
      passes = λ e. let b : ⊥ = omega (arith, h.0.0) in absurd b;
    }
    go false ih = ih

none_of : (rs : List Refusal) → Each Plain rs → first_code rs ≡ 0 → Each (λ r. r.applies ≡ false) rs
none_of [] h e = tt
none_of (r ∷ rs) h e = go r.applies refl (none_of rs h.1) e
  where
    go : (b : Bool) → r.applies ≡ b → (first_code rs ≡ 0 → Each (λ s. s.applies ≡ false) rs) → cond b r.code (first_code rs) ≡ 0
        → (r.applies ≡ false) × Each (λ s. s.applies ≡ false) rs
    go true t ih e = let b : ⊥ = omega (arith, h.0.0) in absurd b
    go false t ih e = (t, ih e)

low_codes : (rs : List Refusal) → Each Plain rs → first_code rs ≤ 17
low_codes [] h = omega arith
low_codes (r ∷ rs) h = go r.applies (low_codes rs h.1)
  where
    go : (b : Bool) → first_code rs ≤ 17 → cond b r.code (first_code rs) ≤ 17
    go true l = h.0.2
    go false l = l

plain : (q : State) (x : Step) → Each Plain (step_refusals q x)
plain q (give l) = ((omega arith, refl, omega arith), ((omega arith, refl, omega arith), tt))
plain q open_level = ((omega arith, refl, omega arith), tt)
plain q (take_back k) = ((omega arith, refl, omega arith), tt)
plain q propagate = tt
plain q (search ls) = ((omega arith, refl, omega arith), tt)

module _ (lim : Limits) (w : List ℕ) (x : Step) where
  abbrev q : State
  q = area_state lim w

  pub replied : Replied q (refusal_code lim w x) (step_effect q x) (reply q (a_step x))
  unfolding reply
  replied = decided_by q (step_effect q x) (step_refusals q x) (plain q x)

  codes_low : refusal_code lim w x ≤ 17
  codes_low = low_codes (step_refusals q x) (plain q x)

  -- no refusal applies
  pub none_applies : refusal_code lim w x ≡ 0 → Each (λ r. r.applies ≡ false) (step_refusals q x)
  none_applies = none_of (step_refusals q x) (plain q x)

-- the call that hands on such a refusal, which is none of the lent list
pub stops : {lim : Limits} {w : List ℕ} {c : Counters} {x : Step} → Whole lim w c → (e : error.Refusal) → code_of e ≡ refusal_code lim w x
    → Acts lim w w c c x (refused_returned e)
stops {lim} {w} {c} {x} h e q = go e q
  where
    refuses : (k : ℕ) → k ≡ refusal_code lim w x → 1 ≤ k → Acts lim w w c c x (returned_by (refused k 0))
    refuses k q l =
        acts_refused lim w c x h k
        (ap (λ (o : Outcome). o.answer) ((replied lim w x).refuses (λ z. omega arith)) ∙ ap {A = ℕ} (λ n. refused n 0) (sym q))

    go : (e : error.Refusal) → code_of e ≡ refusal_code lim w x → Acts lim w w c c x (refused_returned e)
    go NotWhole q = refuses 9 q (omega arith)
    go NoAtom q = refuses 10 q (omega arith)
    go OnTrail q = refuses 11 q (omega arith)
    go NotOnTrail q = refuses 12 q (omega arith)
    go Given q = refuses 13 q (omega arith)
    go HighestLevel q = refuses 14 q (omega arith)
    go LevelAbove q = refuses 15 q (omega arith)
    go NoSentence q = refuses 16 q (omega arith)
    go NoConflict q = refuses 17 q (omega arith)
    go (TooShort needed) q = let l = codes_low lim w x in absurd (omega arith)
