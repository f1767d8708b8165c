-- What the one number of a refusal or of too few lent words tells: where it is not 0 it stands for the whole answer; where it is 0 there
-- is neither.
use mathlib.Core.Path.{◌≡◌, refl, sym, ap, ◌∙◌}
use mathlib.Core.Bool.{Bool, true, false, cond}
use Prim.Native.Nat.{ℕ, ◌<◌, ◌≤◌}
use native.Mathlib.Omega.{arith}
use lib.Dec.{eqb, ltb}
use borrow.Author.Tests.{eq-eqb, ne_eqb, eqb-true, eqb-false, lt-ltb, le-ltb, ltb-true, ltb-false}
use Rattle.c_interface.specs.Interface.{packed}
use mathlib.Core.Logic.{◌⊎◌, inl, inr}
use Rattle.std.specs.Prelude.{Result, Ok, Err}
use Rattle.calls.specs.declared.Refusal.{Refusal}
use Rattle.calls.specs.declared.Refusal.TheVariants.{NotWhole, NoAtom, OnTrail, NotOnTrail, Given, HighestLevel, LevelAbove, NoSentence, NoConflict, TooShort}
use Rattle.calls.specs.Refusals.{code_of, value_of, code_in}
use Rattle.c_interface.specs.Inner.Numbers.{readied, one_number}

module _ (code value needed room : ℕ) where
  abbrev choose : ℕ → Bool → Bool → ℕ
  choose last b few = cond b (cond few (packed 18 needed) (packed 0 last)) (packed code value)

  pub refused_number : (last : ℕ) → ¬ (code ≡ 0) → packed code value ≡ one_number code value needed room last
  refused_number last d = ap {A = Bool} (λ b. choose last b (ltb room needed)) (sym (ne_eqb code 0 d))

  pub short_number : (last : ℕ) → code ≡ 0 → room < needed → packed 18 needed ≡ one_number code value needed room last
  short_number last e h = rw (eq-eqb code 0 e, lt-ltb room needed h) refl

  pub done_number : (last : ℕ) → code ≡ 0 → needed ≤ room → packed 0 last ≡ one_number code value needed room last
  done_number last e h = rw (eq-eqb code 0 e, le-ltb room needed h) refl

  -- neither
  pub passes : one_number code value needed room 0 ≡ 0 → (code ≡ 0) × (needed ≤ room)
  passes z = go (eqb code 0) (ltb room needed) refl refl z
    where
      go : (b few : Bool) → eqb code 0 ≡ b → ltb room needed ≡ few → choose 0 b few ≡ 0 → (code ≡ 0) × (needed ≤ room)
      go true true e f z = let b : ⊥ = omega arith in absurd b
      go true false e f z = (eqb-true code 0 e, ltb-false room needed f)
      go false few e f z = let b : ⊥ = omega (arith, eqb-false code 0 e) in absurd b

  -- at code 0 too few lent words
  pub short_only : ¬ (one_number code value needed room 0 ≡ 0) → code ≡ 0 → room < needed
  short_only d e = go (ltb room needed) refl
    where
      go : (few : Bool) → ltb room needed ≡ few → room < needed
      go true f = ltb-true room needed f
      go false f = absurd (d (sym (done_number 0 e (ltb-false room needed f))))

-- ---- refusals

pub refusal_coded : (e : Refusal) → 9 ≤ code_of e
refusal_coded NotWhole = omega arith
refusal_coded NoAtom = omega arith
refusal_coded OnTrail = omega arith
refusal_coded NotOnTrail = omega arith
refusal_coded Given = omega arith
refusal_coded HighestLevel = omega arith
refusal_coded LevelAbove = omega arith
refusal_coded NoSentence = omega arith
refusal_coded NoConflict = omega arith
refusal_coded (TooShort needed) = omega arith

-- all but the last come with no value
valueless : (e : Refusal) → code_of e < 18 → value_of e ≡ 0
valueless NotWhole l = refl
valueless NoAtom l = refl
valueless OnTrail l = refl
valueless NotOnTrail l = refl
valueless Given l = refl
valueless HighestLevel l = refl
valueless LevelAbove l = refl
valueless NoSentence l = refl
valueless NoConflict l = refl
valueless (TooShort needed) l = let b : ⊥ = omega (arith, l) in absurd b

module _ {A : Type 0} (needed room : ℕ) where
  -- 0 where nothing is refused
  abbrev pub refusal_number : Result A Refusal → ℕ
  refusal_number (Ok a) = 0
  refusal_number (Err e) = packed (code_of e) (value_of e)

  pub ready_number : (found : Result A Refusal) → code_in found < 18 → refusal_number (readied found needed room) ≡ one_number (code_in found) 0 needed room 0
  ready_number (Ok a) l = go (ltb room needed)
    where
      go : (few : Bool) → refusal_number (cond few (Err (TooShort needed)) (Ok a)) ≡ cond few (packed 18 needed) (packed 0 0)
      go true = refl
      go false = refl
  ready_number (Err e) l =
      ap (packed (code_of e)) (valueless e l)
      ∙ refused_number (code_of e) 0 needed room 0 (λ z. let b : ⊥ = omega (arith, refusal_coded e, z) in b)

  pub ready_small : (found : Result A Refusal) (e : Refusal) → code_in found < 18 → Err e ≡ readied found needed room → value_of e ≤ needed
  ready_small (Ok a) e l q = go (ltb room needed) q
    where
      least : {r : Result A Refusal} → Err e ≡ r → r ≡ Err (TooShort needed) → value_of e ≤ needed
      least q p = let same : e ≡ TooShort needed = cc in rw same (omega arith)

      go : (few : Bool) → Err e ≡ cond few (Err (TooShort needed)) (Ok a) → value_of e ≤ needed
      go true q = least q refl
      go false q = let b : ⊥ = cc in absurd b
  ready_small (Err f) e l q =
      let same : e ≡ f = cc in
      rw (same, valueless f l) (omega arith)

  -- where it goes on, and where it does not: the refusal, or too few lent words
  abbrev short_or : Bool → A → Result A Refusal
  short_or few b = cond few (Err (TooShort needed)) (Ok b)

  pub ready_ok : (found : Result A Refusal) (a : A) → Ok a ≡ readied found needed room → (found ≡ Ok a) × (needed ≤ room)
  ready_ok (Ok b) a q = go (ltb room needed) refl q
    where
      go : (few : Bool) → ltb room needed ≡ few → Ok a ≡ short_or few b → (◌≡◌ {A = Result A Refusal} (Ok b) (Ok a)) × (needed ≤ room)
      go true f q = let b : ⊥ = cc in absurd b
      go false f q = (sym q, ltb-false room needed f)
  ready_ok (Err e) a q = let b : ⊥ = cc in absurd b

  abbrev Stopped : Result A Refusal → Refusal → Type 0
  Stopped found e = (found ≡ Err e) ⊎ ((a : A) × (found ≡ Ok a) × (e ≡ TooShort needed) × (room < needed))

  pub ready_err : (found : Result A Refusal) (e : Refusal) → Err e ≡ readied found needed room
      → (found ≡ Err e) ⊎ ((a : A) × (found ≡ Ok a) × (e ≡ TooShort needed) × (room < needed))
  ready_err (Ok b) e q = go (ltb room needed) refl q
    where
      go : (few : Bool) → ltb room needed ≡ few → Err e ≡ short_or few b → Stopped (Ok b) e
      go true f q = let same : e ≡ TooShort needed = cc in inr (b, refl, same, ltb-true room needed f)
      go false f q = let b : ⊥ = cc in absurd b
  ready_err (Err f) e q = inl (sym q)
