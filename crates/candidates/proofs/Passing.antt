-- One literal of the list: of no atom it is what 10 looks for; on the trail it is passed; open it is tried, or ends the search at the highest
-- level. Each is one case of `any` or of `trying`, told of the list from a place on.
use mathlib.Core.Path.{◌≡◌, refl, sym, ap, ap₂, ◌∙◌}
use mathlib.Core.Bool.{Bool, true, false, not, cond, true≢false}
use mathlib.Core.List.{List, [], ◌∷◌}
use Prim.Native.Nat.{ℕ, zero, suc, ◌+◌, ◌<◌, ◌≤◌}
use native.Mathlib.Omega.{arith}
use lib.ListN.{length, drop, drop_of_length-le}
use lib.Seq.{drop-cons}
use lib.IntN.{ℤ, pos}
use lib.Dec.{leb}
use mir.Syntax.{w64}
use mir.Val.{SFits, to_z, of_z}
use Rattle.std.specs.Prelude.{Option, None, Some, is_some, MatchBool}
use Rattle.std.specs.List.{AllWithin, HoldsAt}
use Rattle.decide.specs.Inner.Tells.{Tells}
use Rattle.decide.proofs.Tells.{told_yes, told_no}
use Rattle.meaning.specs.Meaning.{atom}
use Rattle.literals.specs.Inner.Literals.{unknown, AtomOf}
use Rattle.literals.proofs.Atoms.{told_atom}
use Rattle.book.specs.Rows.{any}
use Rattle.book.specs.Table.{State, on_trail, End, end_at, turning, tried, trying}
use Rattle.candidates.specs.Inner.Candidates.{AllKnown, nth, PassedTo}

-- ---- 10, from a place of the list on

any_none : (p : ℤ → Bool) → any p [] ≡ false
unfolding any
any_none p = refl

any_cons : (p : ℤ → Bool) (l : ℤ) (ls : List ℤ) → any p (l ∷ ls) ≡ cond (p l) true (any p ls)
unfolding any
any_cons p l ls = refl

any_false : (p : ℤ → Bool) (ls : List ℤ) → AllWithin (λ l. p l ≡ false) ls 0 (length ls) → any p ls ≡ false
any_false p [] h = any_none p
any_false p (x ∷ xs) h =
    any_cons p x xs ∙ ap {A = Bool} (λ b. cond b true (any p xs)) (h 0 (pos 0) (omega arith) (omega arith))
    ∙ any_false p xs (λ k d l m. h (suc k) d (omega arith) (omega arith))

none_at : (p : ℤ → Bool) (ls : List ℤ) (j : ℕ) → j < length ls → any p ls ≡ false → p (nth ls j) ≡ false
none_at p [] j l e = let b : ⊥ = omega (arith, l) in absurd b
none_at p (x ∷ xs) j l e = go (p x) refl (sym (any_cons p x xs) ∙ e) j l (λ k m f. none_at p xs k m f)
  where
    go : (b : Bool) → p x ≡ b → cond (p x) true (any p xs) ≡ false → (k : ℕ) → k < suc (length xs)
        → ((i : ℕ) → i < length xs → any p xs ≡ false → p (nth xs i) ≡ false) → p (nth (x ∷ xs) k) ≡ false
    go true f e k m ih = absurd (true≢false (sym (ap {A = Bool} (λ b. cond b true (any p xs)) f) ∙ e))
    go false f e zero m ih = f
    go false f e (suc k) m ih = ih k (omega (arith, m)) (sym (ap {A = Bool} (λ b. cond b true (any p xs)) f) ∙ e)

pub known_at : (n : ℕ) (ls : List ℤ) → AllKnown n ls → (j : ℕ) → j < length ls → unknown n (nth ls j) ≡ false
known_at n ls e j l = none_at (unknown n) ls j l e

-- a literal has an atom, or it is what 10 looks for
known_by : (n : ℕ) (l : ℤ) (o : Option ℕ) → AtomOf n l o → unknown n l ≡ not (is_some o)
known_by n l None a = a
known_by n l (Some r) a = a.known

pub unknown_by : (n : ℕ) (l : ℤ) (o : Option ℕ) (b : Bool) → SFits w64 l → AtomOf n (to_z w64 (of_z w64 l)) o → b ≡ is_some o → unknown n l ≡ not b
unknown_by n l o b f a e = known_by n l o (told_atom n l o f a) ∙ ap not (sym e)

-- all of them are known, or one is not
pub told_all : (b : Bool) (n : ℕ) (ls : List ℤ)
    → MatchBool b (AllWithin (λ l. unknown n l ≡ false) ls 0 (length ls)) ((k : ℕ) × (k < length ls) × HoldsAt (λ l. unknown n l ≡ true) ls k)
    → Tells b (AllKnown n ls)
told_all true n ls h = told_yes (any_false (unknown n) ls h)
told_all false n ls h = told_no (λ e. true≢false (sym (h.2 (pos 0)) ∙ known_at n ls e h.0 h.1))

-- ---- the search, from a place of the list on

-- a turn: propagate, and what is left after it
abbrev pub turns : State → (total gone : ℕ) → List ℤ → End
turns q total gone ls = turning q total gone (λ p n. trying p n gone ls)

-- by the two tests
abbrev tested : State → (total gone : ℕ) → ℤ → List ℤ → Bool → Bool → End
tested q total gone l ls on high = cond on (trying q total (suc gone) ls) (cond high (end_at 0 total gone q) (turns (tried q l) total (suc gone) ls))

try_none : (q : State) (total gone : ℕ) → trying q total gone [] ≡ end_at 0 total gone q
unfolding trying
try_none q total gone = refl

try_cons : (q : State) (total gone : ℕ) (l : ℤ) (ls : List ℤ) → trying q total gone (l ∷ ls) ≡ tested q total gone l ls (on_trail q (atom l)) (leb q.levels q.level)
unfolding trying
try_cons q total gone l ls = refl

module _ (q : State) (ls : List ℤ) (j total : ℕ) where
  pub try_past : length ls ≤ j → trying q total j (drop j ls) ≡ end_at 0 total j q
  try_past l = ap (trying q total j) (drop_of_length-le ls {i = j} l) ∙ try_none q total j

  module _ (l : j < length ls) where
    try_by : (on high : Bool) → on_trail q (atom (nth ls j)) ≡ on → leb q.levels q.level ≡ high
        → trying q total j (drop j ls) ≡ tested q total j (nth ls j) (drop (suc j) ls) on high
    try_by on high e f =
        ap (trying q total j) (drop-cons ls j (pos 0) l) ∙ try_cons q total j (nth ls j) (drop (suc j) ls)
        ∙ ap₂ {A = Bool} {B = Bool} (tested q total j (nth ls j) (drop (suc j) ls)) e f

    pub try_passed : on_trail q (atom (nth ls j)) ≡ true → trying q total j (drop j ls) ≡ trying q total (suc j) (drop (suc j) ls)
    try_passed e = try_by true (leb q.levels q.level) e refl

    module _ (off : on_trail q (atom (nth ls j)) ≡ false) where
      pub try_highest : leb q.levels q.level ≡ true → trying q total j (drop j ls) ≡ end_at 0 total j q
      try_highest f = try_by false true off f

      pub try_open : leb q.levels q.level ≡ false → trying q total j (drop j ls) ≡ turns (tried q (nth ls j)) total (suc j) (drop (suc j) ls)
      try_open f = try_by false false off f

pub passed_more : (q : State) (ls : List ℤ) (start j : ℕ) → PassedTo q ls start j → j < length ls → on_trail q (atom (nth ls j)) ≡ true
    → PassedTo q ls start (j + 1)
passed_more q ls start j p l e =
    let f : suc j ≡ j + 1 = omega arith in
    record {
      later = omega (arith, p.later);
      inside = omega arith;
      passed = λ total. p.passed total ∙ try_passed q ls j total l e ∙ ap {A = ℕ} (λ k. trying q total k (drop k ls)) f;
    }
