-- An atom's value word is 0 just where no row has the atom; levels that rise to k are all kept.
use mathlib.Core.Path.{◌≡◌, refl, sym, ◌∙◌, ap}
use mathlib.Core.Bool.{cond}
use mathlib.Core.List.{List, [], ◌∷◌}
use Prim.Native.Nat.{ℕ, ◌<◌, ◌≤◌}
use native.Mathlib.Omega.{arith}
use native.Mathlib.Decide.{ℕ_discrete}
use borrow.Author.Tests.{le-leb, lt-leb}
use Rattle.meaning.specs.Meaning.{atom, Each}
use Rattle.book.specs.Rows.{Row, up_to}
use Rattle.area.specs.Layout.{value_word}
use Rattle.area.specs.Whole.{Rising}
use Rattle.trail_check.proofs.Values.{value_word_same, value_word_other}

-- by cases on an equation of numbers
pub same_or_not : {P : Type 0} (i k : ℕ) → (i ≡ k → P) → (¬ (i ≡ k) → P) → P
same_or_not {P} i k here other = go (ℕ_discrete i k)
  where
    go : Dec (i ≡ k) → P
    go (yes e) = here e
    go (no d) = other d

-- ---- an atom that no row has

pub zero_absent : (rs : List Row) (a : ℕ) → value_word rs a ≡ 0 → Each (λ x. ¬ (atom x.literal ≡ a)) rs
zero_absent [] a e = tt
zero_absent (r ∷ rs) a e = same_or_not (atom r.literal) a
    (λ q. absurd (omega (arith, value_word_same r rs a q)))
    (λ d. (d, zero_absent rs a (sym (value_word_other r rs a d) ∙ e)))

pub absent_zero : (rs : List Row) (a : ℕ) → Each (λ x. ¬ (atom x.literal ≡ a)) rs → value_word rs a ≡ 0
unfolding value_word
absent_zero [] a h = refl
absent_zero (r ∷ rs) a h = value_word_other r rs a h.0 ∙ absent_zero rs a h.1

-- ---- levels

pub rising_higher : (u v : ℕ) (rs : List Row) → u ≤ v → Rising u rs → Rising v rs
rising_higher u v [] l h = tt
rising_higher u v (r ∷ rs) l h = (omega (arith, h.0), h.1)

pub up_to_all : (v k : ℕ) (rs : List Row) → v ≤ k → Rising v rs → up_to k rs ≡ rs
unfolding up_to
up_to_all v k [] l h = refl
up_to_all v k (r ∷ rs) l h = let q : r.level ≤ k = omega (arith, h.0) in
    ap (λ b. cond b (r ∷ up_to k rs) (up_to k rs)) (le-leb r.level k q) ∙ ap (λ x. r ∷ x) (up_to_all r.level k rs q h.1)

-- a last row above k goes
pub up_to_less : (k : ℕ) (r : Row) (rs : List Row) → k < r.level → up_to k (r ∷ rs) ≡ up_to k rs
unfolding up_to
up_to_less k r rs l = ap (λ b. cond b (r ∷ up_to k rs) (up_to k rs)) (lt-leb r.level k l)
