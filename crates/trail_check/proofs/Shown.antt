-- What the checked words of a trail show: the standing of every atom, literals of atoms, and a consistent trail; and they are the only
-- such words of their rows and places.
use mathlib.Core.Path.{◌≡◌, refl, sym, ◌∙◌, ap}
use mathlib.Core.Bool.{Bool, true, false, cond}
use mathlib.Core.Logic.{inl, inr}
use mathlib.Core.List.{List, [], ◌∷◌}
use Prim.Native.Nat.{ℕ, ◌+◌, ◌*◌, ◌%◌, ◌<◌, ◌≤◌}
use native.Mathlib.Omega.{arith}
use lib.ListN.{length}
use lib.IntN.{ℤ, pos, negsuc}
use lib.Dec.{eqb}
use borrow.Author.Tests.{eq-eqb, ne_eqb}
use Rattle.meaning.specs.Meaning.{atom, truth, Consistent, On, Each}
use Rattle.meaning.specs.Computed.{fixed, standing_of}
use Rattle.meaning.proofs.Trails.{put_on}
use Rattle.book.specs.Rows.{Row, trail}
use Rattle.area.specs.Layout.{value_at, literal_at, rows_from, sign, value_word, standing_word}
use Rattle.area.specs.Whole.{AtomsOnce}
use Rattle.trail_check.specs.Trail.{TrailOk}
use Rattle.trail_check.proofs.Rows.{atom_low}

-- ---- standings

shown_fixed : (l : ℤ) (m : ℕ) → fixed (truth l true) ≡ standing_word (1 + 2 * m + sign l)
shown_fixed (pos a) m = let e : (1 + 2 * m + 0) % 2 ≡ 1 = omega arith in
    rw (ne_eqb (1 + 2 * m + 0) 0 (λ q. omega arith), eq-eqb ((1 + 2 * m + 0) % 2) 1 e)
shown_fixed (negsuc a) m = let e : (1 + 2 * m + 1) % 2 ≡ 0 = omega arith in
    rw (ne_eqb (1 + 2 * m + 1) 0 (λ q. omega arith), ne_eqb ((1 + 2 * m + 1) % 2) 1 (λ q. omega arith))

-- of any rows
value_shows : (rs : List Row) (a : ℕ) → standing_of (trail rs) a ≡ standing_word (value_word rs a)
unfolding standing_of value_word
value_shows [] a = refl
value_shows (r ∷ rs) a = go (eqb (atom r.literal) a) (value_shows rs a)
  where
    go : (c : Bool) → standing_of (trail rs) a ≡ standing_word (value_word rs a)
        → cond c (fixed (truth r.literal true)) (standing_of (trail rs) a) ≡ standing_word (cond c (1 + 2 * length rs + sign r.literal) (value_word rs a))
    go true ih = shown_fixed r.literal (length rs)
    go false ih = ih

pub shows : {w : List ℕ} {n len level : ℕ} → TrailOk w n len level → (a : ℕ) → 1 ≤ a → a ≤ n
    → standing_of (trail (rows_from w n len)) a ≡ standing_word (value_at w n a)
shows {w} {n} {len} ok a low high = value_shows (rows_from w n len) a ∙ ap standing_word (sym (ok.values a low high))

-- ---- a consistent trail

off_trail : (a : ℕ) (rs : List Row) → Each (λ x. ¬ (atom x.literal ≡ a)) rs → ¬ (On a (trail rs))
off_trail a [] h o = o
off_trail a (r ∷ rs) h (inl e) = h.0 e
off_trail a (r ∷ rs) h (inr o) = off_trail a rs h.1 o

pub once_consistent : (n : ℕ) (rs : List Row) → AtomsOnce n rs → Consistent (trail rs)
once_consistent n [] h = ((λ a. true), tt)
once_consistent n (r ∷ rs) h = put_on r.literal (trail rs) (off_trail (atom r.literal) rs h.0.2) (once_consistent n rs h.1)

pub consistent : {w : List ℕ} {n len level : ℕ} → TrailOk w n len level → Consistent (trail (rows_from w n len))
consistent {w} {n} {len} ok = once_consistent n (rows_from w n len) ok.atoms

-- ---- literals

pub literals : {w : List ℕ} {n len level : ℕ} → TrailOk w n len level → (i : ℕ) → i < len → 2 ≤ literal_at w n i
literals {w} {n} {len} ok i l = omega (arith, atom_low w n len i l ok.atoms)
