-- No more rows than atoms, where each atom stands once: their atoms are different and from 1 to n.
use mathlib.Core.Path.{◌≡◌}
use mathlib.Core.List.{List, [], ◌∷◌}
use Prim.Native.Nat.{ℕ, ◌≤◌}
use native.Mathlib.Omega.{arith}
use lib.ListN.{length}
use Rattle.meaning.specs.Meaning.{atom, Each}
use Rattle.book.specs.Rows.{Row}
use Rattle.book.specs.Sound.{Within}
use Rattle.book.proofs.Few as list
use Rattle.area.specs.Layout.{rows_from}
use Rattle.area.specs.Whole.{AtomsOnce}
use Rattle.trail_check.proofs.Rows.{rows_length}

off : (a : ℕ) (rs : List Row) → Each (λ x. ¬ (atom x.literal ≡ a)) rs → list.Off a (list.atoms_of rs)
off a [] h = tt
off a (r ∷ rs) h = (h.0, off a rs h.1)

within : (n : ℕ) (rs : List Row) → AtomsOnce n rs → Each (Within n) (list.atoms_of rs)
within n [] h = tt
within n (r ∷ rs) h = ((h.0.0, h.0.1), within n rs h.1)

distinct : (n : ℕ) (rs : List Row) → AtomsOnce n rs → list.Distinct (list.atoms_of rs)
distinct n [] h = tt
distinct n (r ∷ rs) h = (off (atom r.literal) rs h.0.2, distinct n rs h.1)

pub few : (n : ℕ) (rs : List Row) → AtomsOnce n rs → length rs ≤ n
few n rs h = omega (arith, list.few n (list.atoms_of rs) (within n rs h) (distinct n rs h), list.lengths rs)

pub few_places : (w : List ℕ) (n len : ℕ) → AtomsOnce n (rows_from w n len) → len ≤ n
few_places w n len h = omega (arith, few n (rows_from w n len) h, rows_length w n len)
