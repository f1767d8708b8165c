-- The members of a written set are no more than its entries: a literal that is written twice counts once, and nothing is added.
use mathlib.Core.Path.{◌≡◌, refl, ap}
use mathlib.Core.Bool.{Bool, true, false, cond}
use mathlib.Core.List.{List, [], ◌∷◌}
use Prim.Native.Nat.{ℕ, suc, ◌≤◌}
use native.Mathlib.Omega.{arith}
use lib.IntN.{ℤ}
use lib.ListN.{length}
use Rattle.meaning.specs.Meaning.{Entry, Kind, sum, product, count, maximum, minimum, same, without, once, ones, members}

-- where a test drops or keeps the head
length_cond : (b : Bool) (e : Entry) (es : List Entry) (n : ℕ) → length es ≤ n → length (cond b es (e ∷ es)) ≤ suc n
length_cond true e es n h = omega arith
length_cond false e es n h = omega arith

without_length : (l : ℤ) (es : List Entry) → length (without l es) ≤ length es
without_length l [] = omega arith
without_length l (e ∷ es) = length_cond (same l e.literal) e (without l es) (length es) (without_length l es)

once_length : (es : List Entry) → length (once es) ≤ length es
once_length [] = omega arith
once_length (e ∷ es) = omega (arith, without_length e.literal (once es), once_length es)

ones_length : (es : List Entry) → length (ones es) ≡ length es
ones_length [] = refl
ones_length (e ∷ es) = ap suc (ones_length es)

pub members_length : (k : Kind) (es : List Entry) → length (members k es) ≤ length es
members_length sum es = omega arith
members_length product es = omega arith
members_length count es = omega (arith, once_length (ones es), ones_length es)
members_length maximum es = omega arith
members_length minimum es = omega arith
