-- The table's answer in one number, read off the paper's numbers: a refusal has a code that is not 0, every other answer code 0, and an answer
-- in one number is no list.
use mathlib.Core.Path.{◌≡◌, refl, sym, ap}
use mathlib.Core.Bool.{Bool, not, ◌||◌}
use Prim.Native.Nat.{ℕ}
use lib.Dec.{ltb}
use borrow.Author.Tests.{ne_eqb}
use Rattle.book.specs.Table.{bounds_of, listed, Answer, refused, done, still, conflict_in, searched, reported, returned_by}
use Rattle.c_interface.specs.Interface.{told, refuses}
use Rattle.c_interface.specs.Inner.Numbers.{number_of, stopped}
use Rattle.c_interface.proofs.Numbers.{refused_number}

abbrev pub Plain : Answer → Type 0
Plain (refused c n) = ¬ (c ≡ 0)
Plain done = Unit {0}
Plain (still n) = Unit {0}
Plain (conflict_in k n) = Unit {0}
Plain (searched k n g) = Unit {0}
Plain (reported (bounds_of v w)) = Unit {0}
Plain (reported (listed ls)) = ⊥

module _ (needed room : ℕ) where
  pub told_number : (a : Answer) → Plain a → told a needed room ≡ number_of (returned_by a) needed room
  told_number (refused c n) p = refused_number c n needed room 0 p
  told_number done p = refl
  told_number (still n) p = refl
  told_number (conflict_in k n) p = refl
  told_number (searched k n g) p = refl
  told_number (reported (bounds_of v w)) p = refl
  told_number (reported (listed ls)) p = absurd p

  pub refuses_stopped : (a : Answer) → Plain a → refuses a needed room ≡ stopped (returned_by a) needed room
  refuses_stopped (refused c n) p = ap {A = Bool} (λ b. not b || ltb room needed) (sym (ne_eqb c 0 p))
  refuses_stopped done p = refl
  refuses_stopped (still n) p = refl
  refuses_stopped (conflict_in k n) p = refl
  refuses_stopped (searched k n g) p = refl
  refuses_stopped (reported (bounds_of v w)) p = refl
  refuses_stopped (reported (listed ls)) p = absurd p
