-- A first forced literal is of an atom of the scope, open and forced.
use mathlib.Core.Path.{sym}
use mathlib.Core.Logic.{inl, inr}
use mathlib.Core.List.{List, [], ◌∷◌}
use Prim.Native.Nat.{ℕ}
use lib.IntN.{ℤ}
use Rattle.meaning.specs.Meaning.{atom, Sentence, Forces, Open, FirstForced}
use Rattle.book.specs.Sound.{In}

pub record ForcedInside (s : Sentence) (t : List ℤ) (sc : List ℕ) (l : ℤ) : Type 0 where
  pub inside : In (atom l) sc
  pub open_there : Open t l
  pub forces : Forces s t l

pub first_forced_inside : (s : Sentence) (t : List ℤ) (sc : List ℕ) (l : ℤ) → FirstForced s t sc l → ForcedInside s t sc l
first_forced_inside s t [] l f = absurd f
first_forced_inside s t (a ∷ rest) l (inl f) = record { inside = inl (sym f.0); open_there = f.1; forces = f.2 }
first_forced_inside s t (a ∷ rest) l (inr f) =
    let x = first_forced_inside s t rest l f.1 in
    record { inside = inr x.inside; open_there = x.open_there; forces = x.forces }
