-- The elements of a list by their numbers, counted from 1, and the atoms of a list. Each judgement has its sentence's number.
use mathlib.Core.Path.{◌≡◌, refl, ap, subst}
use mathlib.Core.Logic.{inl, inr}
use mathlib.Core.List.{List, [], ◌∷◌}
use Prim.Native.Nat.{ℕ, zero, suc, ◌≤◌}
use native.Mathlib.Omega.{arith}
use lib.ListN.{length}
use Rattle.meaning.specs.Meaning.{Sentence, Each}
use Rattle.book.specs.Rows.{numbered}
use Rattle.book.specs.Table.{Judged}
use Rattle.book.specs.Book.{Judges}
use Rattle.book.specs.Means.{IsNumber}
use Rattle.book.specs.Sound.{In, JudgesAll, none, more}

module _ {A : Type 0} where
  pub numbered_each : (P : A → Type 0) (k : ℕ) (xs : List A) (x : A) → IsNumber k xs x → Each P xs → P x
  numbered_each P k [] x h e = absurd h
  numbered_each P zero (z ∷ zs) x h e = absurd h
  numbered_each P (suc zero) (z ∷ zs) x h e = subst P h e.0
  numbered_each P (suc (suc k)) (z ∷ zs) x h e = numbered_each P (suc k) zs x h e.1

  pub numbered_positive : (k : ℕ) (xs : List A) (x : A) → IsNumber k xs x → 1 ≤ k
  numbered_positive k [] x h = absurd h
  numbered_positive zero (z ∷ zs) x h = absurd h
  numbered_positive (suc k) (z ∷ zs) x h = omega arith

  pub numbered_exists : (k : ℕ) (xs : List A) → 1 ≤ k → k ≤ length xs → (x : A) × IsNumber k xs x
  numbered_exists k [] p q = absurd (omega (arith, p, q))
  numbered_exists zero (z ∷ zs) p q = absurd (omega (arith, p))
  numbered_exists (suc zero) (z ∷ zs) p q = (z, refl)
  numbered_exists (suc (suc k)) (z ∷ zs) p q = numbered_exists (suc k) zs (omega arith) (omega (arith, q))

-- ---- judgements

pub judges_numbered : (d : Judged) (k : ℕ) (ss : List Sentence) (js : List Judged) (s : Sentence) → JudgesAll ss js → IsNumber k ss s → Judges s (numbered d k js)
unfolding numbered
judges_numbered d k [] [] s none h = absurd h
judges_numbered d zero (x ∷ ss) (j ∷ js) s (more p m) h = absurd h
judges_numbered d (suc zero) (x ∷ ss) (j ∷ js) s (more p m) h = subst (λ y. Judges y j) h p
judges_numbered d (suc (suc k)) (x ∷ ss) (j ∷ js) s (more p m) h = judges_numbered d (suc k) ss js s m h
judges_numbered d k [] (j ∷ js) s x4 h = elim x4 [ ]
judges_numbered d zero (x ∷ ss) [] s x6 h = elim x6 [ ]
judges_numbered d (suc zero) (x ∷ ss) [] s x9 h = elim x9 [ ]
judges_numbered d (suc (suc k)) (x ∷ ss) [] s x10 h = elim x10 [ ]

pub judges_length : (ss : List Sentence) (js : List Judged) → JudgesAll ss js → length ss ≡ length js
judges_length [] [] none = refl
judges_length (s ∷ ss) (j ∷ js) (more p m) = ap suc (judges_length ss js m)
judges_length [] (j ∷ js) x'' = elim x'' [ ]
judges_length (s ∷ ss) [] x3 = elim x3 [ ]

-- ---- atoms of a list

pub in_each : (P : ℕ → Type 0) (a : ℕ) (bs : List ℕ) → In a bs → Each P bs → P a
in_each P a [] h e = absurd h
in_each P a (b ∷ bs) (inl q) e = subst P q e.0
in_each P a (b ∷ bs) (inr r) e = in_each P a bs r e.1
