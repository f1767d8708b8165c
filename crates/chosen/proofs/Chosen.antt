-- The chosen literals of the first positions, counted and written one after another: they stand at the front of the list, and the rest
-- of it is as it was.
use mathlib.Core.Path.{◌≡◌, refl, sym, ◌∙◌, ap}
use mathlib.Core.Bool.{Bool, true, false, cond}
use mathlib.Core.Logic.{⊎_elim}
use mathlib.Core.List.{List, [], ◌∷◌, ◌++◌}
use Prim.Native.Nat.{ℕ, zero, suc, ◌+◌, ◌<◌, ◌≤◌}
use native.Mathlib.Omega.{arith}
use native.Mathlib.Nat.{eq-or-lt_of_le}
use native.Mathlib.Numerals.{add-one}
use lib.IntN.{ℤ}
use lib.ListN.{length, take, drop, set, length-append, length-drop}
use lib.Seq.{sets-eq, take_at, drop-append-add, drop-drop}
use Rattle.std.specs.Prelude.{Option, Some, None}
use Rattle.std.specs.Option.{is_some}
use Rattle.area.specs.Layout.{row_at}
use Rattle.chosen.specs.Inner.Chosen.{origin_marked, ChosenAt, chosen_literals, in_front}

module _ (w : List ℕ) (n : ℕ) (m : List ℕ) where
  abbrev lit : ℕ → ℤ
  lit k = (row_at w n k).literal

  -- ---- one position more

  pub none_chosen : chosen_literals w n m 0 ≡ []
  unfolding chosen_literals
  none_chosen = refl

  one_more : (k : ℕ) → origin_marked w n m k ≡ true → chosen_literals w n m (k + 1) ≡ chosen_literals w n m k ++ (lit k ∷ [])
  unfolding chosen_literals
  one_more k e =
      ap {A = ℕ} (chosen_literals w n m) (add-one k)
      ∙ ap {A = Bool} (λ b. cond b (chosen_literals w n m k ++ (lit k ∷ [])) (chosen_literals w n m k)) e

  no_more : (k : ℕ) → origin_marked w n m k ≡ false → chosen_literals w n m (k + 1) ≡ chosen_literals w n m k
  unfolding chosen_literals
  no_more k e =
      ap {A = ℕ} (chosen_literals w n m) (add-one k)
      ∙ ap {A = Bool} (λ b. cond b (chosen_literals w n m k ++ (lit k ∷ [])) (chosen_literals w n m k)) e

  one_longer : (k : ℕ) → origin_marked w n m k ≡ true → length (chosen_literals w n m (k + 1)) ≡ length (chosen_literals w n m k) + 1
  one_longer k e = ap length (one_more k e) ∙ length-append (chosen_literals w n m k) (lit k ∷ [])

  pub counted_more : (k : ℕ) (r : Option ℤ) → ChosenAt w n m k r → is_some r ≡ true
      → length (chosen_literals w n m (k + 1)) ≡ length (chosen_literals w n m k) + 1
  counted_more k None off e = cc
  counted_more k (Some z) at_place e = one_longer k at_place.0

  pub counted_same : (k : ℕ) (r : Option ℤ) → ChosenAt w n m k r → is_some r ≡ false
      → length (chosen_literals w n m (k + 1)) ≡ length (chosen_literals w n m k)
  counted_same k None off e = ap length (no_more k off)
  counted_same k (Some z) at_place e = cc

  -- ---- never fewer

  step : (k : ℕ) → length (chosen_literals w n m k) ≤ length (chosen_literals w n m (suc k))
  unfolding chosen_literals
  step k = go (origin_marked w n m k)
    where
      go : (b : Bool) → length (chosen_literals w n m k) ≤ length (cond b (chosen_literals w n m k ++ (lit k ∷ [])) (chosen_literals w n m k))
      go true = omega (arith, length-append (chosen_literals w n m k) (lit k ∷ []))
      go false = omega arith

  pub never_fewer : (j k : ℕ) → j ≤ k → length (chosen_literals w n m j) ≤ length (chosen_literals w n m k)
  never_fewer j zero h = let e : j ≡ zero = omega arith in omega (arith, ap {A = ℕ} (λ i. length (chosen_literals w n m i)) e)
  never_fewer j (suc k) h =
      ⊎_elim {A = j ≡ suc k} {B = j < suc k}
      (λ (e : j ≡ suc k). omega (arith, ap {A = ℕ} (λ i. length (chosen_literals w n m i)) e))
      (λ (q : j < suc k). omega (arith, never_fewer j k (omega arith), step k))
      (eq-or-lt_of_le h)

  -- ---- at the front of a list

  abbrev pub Written : ℕ → List ℤ → List ℤ → Type 0
  Written k old new = new ≡ in_front (chosen_literals w n m k) old

  pub none_written : (old : List ℤ) → Written 0 old old
  unfolding chosen_literals
  none_written old = refl

  pub same_written : (k : ℕ) (old new : List ℤ) → ChosenAt w n m k None → Written k old new → Written (k + 1) old new
  same_written k old new off h = h ∙ ap {A = List ℤ} (λ ls. in_front ls old) (sym (no_more k off))

  pub same_length : (k : ℕ) → ChosenAt w n m k None → length (chosen_literals w n m (k + 1)) ≡ length (chosen_literals w n m k)
  same_length k off = ap length (no_more k off)

  module _ (k rows : ℕ) (old new : List ℤ) (h : Written k old new) (below : k < rows) (fits : length (chosen_literals w n m rows) ≤ length old) where
    abbrev front : List ℤ
    front = chosen_literals w n m k

    few : length front ≤ length old
    few = omega (arith, never_fewer k rows (omega arith))

    pub written_length : length new ≡ length old
    written_length = ap length h ∙ length-append front (drop (length front) old) ∙ omega (arith, few, length-drop (length front) old)

    front_kept : take (length front) new ≡ front
    front_kept = ap (take (length front)) h ∙ take_at front (drop (length front) old) (length front) refl

    rest_kept : drop (length front + 1) new ≡ drop (length front + 1) old
    rest_kept = ap (drop (length front + 1)) h ∙ drop-append-add front (drop (length front) old) 1 ∙ drop-drop 1 (length front) old

    module _ (z : ℤ) (at_place : ChosenAt w n m k (Some z)) (at : ℕ) (q : at ≡ length front) where
      pub room : at < length new
      room = omega (arith, written_length, one_longer k at_place.0, never_fewer (k + 1) rows (omega arith))

      pub at_next : at + 1 ≡ length (chosen_literals w n m (k + 1))
      at_next = omega (arith, one_longer k at_place.0)

      pub one_written : Written (k + 1) old (set new at z)
      one_written =
          ap {A = ℕ} (λ i. set new i z) q
          ∙ sets-eq (z ∷ []) new (length front) (omega (arith, room))
          ∙ ap {A = List ℤ} (λ xs. xs ++ (z ∷ []) ++ drop (length front + 1) new) front_kept
          ∙ ap {A = List ℤ} (λ xs. front ++ (z ∷ []) ++ xs) rest_kept
          ∙ ap {A = ℤ} (λ y. front ++ (y ∷ []) ++ drop (length front + 1) old) at_place.1
          ∙ ap {A = ℕ} (λ i. front ++ (lit k ∷ []) ++ drop i old) (sym (length-append front (lit k ∷ [])))
          ∙ ap {A = List ℤ} (λ ls. in_front ls old) (sym (one_more k at_place.0))
