-- The rows written so far stand at the front of the list, and the rest of it is as it was: three numbers put one row more behind them.
use mathlib.Core.Path.{◌≡◌, refl, sym, ◌∙◌, ap}
use mathlib.Core.List.{List, [], ◌∷◌, ◌++◌}
use Prim.Native.Nat.{ℕ, suc, ◌+◌, ◌*◌, ◌≤◌}
use native.Mathlib.Omega.{arith}
use lib.IntN.{ℤ, pos}
use lib.ListN.{length, take, drop, length-append, length-drop}
use lib.Seq.{take_at, drop-append-add, drop-drop}
use Rattle.book.specs.Rows.{Row, flat}
use Rattle.area.specs.Layout.{row_at, rows_from}
use Rattle.trail_check.proofs.Rows.{rows_length}

pub flat_length : (rs : List Row) → length (flat rs) ≡ 3 * length rs
unfolding flat
flat_length [] = refl
flat_length (r ∷ rs) = omega (arith, length-append (flat rs) (r.literal ∷ pos r.level ∷ pos r.reason ∷ []), flat_length rs)

pub rows_size : (w : List ℕ) (n k : ℕ) → length (flat (rows_from w n k)) ≡ 3 * k
rows_size w n k = omega (arith, flat_length (rows_from w n k), rows_length w n k)

abbrev pub Written : List ℕ → ℕ → ℕ → List ℤ → List ℤ → Type 0
Written w n k old new = new ≡ flat (rows_from w n k) ++ drop (3 * k) old

pub none_written : (w : List ℕ) (n : ℕ) (old : List ℤ) → Written w n 0 old old
unfolding rows_from flat
none_written w n old = refl

pub written_length : (w : List ℕ) (n k : ℕ) (old new : List ℤ) → 3 * k ≤ length old → Written w n k old new → length new ≡ length old
written_length w n k old new h e =
    ap length e ∙ length-append (flat (rows_from w n k)) (drop (3 * k) old) ∙ omega (arith, rows_size w n k, length-drop (3 * k) old)

module _ (w : List ℕ) (n k : ℕ) (old new : List ℤ) (h : 3 * k + 3 ≤ length old) (e : Written w n k old new) where
  abbrev front : List ℤ
  front = flat (rows_from w n k)

  front_kept : take (3 * k) new ≡ front
  front_kept = ap (take (3 * k)) e ∙ take_at front (drop (3 * k) old) (3 * k) (rows_size w n k)

  rest_kept : drop (3 * k + 3) new ≡ drop (3 * k + 3) old
  rest_kept =
      ap (drop (3 * k + 3)) e
      ∙ ap {A = ℕ} (λ m. drop (m + 3) (front ++ drop (3 * k) old)) (sym (rows_size w n k))
      ∙ drop-append-add front (drop (3 * k) old) 3
      ∙ drop-drop 3 (3 * k) old

  -- the numbers of row k
  abbrev numbers : List ℤ
  numbers = (row_at w n k).literal ∷ pos (row_at w n k).level ∷ pos (row_at w n k).reason ∷ []

  pub row_written : {l : ℤ} {v r : ℕ} → l ≡ (row_at w n k).literal → v ≡ (row_at w n k).level → r ≡ (row_at w n k).reason
      → Written w n (k + 1) old (take (3 * k) new ++ (l ∷ pos v ∷ pos r ∷ []) ++ drop (3 * k + 3) new)
  unfolding rows_from flat
  row_written same level reason =
      let more : k + 1 ≡ suc k = omega arith in
      let size : 3 * k + 3 ≡ 3 * suc k = omega arith in
      rw (same, level, reason)
      (ap {A = List ℤ} (λ xs. xs ++ numbers ++ drop (3 * k + 3) new) front_kept
      ∙ ap {A = List ℤ} (λ xs. front ++ numbers ++ xs) rest_kept
      ∙ ap {A = ℕ} (λ m. front ++ numbers ++ drop m old) size
      ∙ ap {A = ℕ} (λ m. flat (rows_from w n m) ++ drop (3 * m) old) (sym more))
