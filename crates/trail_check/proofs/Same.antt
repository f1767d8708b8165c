-- The words of a trail are determined by its rows and places: each is 0, a value word of the rows, or made of one row's fields.
use mathlib.Core.Path.{◌≡◌, sym, ◌∙◌, ap}
use mathlib.Core.Logic.{⊎_elim}
use mathlib.Core.List.{List}
use Prim.Native.Nat.{ℕ, zero, suc, ◌+◌, ◌-◌, ◌*◌, ◌/◌, ◌%◌, ◌<◌, ◌≤◌}
use native.Mathlib.Omega.{arith}
use native.Mathlib.Nat.{eq-or-lt_of_le}
use Rattle.numbers.specs.Words.{literal_word}
use Rattle.numbers.proofs.Words.{cases, literal_word_of}
use Rattle.book.specs.Rows.{Row}
use Rattle.area.specs.Layout.{word, value_at, literal_at, cause_at, row_at, place_at, rows_from, value_word}
use Rattle.trail_check.specs.Trail.{TrailOk}
use Rattle.trail_check.proofs.Shown.{literals}

pub rows_same : (w w' : List ℕ) (n k : ℕ) → rows_from w n k ≡ rows_from w' n k → (i : ℕ) → i < k → row_at w n i ≡ row_at w' n i
unfolding rows_from
rows_same w w' n zero e i l = let b : ⊥ = omega arith in absurd b
rows_same w w' n (suc k) e i l = ⊎_elim {A = i ≡ k} {B = i < k}
    (λ (q : i ≡ k). ap (row_at w n) q ∙ first ∙ ap (row_at w' n) (sym q))
    (λ (q : i < k). rows_same w w' n k rest i q) (eq-or-lt_of_le (omega arith))
  where
    first : row_at w n k ≡ row_at w' n k
    first = cc

    rest : rows_from w n k ≡ rows_from w' n k
    rest = cc

-- a mark is its three fields
two_steps : (x : ℕ) → x / 65536 / 65536 ≡ x / 4294967296
two_steps x = omega arith

by_two : (x y : ℕ) → x % 65536 ≡ y % 65536 → x / 65536 ≡ y / 65536 → x ≡ y
by_two x y e f = omega arith

pub mark_same : (x y : ℕ) → x % 65536 ≡ y % 65536 → x / 65536 % 65536 ≡ y / 65536 % 65536 → x / 4294967296 ≡ y / 4294967296 → x ≡ y
mark_same x y e f g = by_two x y e (by_two (x / 65536) (y / 65536) f (two_steps x ∙ g ∙ sym (two_steps y)))

-- a word at i, reached as at + k
pub moved : (w w' : List ℕ) (i at k : ℕ) → at + k ≡ i → word w (at + k) ≡ word w' (at + k) → word w i ≡ word w' i
moved w w' i at k e h = rw e at h

module _ {w w' : List ℕ} {n len level level' : ℕ} (ok : TrailOk w n len level) (ok' : TrailOk w' n len level')
    (rows : rows_from w n len ≡ rows_from w' n len) (places : (i : ℕ) → i < len → place_at w n i ≡ place_at w' n i) where
  literal_same : (i : ℕ) → i < n → literal_at w n i ≡ literal_at w' n i
  literal_same i m = ⊎_elim
      (λ (l : len ≤ i). ok.literals i l m ∙ sym (ok'.literals i l m))
      (λ (l : i < len). sym (literal_word_of (literal_at w n i) (literals ok i l))
      ∙ ap (λ (r : Row). literal_word r.literal) (rows_same w w' n len rows i l) ∙ literal_word_of (literal_at w' n i) (literals ok' i l))
      (cases i len)

  place_same : (i : ℕ) → i < n → cause_at w n i ≡ cause_at w' n i
  place_same i m = ⊎_elim
      (λ (l : len ≤ i). ok.marks i l m ∙ sym (ok'.marks i l m))
      (λ (l : i < len). mark_same (cause_at w n i) (cause_at w' n i)
      (ap (λ (r : Row). r.level) (rows_same w w' n len rows i l))
      (ap (λ (r : Row). r.reason) (rows_same w w' n len rows i l)) (places i l)) (cases i len)

  value_same : (a : ℕ) → 1 ≤ a → a ≤ n → value_at w n a ≡ value_at w' n a
  value_same a low high = ok.values a low high ∙ ap (λ rs. value_word rs a) rows ∙ sym (ok'.values a low high)

  pub same_trail : (i : ℕ) → 1 ≤ i → i < 4 * n → word w i ≡ word w' i
  same_trail i l m = ⊎_elim
      (λ (p : n ≤ i). ⊎_elim
      (λ (q : 2 * n ≤ i). ⊎_elim
      (λ (r : 3 * n ≤ i). moved w w' i (3 * n) (i - 3 * n) (omega arith) (place_same (i - 3 * n) (omega arith)))
      (λ (r : i < 3 * n). moved w w' i (2 * n) (i - 2 * n) (omega arith) (literal_same (i - 2 * n) (omega arith))) (cases i (3 * n)))
      (λ (q : i < 2 * n). moved w w' i (n - 1) (i - (n - 1)) (omega arith) (value_same (i - (n - 1)) (omega arith) (omega arith))) (cases i (2 * n)))
      (λ (p : i < n). ok.front i l p ∙ sym (ok'.front i l p)) (cases i n)
