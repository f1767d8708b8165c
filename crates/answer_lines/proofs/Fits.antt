-- No line is longer than the page that it is put on, whatever the numbers are.
use mathlib.Core.Bool.{Bool, true, false, cond}
use mathlib.Core.List.{List, [], ◌∷◌, ◌++◌}
use Prim.Native.Nat.{ℕ, zero, suc, ◌+◌, ◌*◌, ◌/◌, ◌≤◌}
use native.Mathlib.Omega.{arith}
use lib.ListN.{length, take, length-append, length-take}
use lib.IntN.{ℤ}
use Rattle.std.specs.Prelude.{Result, Ok, Err}
use lib.Dec.{eqb}
use Rattle.numbers.specs.Text.{bytes, decimal, signed_decimal}
use Rattle.book.specs.Table.{Returned}
use Rattle.columns.specs.Indexed.{nth}
use Rattle.columns.specs.declared.Answer as load
use Rattle.propagate.specs.declared.Propagated.{Propagated}
use Rattle.propagate.specs.declared.Propagated.TheVariants.{Still, Conflict}
use Rattle.calls.specs.declared.Refusal.{Refusal}
use Rattle.calls.specs.Refusals.{code_of, value_of}
use Rattle.pages.proofs.Lengths.{decimal_short, signed_short}
use Rattle.answer_lines.specs.Lines.{refused_line, plan_line, done_line, propagated_line, bound, bounds_line, numbers, list_line, row_line, row_lines, trail_lines, line_bytes, list_bytes, trail_bytes}

refused_fits : (c n : ℕ) → length (refused_line c n) ≤ 50
refused_fits c n = simp length-append (omega (arith, decimal_short c, decimal_short n))

either : (b : Bool) (xs ys : List ℕ) (n : ℕ) → length xs ≤ n → length ys ≤ n → length (cond b xs ys) ≤ n
either true xs ys n h g = h
either false xs ys n h g = g

pub plan_fits : (a : load.Answer) → length (plan_line a) ≤ line_bytes
plan_fits a = simp length-append (omega (arith, decimal_short a.code, decimal_short a.sentence.0))

pub done_fits : (name : List ℕ) (p : Returned) → length name ≤ 9 → length (done_line name p) ≤ line_bytes
done_fits name p h = simp length-append (omega (arith, decimal_short p.code, decimal_short 0))

pub propagated_fits : (a : Result Propagated Refusal) → length (propagated_line a) ≤ line_bytes
propagated_fits (Ok (Still n c)) = simp length-append (omega (arith, decimal_short n))
propagated_fits (Ok (Conflict k n c)) = simp length-append (omega (arith, decimal_short n, decimal_short k.0))
propagated_fits (Err e) = omega (arith, refused_fits (code_of e) (value_of e))

bound_fits : (mark : ℕ) (z : ℤ) → length (bound mark z) ≤ 21
bound_fits mark z = either (eqb mark 1) (bytes "-inf") (cond (eqb mark 2) (bytes "inf") (signed_decimal z)) 21 (omega arith)
    (either (eqb mark 2) (bytes "inf") (signed_decimal z) 21 (omega arith) (signed_short z))

pub bounds_fits : (p : Returned) → length (bounds_line p) ≤ line_bytes
bounds_fits p =
    either (eqb p.code 0) (bytes "bounds " ++ bound p.least_mark p.least ++ bytes " " ++ bound p.greatest_mark p.greatest
    ++ bytes "\n")
    (refused_line p.code p.value) line_bytes
    (simp length-append (omega (arith, bound_fits p.least_mark p.least, bound_fits p.greatest_mark p.greatest)))
    (omega (arith, refused_fits p.code p.value))

numbers_fit : (zs : List ℤ) → length (numbers zs) ≤ length zs * 22
unfolding numbers
numbers_fit [] = omega arith
numbers_fit (z ∷ zs) = simp length-append (omega (arith, signed_short z, numbers_fit zs))

pub list_fits : (name : List ℕ) (p : Returned) (list : List ℤ) → length name ≤ 49 → length (list_line name p list) ≤ list_bytes (length list)
list_fits name p list h =
    either (eqb p.code 0) (name ++ numbers (take p.value list) ++ bytes "\n") (refused_line p.code p.value) (list_bytes (length list))
    (simp length-append (omega (arith, numbers_fit (take p.value list), length-take p.value list)))
    (omega (arith, refused_fits p.code p.value))

row_fits : (a b c : ℤ) → length (row_line a b c) ≤ 68
row_fits a b c = simp length-append (omega (arith, signed_short a, signed_short b, signed_short c))

rows_fit : (list : List ℤ) (k : ℕ) → length (row_lines list k) ≤ k * 68
unfolding row_lines
rows_fit list zero = omega arith
rows_fit list (suc k) =
    let r = row_line (nth list (3 * k)) (nth list (3 * k + 1)) (nth list (3 * k + 2)) in
    omega (arith, length-append (row_lines list k) r, rows_fit list k, row_fits (nth list (3 * k)) (nth list (3 * k + 1)) (nth list (3 * k + 2)))

pub trail_fits : (p : Returned) (list : List ℤ) → length (trail_lines p list) ≤ trail_bytes (length list)
trail_fits p list =
    let k = length (take p.value list) / 3 in
    either (eqb p.code 0) (row_lines list k ++ bytes "trail " ++ decimal (p.value / 3) ++ bytes "\n") (refused_line p.code p.value)
    (trail_bytes (length list))
    (simp length-append (omega (arith, rows_fit list k, length-take p.value list, decimal_short (p.value / 3))))
    (omega (arith, refused_fits p.code p.value))
