-- How long a line can be.
use mathlib.Core.Path.{◌≡◌}
use Prim.Native.Nat.{ℕ, ◌≤◌, ◌<◌}
use native.Mathlib.Omega.{arith}
use lib.ListN.{length, length-append}
use lib.IntN.{nat_abs}
use Rattle.book.specs.Rows.{Row}
use Rattle.book.specs.Table.{Returned}
use Rattle.pages.proofs.Lengths.{decimal_short, decimal_length, signed_length}
use Rattle.answer_lines.specs.Lines.{refused_line, still_line, conflict_line}
use Rattle.listing_lines.specs.Lines.{row_line, bound_line}

pub refused_length : (c n : ℕ) → length (refused_line c n) ≤ 50
refused_length c n = simp length-append (omega (arith, decimal_short c, decimal_short n))

pub still_length : (n : ℕ) → n ≤ 1024 → length (still_line n) ≤ 18
still_length n h = simp length-append (omega (arith, decimal_length 4 n (omega arith) (omega arith)))

pub conflict_length : (n k : ℕ) → n ≤ 1024 → k ≤ 256 → length (conflict_line n k) ≤ 18
conflict_length n k h g =
    simp length-append (omega (arith, decimal_length 4 n (omega arith) (omega arith), decimal_length 3 k (omega arith) (omega arith)))

pub row_length : (r : Row) → nat_abs r.literal ≤ 1024 → r.level ≡ 0 → r.reason ≤ 256 → length (row_line r) ≤ 14
row_length r h e g =
    simp length-append
    (omega (
      arith,
      signed_length 4 r.literal (omega arith) (omega arith),
      decimal_length 1 r.level (omega arith) (omega arith),
      decimal_length 3 r.reason (omega arith) (omega arith),
    ))

-- a number of at most 13 digits and its sign
pub bound_length : (k : ℕ) (p : Returned) → k ≤ 256 → nat_abs p.least < 10000000000000 → nat_abs p.greatest < 10000000000000 → length (bound_line k p) ≤ 36
bound_length k p h f g =
    simp length-append
    (omega (
      arith,
      decimal_length 3 k (omega arith) (omega arith),
      signed_length 13 p.least (omega arith) (omega arith),
      signed_length 13 p.greatest (omega arith) (omega arith),
    ))
