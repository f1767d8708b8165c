-- The `t` lines of a listed trail, three numbers each, are those of its rows: what the console prints of a trail is what the OPB program does.
use mathlib.Core.Path.{◌≡◌, refl, sym, ap, ap₂, ◌∙◌}
use mathlib.Core.List.{List, [], ◌∷◌, ◌++◌, append_assoc}
use Prim.Native.Nat.{ℕ, ◌+◌, ◌*◌, ◌/◌}
use native.Mathlib.Omega.{arith}
use lib.ListN.{length, drop}
use lib.Seq.{take_at, get_or-append-add}
use lib.IntN.{ℤ, pos}
use Rattle.numbers.specs.Text.{bytes, decimal}
use Rattle.book.specs.Rows.{Row, flat}
use Rattle.book.specs.Table.{listed, reported, returned_by, list_after}
use Rattle.reports.proofs.Rows.{flat_length}
use Rattle.columns.specs.Indexed.{nth}
use Rattle.answer_lines.specs.Lines as answers
use Rattle.answer_lines.specs.Lines.{trail_lines}
use Rattle.listing_lines.specs.Lines.{row_line, row_lines}

behind : (xs ys : List ℤ) (k i : ℕ) → length xs ≡ k → nth (xs ++ ys) (k + i) ≡ nth ys i
behind xs ys k i e = ap (λ (m : ℕ). nth (xs ++ ys) (m + i)) (sym e) ∙ get_or-append-add xs ys i (pos 0)

rows_flat : (rs : List Row) (rest : List ℤ) → answers.row_lines (flat rs ++ rest) (length rs) ≡ row_lines rs
unfolding flat row_lines answers.row_lines
rows_flat [] rest = refl
rows_flat (r ∷ rs) rest =
    let t : List ℤ = r.literal ∷ pos r.level ∷ pos r.reason ∷ [] in
    let k = length rs in
    let xs = flat rs ++ (t ++ rest) in
    let e : 3 * k ≡ 3 * k + 0 = omega arith in
    let first : nth xs (3 * k) ≡ r.literal = ap (nth xs) e ∙ behind (flat rs) (t ++ rest) (3 * k) 0 (flat_length rs) in
    ap (λ (ys : List ℤ). answers.row_lines ys k ++ answers.row_line (nth ys (3 * k)) (nth ys (3 * k + 1)) (nth ys (3 * k + 2))) (append_assoc (flat rs) t rest)
    ∙ ap (λ (z : ℤ). answers.row_lines xs k ++ answers.row_line z (nth xs (3 * k + 1)) (nth xs (3 * k + 2))) first
    ∙ ap₂ (λ (y z : ℤ). answers.row_lines xs k ++ answers.row_line r.literal y z)
    (behind (flat rs) (t ++ rest) (3 * k) 1 (flat_length rs)) (behind (flat rs) (t ++ rest) (3 * k) 2 (flat_length rs))
    ∙ ap (λ (ls : List ℕ). ls ++ row_line r) (rows_flat rs (t ++ rest))

pub trail_told : (rs : List Row) (old : List ℤ)
    → trail_lines (returned_by (reported (listed (flat rs)))) (list_after (reported (listed (flat rs))) old) ≡ row_lines rs ++ bytes "trail " ++ decimal (length rs) ++ bytes "\n"
trail_told rs old =
    let n = length (flat rs) in
    let rest = drop n old in
    let third : n / 3 ≡ length rs = omega (arith, flat_length rs) in
    ap₂ (λ (i j : ℕ). answers.row_lines (flat rs ++ rest) i ++ bytes "trail " ++ decimal j ++ bytes "\n")
    (ap (λ (ls : List ℤ). length ls / 3) (take_at (flat rs) rest n refl) ∙ third) third
    ∙ ap (λ (ls : List ℕ). ls ++ bytes "trail " ++ decimal (length rs) ++ bytes "\n") (rows_flat rs rest)
