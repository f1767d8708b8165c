-- One row more, behind the first i.
use mathlib.Core.Path.{sym, ap}
use mathlib.Core.List.{List}
use Prim.Native.Nat.{ℕ, ◌+◌, ◌*◌}
use native.Mathlib.Numerals.{add-one}
use lib.ListN.{get_or}
use lib.IntN.{ℤ, pos}
use mir.Syntax.{w64}
use mir.Val.{to_z, of_z, SFits}
use mir.ValLaws.{to_z-of_z}
use Rattle.pages.specs.declared.Page.{Page}
use Rattle.pages.specs.Page.{Puts}
use Rattle.pages.proofs.Laws.{nothing, then, puts_as}
use Rattle.answer_lines.specs.Lines.{row_line, row_lines}

pub no_rows : (xs : List ℤ) (p : Page) → Puts p p (row_lines xs 0)
unfolding row_lines
no_rows xs p = nothing p

abbrev nth : List ℤ → ℕ → ℤ
nth xs i = get_or xs i (pos 0)

-- a number as its callee gets it, which is the same number
abbrev sent : ℤ → ℤ
sent z = to_z w64 (of_z w64 z)

row_put : {p q : Page} {x y z : ℤ} → SFits w64 x → SFits w64 y → SFits w64 z → Puts p q (row_line (sent x) (sent y) (sent z)) → Puts p q (row_line x y z)
row_put {x = x} {y = y} {z = z} f g h w = rw (to_z-of_z w64 x f, to_z-of_z w64 y g, to_z-of_z w64 z h) at w

pub row_more :
    {p q s : Page} (xs : List ℤ) (i : ℕ) → SFits w64 (nth xs (3 * i)) → SFits w64 (nth xs (3 * i + 1)) → SFits w64 (nth xs (3 * i + 2)) → Puts p q (row_lines xs i) →
    Puts q s (row_line (sent (nth xs (3 * i))) (sent (nth xs (3 * i + 1))) (sent (nth xs (3 * i + 2)))) →
    Puts p s (row_lines xs (i + 1))
unfolding row_lines
row_more xs i f g h w v = puts_as (ap (row_lines xs) (sym (add-one i))) (then w (row_put f g h v))
