-- Lines computed: numbers and infinite ones, a refusal, a list, a trail.
use mathlib.Core.Path.{◌≡◌, refl}
use mathlib.Core.List.{List, [], ◌∷◌}
use Prim.Native.Nat.{ℕ}
use Prim.Native.String as text
use lib.IntN.{pos, negsuc}
use Rattle.numbers.specs.Extended.{below, at, above}
use Rattle.numbers.specs.Text.{bytes, decimal_within}
use Rattle.meaning.specs.Meaning.{Each}
use Rattle.book.specs.Table.{refused, done, still, conflict_in, bounds_of, listed, reported, returned_by}
use Rattle.answer_lines.specs.Lines.{done_line, stop_line, bounds_line, numbers, list_line, row_lines, trail_lines}

pub record Printing : Type 0 where
  pub line : List ℕ
  pub prints : List ℕ

abbrev printing : List ℕ → text.String → Printing
printing l p = record { line = l; prints = bytes p }

abbrev pub printings : List Printing
printings =
    printing (done_line (bytes "give ") (returned_by done)) "give 0 0\n"
    ∷ printing (done_line (bytes "back ") (returned_by (refused 15 0))) "back 15 0\n"
    ∷ printing (stop_line (returned_by (still 12))) "still 12\n"
    ∷ printing (stop_line (returned_by (conflict_in 256 1024))) "conflict 1024 256\n"
    ∷ printing (stop_line (returned_by (refused 9 0))) "refused 9 0\n"
    ∷ printing (bounds_line (returned_by (reported (bounds_of (at (negsuc 4)) (at (pos 1000000000000)))))) "bounds -5 1000000000000\n"
    ∷ printing (bounds_line (returned_by (reported (bounds_of below above)))) "bounds -inf inf\n"
    ∷ printing (bounds_line (returned_by (reported (bounds_of above above)))) "bounds inf inf\n"
    ∷ printing (bounds_line (returned_by (refused 16 0))) "refused 16 0\n"
    ∷ printing (list_line (bytes "why") (returned_by (reported (listed (negsuc 1 ∷ negsuc 2 ∷ [])))) (negsuc 1 ∷ negsuc 2 ∷ pos 7 ∷ [])) "why -2 -3\n"
    ∷ printing (list_line (bytes "origin") (returned_by (reported (listed []))) (pos 7 ∷ [])) "origin\n"
    ∷ printing (list_line (bytes "why") (returned_by (refused 18 3)) (pos 7 ∷ [])) "refused 18 3\n"
    ∷ printing (trail_lines (returned_by (reported (listed (pos 3 ∷ pos 0 ∷ pos 0 ∷ negsuc 1 ∷ pos 2 ∷ pos 1 ∷ []))))
    (pos 3 ∷ pos 0 ∷ pos 0 ∷ negsuc 1 ∷ pos 2 ∷ pos 1 ∷ pos 9 ∷ [])) "t 3 0 0\nt -2 2 1\ntrail 2\n"
    ∷ printing (trail_lines (returned_by (reported (listed []))) []) "trail 0\n"
    ∷ []

abbrev Right : Printing → Type 0
Right p = p.line ≡ p.prints

pub printings_right : Each Right printings
unfolding numbers row_lines decimal_within
printings_right = (refl, (refl, (refl, (refl, (refl, (refl, (refl, (refl, (refl, (refl, (refl, (refl, (refl, (refl, tt))))))))))))))
