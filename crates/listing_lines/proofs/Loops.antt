-- One row or one bound more, behind the first i.
use mathlib.Core.Path.{◌≡◌, sym, ap, ap₂, ◌∙◌}
use mathlib.Core.List.{List, ◌++◌}
use Prim.Native.Nat.{ℕ, suc, ◌+◌}
use native.Mathlib.Numerals.{add-one}
use lib.IntN.{ℤ}
use mir.Syntax.{w64}
use mir.Val.{to_z, of_z, SFits}
use mir.ValLaws.{to_z-of_z}
use Rattle.std.specs.Prelude.{Result}
use Rattle.types.specs.declared.Limits.{Limits}
use Rattle.numbers.specs.Words.{literal_of}
use Rattle.book.specs.Rows.{Row, a_row}
use Rattle.book.specs.Table.{State, Returned, bounds, a_report, returned_by, reply}
use Rattle.area.specs.Layout.{literal_at, row_at, rows_from}
use Rattle.calls.specs.Calls.{area_state, bounds_returned}
use Rattle.calls.specs.declared.Bounds.{Bounds}
use Rattle.calls.specs.declared.Refusal.{Refusal}
use Rattle.pages.specs.declared.Page.{Page}
use Rattle.pages.specs.Page.{Puts}
use Rattle.pages.proofs.Laws.{nothing, then, puts_as}
use Rattle.listing_lines.specs.Lines.{row_line, bound_line, row_lines, bound_lines}

pub no_rows : (w : List ℕ) (n : ℕ) (p : Page) → Puts p p (row_lines (rows_from w n 0))
unfolding row_lines rows_from
no_rows w n p = nothing p

pub no_bounds : (q : State) (p : Page) → Puts p p (bound_lines q 0)
unfolding bound_lines
no_bounds q p = nothing p

same_row : {l l' : ℤ} {v v' s s' : ℕ} → l ≡ l' → v ≡ v' → s ≡ s' → a_row l v s ≡ a_row l' v' s'
same_row a b c = cc

pub row_more :
    {p q t : Page} (w : List ℕ) (n i : ℕ) {z : ℤ} {x v s : ℕ} → SFits w64 z → z ≡ literal_of x → x ≡ literal_at w n i → v ≡ (row_at w n i).level →
    s ≡ (row_at w n i).reason → Puts p q (row_lines (rows_from w n i)) → Puts q t (row_line (a_row (to_z w64 (of_z w64 z)) v s)) →
    Puts p t (row_lines (rows_from w n (i + 1)))
unfolding row_lines rows_from
row_more w n i {z} f e x l m g h =
    puts_as
    (ap (λ (y : Row). row_lines (rows_from w n i) ++ row_line y) (same_row (to_z-of_z w64 z f ∙ e ∙ ap literal_of x) l m)
    ∙ ap (λ (k : ℕ). row_lines (rows_from w n k)) (sym (add-one i)))
    (then g h)

pub bound_more :
    {p q t : Page} (lim : Limits) (w : List ℕ) (k : ℕ) (b : Result Bounds Refusal) →
    bounds_returned b ≡ returned_by (reply (area_state lim w) (a_report (bounds (k + 1)) 0)).answer →
    Puts p q (bound_lines (area_state lim w) k) → Puts q t (bound_line (k + 1) (bounds_returned b)) →
    Puts p t (bound_lines (area_state lim w) (k + 1))
unfolding bound_lines
bound_more lim w k b e g h =
    let s : bounds_returned b ≡ returned_by (reply (area_state lim w) (a_report (bounds (suc k)) 0)).answer =
    e ∙ ap (λ (m : ℕ). returned_by (reply (area_state lim w) (a_report (bounds m) 0)).answer) (add-one k) in
    puts_as
    (ap₂ (λ (m : ℕ) (x : Returned). bound_lines (area_state lim w) k ++ bound_line m x) (add-one k) s
    ∙ ap (λ (m : ℕ). bound_lines (area_state lim w) m) (sym (add-one k)))
    (then g h)
