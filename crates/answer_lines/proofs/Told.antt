-- The lines of the code's answers are those of the table's: a call hands back what `returned_by` says of the table's answer, and the list that
-- the table has.
use mathlib.Core.Path.{◌≡◌, refl, ap, ◌∙◌}
use mathlib.Core.List.{List, ◌++◌}
use Prim.Native.Nat.{ℕ}
use lib.ListN.{length, drop}
use lib.Seq.{take_at}
use lib.IntN.{ℤ}
use borrow.Author.Tests.{ne_eqb}
use Rattle.std.specs.Prelude.{Result, Ok, Err, IfOk}
use Rattle.numbers.specs.Text.{bytes}
use Rattle.book.specs.Table.{Answer, listed, reported, returned_by, list_after}
use Rattle.propagate.specs.declared.Propagated.{Propagated}
use Rattle.propagate.specs.declared.Propagated.TheVariants.{Still, Conflict}
use Rattle.calls.specs.declared.Refusal.{Refusal}
use Rattle.calls.specs.declared.Refusal.TheVariants.{NotWhole, NoAtom, OnTrail, NotOnTrail, Given, HighestLevel, LevelAbove, NoSentence, NoConflict, TooShort}
use Rattle.calls.specs.Calls.{refused_returned}
use Rattle.calls.specs.Refusals.{code_of, value_of}
use Rattle.propagate.specs.Propagate.{stop_returned, propagated_returned, SentenceNamed}
use Rattle.answer_lines.specs.Lines.{refused_line, stopped_line, propagated_line, stop_line, numbers, list_line}

on_paper : (r : Propagated) → SentenceNamed r → stopped_line r ≡ stop_line (stop_returned r)
on_paper (Still n c) d = refl
on_paper (Conflict k n c) d = rw (ne_eqb k.0 0 d)

pub stopped_told : (r : Propagated) (a : Answer) → stop_returned r ≡ returned_by a → SentenceNamed r → stopped_line r ≡ stop_line (returned_by a)
stopped_told r a e d = on_paper r d ∙ ap stop_line e

refused_on_paper : (e : Refusal) → refused_line (code_of e) (value_of e) ≡ stop_line (refused_returned e)
refused_on_paper NotWhole = refl
refused_on_paper NoAtom = refl
refused_on_paper OnTrail = refl
refused_on_paper NotOnTrail = refl
refused_on_paper Given = refl
refused_on_paper HighestLevel = refl
refused_on_paper LevelAbove = refl
refused_on_paper NoSentence = refl
refused_on_paper NoConflict = refl
refused_on_paper (TooShort n) = refl

pub propagated_told : (r : Result Propagated Refusal) (a : Answer) → propagated_returned r ≡ returned_by a → IfOk r SentenceNamed
    → propagated_line r ≡ stop_line (returned_by a)
propagated_told (Ok r) a e d = stopped_told r a e d
propagated_told (Err r) a e d = refused_on_paper r ∙ ap stop_line e

-- the whole list of the table, and nothing that stood behind it
pub list_told : (name : List ℕ) (ls old : List ℤ) → list_line name (returned_by (reported (listed ls))) (list_after (reported (listed ls)) old) ≡ name
    ++ numbers ls ++ bytes "\n"
list_told name ls old = ap (λ (l : List ℤ). name ++ numbers l ++ bytes "\n") (take_at ls (drop (length ls) old) (length ls) refl)
