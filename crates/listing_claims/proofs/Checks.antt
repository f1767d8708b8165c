-- The output computed: document 01's example, a conflict, negative literals and bounds, an `=`, a refusal of the text and one of load.
use mathlib.Core.Path.{◌≡◌, refl}
use mathlib.Core.List.{List, [], ◌∷◌}
use Prim.Native.Nat.{ℕ}
use Prim.Native.String as text
use Rattle.decide.specs.Below.{sum_first}
use Rattle.meaning.specs.Meaning.{Each}
use Rattle.meaning.specs.Merge.{turned_all, freed_all, put, collect, nonzero}
use Rattle.meaning.specs.Computed.{gather, standing_of, extreme, first_due, first_said}
use Rattle.book.specs.Rows.{numbered, any}
use Rattle.book.specs.Table.{first_to_speak, run, reply}
use Rattle.columns.specs.Columns.{paired, written_from, sentences_in}
use Rattle.columns.specs.Refusals.{some_entry, both_signs, all_refusals, first_refusal}
use Rattle.opb_grammar.specs.Grammar.{more, long_fault, v_fault, c_fault, variable_fault, behind, expect, begin, between, relation_at_least, relation_equal, finish, transition, ends}
use Rattle.opb_text.specs.Text.{go, reading, rows_from, all_entries}
use Rattle.numbers.specs.Text.{bytes, decimal_within}
use Rattle.listing_lines.specs.Lines.{row_lines, bound_lines}
use Rattle.listing_heads.specs.Heads.{heads_given}
use Rattle.listing.specs.Output.{output}

pub record Printing : Type 0 where
  pub input : List ℕ
  pub prints : List ℕ

abbrev printing : text.String → text.String → Printing
printing i p = record { input = bytes i; prints = bytes p }

abbrev pub printings : List Printing
printings =
    printing "* #variable= 3 #constraint= 2\n+2 x1 +3 x2 -1 x3 >= 4 ;\n+1 x1 +1 x3 >= 1 ;\n" "still 2\nt 4 0 0\nt 5 0 0\nt 1 0 1\nt 2 0 1\nb 1 4 5\nb 2 1 2\n"
    ∷ printing "* #variable= 1 #constraint= 1\n1 x1 >= 1000000000000 ;\n" "conflict 0 1\nt 2 0 0\nb 1 0 1\n"
    ∷ printing "* #variable= 1 #constraint= 1\n-3 x1 = 0 ;\n" "still 1\nt 2 0 0\nt -1 0 1\nb 1 0 0\nb 2 0 0\n"
    ∷ printing "* #variable= 1 #constraint= 1\n-3 x1 >= -12 ;\n" "still 0\nt 2 0 0\nb 1 -3 0\n"
    ∷ printing "* #variable= 0 #constraint= 1\n" "refused 21 0\n"
    ∷ printing "* #variable= 1 #constraint= 1\n1000000001 x1 >= 1 ;\n" "refused 5 1\n"
    ∷ []

abbrev Right : Printing → Type 0
Right p = output p.input ≡ p.prints

pub printings_right : Each Right printings
unfolding output row_lines bound_lines heads_given decimal_within go reading rows_from all_entries more long_fault v_fault c_fault variable_fault behind expect begin between relation_at_least relation_equal finish transition ends paired written_from sentences_in some_entry both_signs all_refusals first_refusal sum_first turned_all freed_all put collect nonzero gather standing_of extreme first_due first_said numbered any first_to_speak run reply
printings_right = (refl, (refl, (refl, (refl, (refl, (refl, tt))))))
