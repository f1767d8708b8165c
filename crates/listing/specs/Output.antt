-- Document 01's section 'The OPB program', from the bytes of standard input to the bytes of standard output. Reading the text is `reading`,
-- load's answer `load_answer`, and every other answer is the table's (`reply`), for sentences judged by the computed tests.
use Rattle.std.specs.Prelude.{false, cond, ◌≡◌, List, [], ◌++◌, ℕ, suc, ◌+◌, ◌*◌, length, eqb}
use Rattle.types.specs.Limits.{document}
use Rattle.book.specs.Table.{propagate, a_step, Judged, returned_by, State, reply, following_call}
use Rattle.book.specs.Book.{judged_all, rules_of}
use Rattle.columns.specs.Columns.{Written, sentences_in}
use Rattle.columns.specs.declared.Answer as load
use Rattle.columns.specs.Refusals.{load_answer}
use Rattle.listing_heads.specs.Heads.{heads_given}
use Rattle.listing_lines.specs.Lines.{state_lines}
use Rattle.answer_lines.specs.Lines.{refused_line, stop_line}
use Rattle.opb_grammar.specs.Grammar.{fault_number}
use Rattle.opb_text.specs.Text.{Reading, reading, rows_from, columns_of}
use Rattle.opb_text.specs.Text as text
use Rattle.pages.specs.Page.{Holds}

-- ---- lines: `refused_line` for 'refusals, printed `refused N k`' and 'load's refusals print with their sentence'; `stop_line` for 'Line 1:
-- `still` and the literals derived, or `conflict`, that count and the sentence'; `row_Line` and `bound_line` for the others

-- ---- the listing

-- propagate's answer, and 'the other lines follow either'
abbrev pub listing : State → List ℕ
listing q = stop_line (returned_by (reply q (a_step propagate)).answer) ++ state_lines (following_call q (a_step propagate))

-- ---- the program

-- the work area that the program lends: enough for every theory within the limits
abbrev pub area_words : ℕ
area_words = 4 * document.atoms + 8 * document.sentences + 2 * document.entries

-- the sentences, judged by the computed tests; any judgement by full assignments gives the same bytes (`listing_claims/proofs/Judging`)
abbrev pub judged_sentences : List Written → List Judged
judged_sentences xs = judged_all (rules_of (sentences_in xs))

-- 'Load leaves an empty trail at level 0 and derives nothing.'
abbrev pub loaded : ℕ → List Judged → State
loaded n js = record { broken = false; atoms = n; levels = document.levels; sentences = js; level = 0; rows = [] }

-- V variables, C constraints, their sentences, and load's answer
abbrev pub answered : ℕ → ℕ → List Judged → load.Answer → List ℕ
answered v c js a = cond (eqb a.code 0) (listing (heads_given (loaded (v + c) js) v c)) (refused_line a.code a.sentence.0)

abbrev pub printed : Reading → List ℕ
printed (text.refused f k) = refused_line (fault_number f) k
printed (text.taken v cs) =
    let xs = rows_from (suc v) cs in answered v (length cs) (judged_sentences xs) (load_answer document area_words (v + length cs) (columns_of xs))

unfoldable pub output : List ℕ → List ℕ
output input = printed (reading input)

-- no output is longer (`listing_claims/proofs/Fits`): a row has at most 14 bytes, a bound 36, and the first line 18
abbrev pub page_bytes : ℕ
page_bytes = document.atoms * 14 + document.sentences * 36 + 18

-- what the program does with a lent page: it holds the output, or is too short, and `r` is the output's length or past the page's end
pub record Prints (input old new : List ℕ) (r : ℕ) : Type 0 where
  pub size : length new ≡ length old
  pub holds : Holds new r (output input)
