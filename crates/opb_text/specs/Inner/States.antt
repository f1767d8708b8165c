-- What the reader's inner functions rest on: the answer from the last state, and what is known before the columns are filled.
use Rattle.std.specs.Prelude.{◌≡◌, cond, Option, Some, None, Result, Ok, Err, List, ℕ, eqb, ltb}
use Rattle.columns.specs.Columns.{Columns}
use Rattle.opb_grammar.specs.declared.State.{State}
use Rattle.opb_grammar.specs.declared.Fault.{Fault}
use Rattle.opb_grammar.specs.declared.Fault.TheVariants.{Count}
use Rattle.opb_grammar.specs.Grammar.{ends}
use Rattle.opb_text.specs.declared.Read.{Read}
use Rattle.opb_text.specs.declared.Refusal.{Refusal}
use Rattle.opb_text.specs.declared.Refusal.TheVariants as refusal
use Rattle.opb_text.specs.Text.{reading, read_of, sentence_room, entry_room}

-- ---- the answer at the end of the text: k constraints are complete, and there is room for so many sentences and entries

-- the counts stand for the sentences and entries of the text
abbrev pub counted : ℕ → ℕ → State → ℕ → Result Read Refusal
counted sentences entries s k =
    cond (ltb sentences s.counts.sentences) (Err (refusal.Columns s.counts.sentences))
    (cond (ltb entries s.counts.entries) (Err (refusal.Columns s.counts.entries))
    (Ok (record { variables = s.sizes.variables; constraints = k; sentences = s.counts.sentences; entries = s.counts.entries })))

abbrev pub answer_to : ℕ → ℕ → State → ℕ → Option Fault → Result Read Refusal
answer_to sentences entries s k None = cond (eqb k s.sizes.constraints) (counted sentences entries s k) (Err (refusal.Text Count k))
answer_to sentences entries s k (Some f) = Err (refusal.Text f k)

unfoldable pub answer_at : ℕ → ℕ → State → ℕ → Result Read Refusal
answer_at sentences entries s k = answer_to sentences entries s k (ends s.phase s)

-- ---- filling

-- the text is taken, and there is room
pub record Decided (text : List ℕ) (old : Columns) (r : Read) : Type 0 where
  pub answer : Ok r ≡ read_of (sentence_room old) (entry_room old) (reading text)
