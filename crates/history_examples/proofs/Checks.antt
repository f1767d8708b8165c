-- What the calls of the examples hand back, computed: the table's answer at the state that is read off the words which the call gets,
-- and 9 where these do not pass the test of wholeness. This stands on the definitions alone.
use mathlib.Core.Path.{◌≡◌, refl}
use mathlib.Core.Bool.{cond}
use mathlib.Core.List.{List, [], ◌∷◌}
use lib.IntN.{ℤ}
use Rattle.types.specs.Limits.{document}
use Rattle.numbers.specs.Words.{unbias, literal_of}
use Rattle.meaning.specs.Computed.{gather, standing_of, extreme, first_due, first_said}
use Rattle.book.specs.Rows.{up_to, pick, causes, row_of, numbered, any, comes_from, in_order, flat}
use Rattle.book.specs.Table.{Answer, refused, Returned, returned_by, list_after, first_to_speak, run, trying, reply}
use Rattle.area.specs.Layout.{rows_from, value_word, entries_of, rules_from, entries_before}
use Rattle.calls.specs.Calls.{area_state}
use Rattle.history_examples.specs.Examples.{Turn, m11_turns, m12_turns}
use Rattle.history_examples.proofs.Decide.{whole_test}

-- the paper's numbers, and the lent list after the call
pub record HandedOver : Type 0 where
  pub numbers : Returned
  pub list : List ℤ

abbrev pub handed : List Turn → List HandedOver
handed [] = []
handed (x ∷ xs) = record { numbers = x.event.numbers; list = x.event.new } ∷ handed xs

abbrev pub answer : Turn → Answer
answer x =
    cond (whole_test document x.words x.event.asked.counters) (reply (area_state document x.words) x.event.asked.call).answer (refused 9 0)

abbrev pub computed : List Turn → List HandedOver
computed [] = []
computed (x ∷ xs) = record { numbers = returned_by (answer x); list = list_after (answer x) x.event.old } ∷ computed xs

pub m11_computed : handed m11_turns ≡ computed m11_turns
unfolding rows_from value_word entries_of rules_from entries_before unbias literal_of gather standing_of extreme first_due first_said up_to pick causes row_of numbered any comes_from in_order flat first_to_speak run reply
m11_computed = refl

pub m12_computed : handed m12_turns ≡ computed m12_turns
unfolding rows_from value_word entries_of rules_from entries_before unbias literal_of gather standing_of extreme first_due first_said up_to pick causes row_of numbered any comes_from in_order flat first_to_speak run trying reply
m12_computed = refl
