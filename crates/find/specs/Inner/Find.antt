-- What the search for the lowest-numbered sentence that has something to say finds, and what it asks.
use Rattle.std.specs.Prelude.{◌≡◌, List, ℕ, suc, ◌/◌, ◌<◌, ◌≤◌, get_or}
use Rattle.types.specs.declared.Limits.{Limits}
use Rattle.types.specs.Limits.{Fitting}
use Rattle.numbers.specs.Words.{literal_of}
use Rattle.meaning.specs.Merge.{scope}
use Rattle.book.specs.Rows.{trail}
use Rattle.book.specs.Table.{Speech, nothing, conflicts, derives, first_to_speak}
use Rattle.book.specs.Book.{judged_all}
use Rattle.area.specs.Layout.{atoms_of, sentences_of, rows_of, theory_of, record_at, rule_at}
use Rattle.area.specs.Whole.{Whole}
use Rattle.whole.specs.Parts.{counters_with}
use Rattle.find.specs.declared.Found.{Found}
use Rattle.find.specs.declared.Found.TheVariants.{Nothing, Conflict, Forced}

-- sentences are counted from 0 in the code and from 1 on the paper
abbrev pub spoken_of : Found → Speech
spoken_of Nothing = nothing
spoken_of (Conflict s) = conflicts (suc s)
spoken_of (Forced s l p) = derives (suc s) (literal_of l)

-- the area is whole, of n atoms and S sentences
pub record Searchable (lim : Limits) (w : List ℕ) (n S len level : ℕ) : Type 0 where
  pub fitting : Fitting lim
  pub whole : Whole lim w (counters_with len level)
  pub atoms : atoms_of w ≡ n
  pub sentences : sentences_of w ≡ S

-- what is found is the table's speech; a forced literal is of an open atom, which the sentence has at the place (0 head, j entry j from 1)
pub record FoundIs (w : List ℕ) (n S : ℕ) (r : Found) : Type 0 where
  pub speech_is : first_to_speak 1 (judged_all (theory_of w)) (trail (rows_of w)) ≡ spoken_of r
  pub inside : (s l p : ℕ) → r ≡ Forced s l p → s < S
  pub literal_low : (s l p : ℕ) → r ≡ Forced s l p → 2 ≤ l
  pub place : (s l p : ℕ) → r ≡ Forced s l p → get_or (scope (rule_at w n S (record_at n s))) p 0 ≡ l / 2
  pub conflict_inside : (s : ℕ) → r ≡ Conflict s → s < S
