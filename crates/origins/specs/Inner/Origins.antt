-- What origin asks of the area, what it chooses, and how a list is handed over.
use Rattle.std.specs.Prelude.{◌≡◌, List, ℕ, ◌<◌, ◌≤◌, ℤ, length, get_or, Result, Ok, Err}
use Rattle.types.specs.declared.Limits.{Limits}
use Rattle.types.specs.Limits.{Fitting}
use Rattle.book.specs.Rows.{origins}
use Rattle.book.specs.Table.{scopes}
use Rattle.book.specs.Book.{Counters, judged_all}
use Rattle.area.specs.Layout.{atoms_of, length_of, row_at, rows_of, theory_of}
use Rattle.area.specs.Whole.{Whole}
use Rattle.calls.specs.declared.Refusal.{Refusal}
use Rattle.calls.specs.declared.Refusal.TheVariants.{TooShort}
use Rattle.chosen.specs.Inner.Chosen.{chosen_literals, in_front}

-- position p is on the trail of a whole area, by whatever limits and counters
pub record OriginsAsked (w : List ℕ) (p : ℕ) : Type 0 where
  pub lim : Limits
  pub counters : Counters
  pub fitting : Fitting lim
  pub whole : Whole lim w counters
  pub position : p < length_of w

-- no mark, and room for every position
pub record Blank (w m : List ℕ) : Type 0 where
  pub none : (i : ℕ) → get_or m i 0 ≡ 0
  pub room : length_of w ≤ length m

-- the origins of the literal at position p
abbrev pub origins_at : List ℕ → ℕ → List ℤ
origins_at w p = origins (scopes (judged_all (theory_of w))) (rows_of w) (row_at w (atoms_of w) p).literal

-- the chosen literals by the marks m are those origins, r in number
pub record Choice (w : List ℕ) (p : ℕ) (m : List ℕ) (r : ℕ) : Type 0 where
  pub room : length_of w ≤ length m
  pub literals : chosen_literals w (atoms_of w) m (length_of w) ≡ origins_at w p
  pub counted : r ≡ length (origins_at w p)

-- that the list is too short for ls, and the list as it was; or the length of ls, and ls at the front of the list
pub record Handed (ls old new : List ℤ) (r : Result ℕ Refusal) : Type 0 where
  pub short : length old < length ls → (r ≡ Err (TooShort (length ls))) × (new ≡ old)
  pub enough : length ls ≤ length old → (r ≡ Ok (length ls)) × (new ≡ in_front ls old)
