-- A term and a constraint's rows as they are stored.
use Rattle.std.specs.Prelude.{Bool, cond, List, [], ◌∷◌, ℕ, ◌+◌, ◌-◌, ◌<◌, ◌≤◌, length, set, ℤ, pos}
use Rattle.std.proofs.lemmas.List.Edits.{sets}
use Rattle.std.proofs.Math.Seq.{slice}
use Rattle.columns.specs.Columns.{Columns, seven_columns}
use Rattle.opb_grammar.specs.declared.State.{State}
use Rattle.opb_grammar.specs.Grammar.{size_limit}
use Rattle.opb_rows.specs.Signed.{signed_of}

-- ---- a term

abbrev pub with_term : State → Columns → Columns
with_term s c =
    seven_columns c.heads c.kinds c.sides c.bounds c.counts (set c.weights s.counts.entries (signed_of s.weight))
    (set c.literals s.counts.entries (pos s.number.size))

-- there is room for it
pub record TermRoom (s : State) (c : Columns) : Type 0 where
  pub weights : s.counts.entries < length c.weights
  pub literals : s.counts.entries < length c.literals
  pub weight_size : s.weight.size ≤ size_limit
  pub size : s.number.size ≤ size_limit

-- ---- rows

-- one number, or for `=` two
module _ {A : Type 0} where
  abbrev pub both : Bool → A → A → List A
  both equal x y = x ∷ cond equal (y ∷ []) []

-- the rows of a constraint, and for `=` its terms once more; the state counts them already
abbrev pub first_row : State → ℕ
first_row s = s.counts.sentences - cond s.equal 2 1

abbrev pub copied : State → List ℤ → List ℤ
copied s column =
    cond s.equal
    (sets column (s.counts.entries - s.counts.terms) (slice (s.counts.entries - s.counts.terms - s.counts.terms)
    (s.counts.entries - s.counts.terms) column))
    column

abbrev pub with_rows : State → ℕ → Columns → Columns
with_rows s head c =
    seven_columns (sets c.heads (first_row s) (both s.equal head head)) (sets c.kinds (first_row s) (both s.equal 0 0))
    (sets c.sides (first_row s) (both s.equal 0 1)) (sets c.bounds (first_row s)
    (both s.equal (signed_of s.number) (signed_of s.number)))
    (sets c.counts (first_row s) (both s.equal s.counts.terms s.counts.terms)) (copied s c.weights) (copied s c.literals)

-- there is room for them
pub record RowsRoom (s : State) (c : Columns) : Type 0 where
  pub rows : cond s.equal 2 1 ≤ s.counts.sentences
  pub copies : cond s.equal (s.counts.terms + s.counts.terms) 0 ≤ s.counts.entries
  pub heads : s.counts.sentences ≤ length c.heads
  pub kinds : s.counts.sentences ≤ length c.kinds
  pub sides : s.counts.sentences ≤ length c.sides
  pub bounds : s.counts.sentences ≤ length c.bounds
  pub counts : s.counts.sentences ≤ length c.counts
  pub weights : s.counts.entries ≤ length c.weights
  pub literals : s.counts.entries ≤ length c.literals
  pub size : s.number.size ≤ size_limit
