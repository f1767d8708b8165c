-- The heads of a text's constraints, given in order; and what giving them asks and leaves.
use Rattle.std.specs.Prelude.{◌≡◌, List, ℕ, zero, suc, ◌+◌, ◌≤◌, length, pos}
use Rattle.types.specs.Limits.{document, widest}
use Rattle.types.specs.declared.Counters.{Counters}
pub use Rattle.types.specs.Counters.{start}
use Rattle.book.specs.Table.{give, a_step, State, following_call}
use Rattle.area.specs.Whole.{Whole}
use Rattle.calls.specs.Calls.{area_state, counted}

-- an area whole at its counters, within the limits of document 01
abbrev pub IsWhole : List ℕ → Counters → Type 0
IsWhole w c = Whole document w (counted c)

-- 'Constraint j has head V + j, given at level 0 in order': the first k of them
unfoldable pub heads_given : State → ℕ → ℕ → State
heads_given q v zero = q
heads_given q v (suc k) = following_call (heads_given q v k) (a_step (give (pos (v + suc k))))

-- such an area, as a state of the table
pub record Stands (w : List ℕ) (c : Counters) (q : State) : Type 0 where
  pub whole : IsWhole w c
  pub state : area_state document w ≡ q

-- an empty trail, and heads that are atoms of the layout
pub record HeadsAsked (w : List ℕ) (v c : ℕ) : Type 0 where
  pub whole : IsWhole w start
  pub few : v + c ≤ widest.atoms

pub record HeadsGiven (w w' : List ℕ) (v c : ℕ) (r : Counters) : Type 0 where
  pub stands : Stands w' r (heads_given (area_state document w) v c)
  pub size : length w' ≡ length w
