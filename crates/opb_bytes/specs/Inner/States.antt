-- What holds of every state that a text leads to, so that no sum of a step wraps.
use Rattle.std.specs.Prelude.{ℕ, ◌≤◌, ◌<◌}
use Rattle.opb_grammar.specs.declared.Phase.{Phase}
use Rattle.opb_grammar.specs.declared.Phase.TheVariants.{Opening, BeforeV, InV, Middle, BeforeC, InC, AfterReturn, LineStart, Between, Comment, WeightSign, InWeight, BeforeX, BeforeVariable, InVariable, AfterTerm, AfterGreater, AfterRelation, BeforeBound, BoundSign, InBound, AfterBound}
use Rattle.opb_grammar.specs.declared.State.{State}

-- bytes of the fixed text that is being read, or was read last
abbrev pub fixed : Phase → ℕ
fixed Opening = 13
fixed BeforeV = 14
fixed InV = 14
fixed Middle = 14
fixed BeforeC = 14
fixed InC = 14
fixed AfterReturn = 14
fixed LineStart = 14
fixed Between = 14
fixed Comment = 14
fixed WeightSign = 14
fixed InWeight = 14
fixed BeforeX = 14
fixed BeforeVariable = 14
fixed InVariable = 14
fixed AfterTerm = 14
fixed AfterGreater = 14
fixed AfterRelation = 14
fixed BeforeBound = 14
fixed BoundSign = 14
fixed InBound = 14
fixed AfterBound = 14

pub record StateSound (s : State) : Type 0 where
  pub matched : s.matched < fixed s.phase
  pub terms : s.counts.terms ≤ s.counts.entries
