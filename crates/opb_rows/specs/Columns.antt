-- Load's columns as a reader fills them: what they hold, and that they stay the same columns.
use Rattle.std.specs.Prelude.{◌≡◌, List, length}
use Rattle.std.specs.Borrow.{MutBor}
use Rattle.columns.specs.Columns.{Columns, seven_columns}
use Rattle.opb_rows.specs.declared.ColumnsMut.{ColumnsMut}

abbrev pub held_of : ColumnsMut → Columns
held_of c = seven_columns c.heads.now c.kinds.now c.sides.now c.bounds.now c.counts.now c.weights.now c.literals.now

-- the same column, whatever it holds
module _ {A : Type 0} where
  pub record SameColumn (old new : MutBor (List A)) : Type 0 where
    pub reference : new.ghost_name ≡ old.ghost_name
    pub size : length new.now ≡ length old.now

pub record SameColumns (old new : ColumnsMut) : Type 0 where
  pub heads : SameColumn old.heads new.heads
  pub kinds : SameColumn old.kinds new.kinds
  pub sides : SameColumn old.sides new.sides
  pub bounds : SameColumn old.bounds new.bounds
  pub counts : SameColumn old.counts new.counts
  pub weights : SameColumn old.weights new.weights
  pub literals : SameColumn old.literals new.literals
