-- The lent columns are the same from step to step.
use mathlib.Core.Path.{refl, ◌∙◌}
use mathlib.Core.List.{List}
use Rattle.std.specs.Borrow.{MutBor}
use Rattle.opb_rows.specs.declared.ColumnsMut.{ColumnsMut}
use Rattle.opb_rows.specs.Columns.{SameColumn, SameColumns}

module _ {A : Type 0} where
  still : (c : MutBor (List A)) → SameColumn c c
  still c = record { reference = refl; size = refl }

  then : {a b c : MutBor (List A)} → SameColumn a b → SameColumn b c → SameColumn a c
  then f g = record { reference = g.reference ∙ f.reference; size = g.size ∙ f.size }

pub same_still : (c : ColumnsMut) → SameColumns c c
same_still c =
    record {
      heads = still c.heads;
      kinds = still c.kinds;
      sides = still c.sides;
      bounds = still c.bounds;
      counts = still c.counts;
      weights = still c.weights;
      literals = still c.literals;
    }

pub same_then : {a b c : ColumnsMut} → SameColumns a b → SameColumns b c → SameColumns a c
same_then f g =
    record {
      heads = then f.heads g.heads;
      kinds = then f.kinds g.kinds;
      sides = then f.sides g.sides;
      bounds = then f.bounds g.bounds;
      counts = then f.counts g.counts;
      weights = then f.weights g.weights;
      literals = then f.literals g.literals;
    }
