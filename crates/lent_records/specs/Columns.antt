-- The columns that lent columns of sentences and a list of records are.
use Rattle.std.specs.Prelude.{List}
use Rattle.columns.specs.Columns.{Columns, seven_columns}
use Rattle.lent_records.specs.Records.{weights_in, literals_in}
use Rattle.lent_records.specs.declared.Sentences.{Sentences}
use Rattle.lent_records.specs.declared.Weighted.{Weighted}

abbrev pub with_records : Sentences → List Weighted → Columns
with_records s records =
    seven_columns s.heads.now s.kinds.now s.sides.now s.bounds.now s.counts.now (weights_in records) (literals_in records)
