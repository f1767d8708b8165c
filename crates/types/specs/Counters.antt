-- The counters after a load.
use Rattle.types.specs.declared.Counters.{Counters}

abbrev pub start : Counters
start = record { length = 0; level = record { 0 = 0 } }
