-- What is said of a stored sentence, by the value that has it.
use Rattle.extremes.specs.declared.Extremes.{Extremes}
use Rattle.extremes.specs.declared.evaluable.Evaluable.{Evaluable}
use Rattle.extremes.specs.Inner.Stored.{ExtremesAre}

abbrev pub ExtremesOf : Evaluable → Extremes → Type 0
ExtremesOf s r = ExtremesAre s.area.now s.sizes.atoms s.sizes.sentences s.base r
