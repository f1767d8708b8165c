-- What is said of a stored sentence, by the value that has it.
use Rattle.extremes.specs.declared.evaluable.Evaluable.{Evaluable}
use Rattle.evaluate.specs.declared.Said.{Said}
use Rattle.evaluate.specs.declared.Known.{Known}
use Rattle.evaluate.specs.Inner.Sentence.{SaidIs}
use Rattle.evaluate.specs.Inner.Known.{KnownIs}

abbrev pub KnownOf : Evaluable → Known → Type 0
KnownOf s r = KnownIs s.area.now s.sizes.atoms s.sizes.sentences s.base r

abbrev pub SaidOf : Evaluable → Said → Type 0
SaidOf s r = SaidIs s.area.now s.sizes.atoms s.sizes.sentences s.base r
