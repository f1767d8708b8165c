-- The sentences before s are silent, and nothing is found yet; in sentence s, scanning the words from entry i on comes to what the sentence
-- says.
use Rattle.std.proofs.Common.{◌≡◌}
use Rattle.evaluate.proofs.Loops.{Scanning}
use Rattle.find.specs.declared.Found.TheVariants.{Nothing}
use Rattle.find.proofs.Speech.{SilentTo}
use Rattle.find.proofs.find.Given as goal

abbrev pub invariant-sentences : goal.invariant-sentences
invariant-sentences l = record { nothing : l.found ≡ Nothing; silent : SilentTo l.area l.sizes.atoms l.sizes.sentences l.s }

abbrev pub invariant-loop-i : goal.invariant-loop-i
invariant-loop-i l = record { nothing : l.found ≡ Nothing; scanning : Scanning l.body l.area l.sizes.atoms l.i }
