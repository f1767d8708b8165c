-- The entry itself with nothing freed, or, of a negative literal in a sum or count, the opposite entry.
use Rattle.std.proofs.Common.{sym, ◌∙◌, arith}
use Rattle.entry_words.proofs.Signs.{turned_plain, turned_even, turned_odd}
use Rattle.entry_words.proofs.turn.Goals as goal
use Rattle.entry_words.proofs.turn.Goals.{else-mixes-via-then-mixes+else-l-eq1, else-mixes-via-else-mixes}

pub returns-then-l-eq1 : goal.returns-then-l-eq1
returns-then-l-eq1 c = turned_odd _ _ _ (sym c.mixes.ensures ∙ c.if-mixes.true) (omega arith) c.requires.1 c.requires.2 c.requires.0

pub returns : goal.returns
returns c =
    elim c.else-mixes.branch [
      | else-mixes-via-then-mixes+else-l-eq1 w ↦ turned_even _ _ _ (sym c.mixes.ensures ∙ w.if-mixes.true) (omega arith) c.requires.1 c.requires.2
      | else-mixes-via-else-mixes w ↦ turned_plain _ _ _ (sym c.mixes.ensures ∙ w.if-mixes.false) c.requires.1 c.requires.2
    ]
