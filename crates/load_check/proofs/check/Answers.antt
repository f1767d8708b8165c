-- The columns' shape in three parts, then the words needed, then the sentences: each return is load's answer by what was found.
use Rattle.std.proofs.Common.{true, false, sym, ◌∙◌}
use Rattle.columns.specs.Columns.{held}
use Rattle.columns.proofs.Answers.{shape_limits, shape_unequal, shape_sum, in_shape, answer_1, answer_2, answer_rest}
use Rattle.load_check.proofs.check.Goals as goal
use Rattle.load_check.proofs.check.Goals.{then-past_limits-via-then-past_limits, then-past_limits-via-else-past_limits+then-unequal, then-past_limits-via-else-past_limits+else-unequal+then-not-adds_up}

pub returns-then-past_limits : goal.returns-then-past_limits
returns-then-past_limits c =
    answer_1 c.args.lim c.args.words c.args.atoms.0 (held c.args.columns)
    (elim c.then-past_limits.branch [
      | then-past_limits-via-then-past_limits w ↦ shape_limits c.args.lim c.args.atoms.0 (held c.args.columns) (sym c.past_limits.ensures ∙ w.if-past_limits.true)
      | then-past_limits-via-else-past_limits+then-unequal w ↦ shape_unequal c.args.lim c.args.atoms.0 (held c.args.columns) (sym w.unequal.ensures ∙ w.if-unequal.true)
      | then-past_limits-via-else-past_limits+else-unequal+then-not-adds_up w ↦ shape_sum c.args.lim c.args.atoms.0 (held c.args.columns) (sym w.adds_up.ensures ∙ w.if-not-adds_up.true)
    ])

pub returns-then-words-atoms : goal.returns-then-words-atoms
returns-then-words-atoms c =
    answer_2 c.args.lim c.args.words c.args.atoms.0 (held c.args.columns)
    (in_shape c.args.lim c.args.atoms.0 (held c.args.columns) (sym c.past_limits.ensures ∙ c.if-past_limits.false) (sym c.unequal.ensures ∙ c.if-unequal.false)
    (sym c.adds_up.ensures ∙ c.if-not-adds_up.false)) c.if-words-atoms.true

pub returns : goal.returns
returns c =
    c.check_sentences.ensures
    ∙ answer_rest c.args.lim c.args.words c.args.atoms.0 (held c.args.columns)
    (in_shape c.args.lim c.args.atoms.0 (held c.args.columns) (sym c.past_limits.ensures ∙ c.if-past_limits.false) (sym c.unequal.ensures ∙ c.if-unequal.false)
    (sym c.adds_up.ensures ∙ c.if-not-adds_up.false)) c.if-words-atoms.false
