-- Load at the limits of document 01 is load within them.
use Rattle.std.proofs.Common.{sym, subst}
use Rattle.types.specs.declared.Limits.{Limits}
use Rattle.types.specs.Limits.{Fitting}
use Rattle.columns.specs.Columns.{held}
use Rattle.columns.specs.Answers.{answer_of}
use Rattle.load.specs.Load.{Loads}
use Rattle.load.proofs.Base.{base_fits}
use Rattle.load.proofs.load.Goals as goal

pub load_within-requires : goal.load_within-requires
load_within-requires c = subst Fitting (sym c.document.ensures) base_fits

pub returns-clause-loads : goal.returns-clause-loads
returns-clause-loads c =
    subst (λ (l : Limits). Loads l c.args.area.now c.load_within.new.area c.args.atoms.0 (held c.args.columns) (answer_of c.load_within.result))
    c.document.ensures c.load_within.ensures.loads
