-- The tests are those of the table (`Giving`).
use Rattle.std.proofs.Common.{◌≡◌, ◌∙◌, sym, ap₂, ℕ}
use Rattle.std.proofs.lemmas.Option.{MatchOption-at_some}
use Rattle.meaning.specs.Meaning.{atom}
use Rattle.literals.specs.Inner.Literals.{IsAtom}
use Rattle.literals.proofs.Atoms.{told_atom}
use Rattle.area.specs.Layout.{atoms_of, value_at}
use Rattle.give.proofs.Giving.{taken_code, open_code}
use Rattle.give.proofs.open_atom.Goals as goal
use Rattle.give.proofs.open_atom.Goals.{After-value_at}

known : (c : After-value_at) → IsAtom (atoms_of c.args.area.now) c.args.literal c.in_ok-atom.atom
known c =
    rw c.atoms_of-n.ensures at (MatchOption-at_some _ _ _ c.in_ok-atom.ensures.ok_part (told_atom _ _ _ c.ranges.literal c.atom_of.ensures))

value : (c : After-value_at) → c.value_at.result ≡ value_at c.args.area.now (atoms_of c.args.area.now) (atom c.args.literal)
value c = c.value_at.ensures ∙ ap₂ {A = ℕ} {B = ℕ} (value_at c.args.area.now) c.atoms_of-n.ensures (known c).is

pub returns-then-value_at-ne0-clause-refusal : goal.returns-then-value_at-ne0-clause-refusal
returns-then-value_at-ne0-clause-refusal c lim had u =
    let d = (goal.at.returns-then-value_at-ne0-clause-refusal c).After-value_at in
    taken_code lim _ had u c.args.literal (known d).low (known d).high (λ z. c.if-value_at-ne0.true (value d ∙ z))

pub returns-clause-refusal : goal.returns-clause-refusal
returns-clause-refusal c lim had u =
    let d = (goal.at.returns-clause-refusal c).After-value_at in
    open_code lim _ had u c.args.literal (known d).low (known d).high (sym (value d) ∙ c.if-value_at-ne0.false)
