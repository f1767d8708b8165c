-- The literals before j are passed, as their atoms are on the trail (`Passing`).
use mathlib.Core.Bool.{true≢false}
use Rattle.std.proofs.Common.{◌≡◌, ◌∙◌, sym, ap₂, ℕ, length, arith}
use Rattle.std.proofs.lemmas.Option.{MatchOption-at_some, MatchOption-at_none}
use Rattle.meaning.specs.Meaning.{atom}
use Rattle.literals.specs.Inner.Literals.{AtomOf}
use Rattle.literals.proofs.Atoms.{told_atom}
use Rattle.area.specs.Layout.{atoms_of, value_at}
use Rattle.give.proofs.OnTrail.{taken_on_trail, open_off_trail}
use Rattle.candidates.specs.Inner.Candidates.{nth}
use Rattle.candidates.proofs.Passing.{known_at, passed_more}
use Rattle.candidates.proofs.next_open.Goals as goal
use Rattle.candidates.proofs.next_open.Goals.{After-atom_of, in-Some+else-value_at-eq0, in_default}

told : (c : After-atom_of) → AtomOf (atoms_of c.args.area.now) (nth c.args.literals.now c.loop-j.j) c.atom_of.result
told c = rw c.atoms_of-n.ensures at (told_atom _ (nth c.args.literals.now c.loop-j.j) _ (record { sfits = omega arith }) c.atom_of.ensures)

pub returns-then-value_at-eq0 : goal.returns-then-value_at-eq0
returns-then-value_at-eq0 c lim had whole =
    let k = MatchOption-at_some _ _ _ c.in-Some.is (told ((goal.at.returns-then-value_at-eq0 c).After-atom_of)) in
    let value = c.value_at.ensures ∙ ap₂ {A = ℕ} {B = ℕ} (value_at c.args.area.now) c.atoms_of-n.ensures k.is in
    (c.loop-j.invariant lim had whole, c.loop-j-test.true, open_off_trail lim _ had whole _ k.low k.high (sym value ∙ omega arith))

pub loop-j-preserved : goal.loop-j-preserved
loop-j-preserved c lim had whole =
    let a = told ((goal.at.loop-j-preserved c).After-atom_of) in
    passed_more _ _ _ c.loop-j.j (c.loop-j.invariant lim had whole) c.loop-j-test.true
    (elim c.match-atom_of.branch [
      | in-Some+else-value_at-eq0 w ↦
          let k = MatchOption-at_some _ _ _ w.in-Some.is a in
          let value = w.value_at.ensures ∙ ap₂ {A = ℕ} {B = ℕ} (value_at c.args.area.now) c.atoms_of-n.ensures k.is in
          taken_on_trail lim _ had whole _ k.low k.high (λ z. let e : w.value_at.result ≡ 0 = value ∙ z in omega arith)
      | in_default w ↦
          let known = known_at _ c.args.literals.now c.requires.searchable.known c.loop-j.j c.loop-j-test.true in
          absurd (true≢false (sym (MatchOption-at_none _ _ w.in_default.is a) ∙ known))
    ])

pub returns : goal.returns
returns c lim had whole = let e : c.loop-j.j ≡ length c.args.literals.now = omega (arith, c.requires.inside) in rw e at (c.loop-j.invariant lim had whole)
