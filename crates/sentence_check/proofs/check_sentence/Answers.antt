-- What the test for both signs needs, that all literals are of atoms, is what the one for strange literals left.
use Rattle.std.proofs.Common.{◌≡◌, ◌≤◌, ℕ, ℤ, List, false, length, sym, ◌∙◌, arith}
use Rattle.decide.proofs.Below.{right_false, none_of, none_has}
use Rattle.meaning.specs.Meaning.{atom}
use Rattle.columns.specs.Refusals.{outside}
use Rattle.columns.specs.Indexed.{nth, no_literal}
use Rattle.columns.proofs.Clauses.{an_atom, is_atom}
use Rattle.sentence_check.proofs.check_sentence.Goals as goal

-- a literal of n atoms is one of 4096
wider : (n : ℕ) (ls : List ℤ) → n ≤ 4096 → no_literal n ls ≡ false → no_literal 4096 ls ≡ false
wider n ls h e = none_of (length ls) (λ i. outside 4096 (atom (nth ls i))) (λ i l.
    let k = is_atom n (atom (nth ls i)) (none_has i (length ls) (λ i. outside n (atom (nth ls i))) e l) in
    an_atom 4096 (atom (nth ls i)) (λ q. omega (arith, k.0)) (omega (arith, k.1)))

pub mixed-requires : goal.mixed-requires
mixed-requires c = wider c.args.n c.args.sentence.literals.now c.requires
    (right_false (outside c.args.n c.args.sentence.head) (no_literal c.args.n c.args.sentence.literals.now) (sym c.strange.ensures ∙ c.if-strange.false))
