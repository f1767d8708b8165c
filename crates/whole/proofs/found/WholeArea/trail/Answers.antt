-- The rows are of different atoms, so that they are no more than those.
use Rattle.std.proofs.Common.{arith}
use Rattle.area.specs.Layout.{atoms_of, length_of}
use Rattle.trail_check.proofs.Few.{few_places}
use Rattle.whole.proofs.found.WholeArea.trail.Goals as goal

pub invariant_of-result : goal.invariant_of-result
invariant_of-result c =
    let h = c.args.self.whole in
    let w = c.args.self.area.now in
    let a = c.atoms_of.ensures in
    let r = c.length_of.ensures in
    record {
      room = record {
        atoms_low = omega (arith, a, h.theory.atoms_low);
        atoms_high = omega (arith, a, h.theory.atoms_high, c.args.self.fitting.atoms);
        words = omega (arith, a, h.enough);
        few = omega (arith, a, r, few_places w (atoms_of w) (length_of w) h.trail_right.atoms);
      };
    }
