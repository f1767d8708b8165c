-- The limits of document 01 fit the layout.
use native.Mathlib.Omega.{arith}
use Rattle.types.specs.Limits.{document, Fitting}

pub base_fits : Fitting document
base_fits = record { atoms = omega arith; sentences = omega arith; entries = omega arith; each = omega arith; levels = omega arith }
