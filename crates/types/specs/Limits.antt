-- The limits of document 01; this is the one place of their numbers. A definition that needs the counts' limits takes them as a parameter.
use Rattle.std.specs.Prelude.{ℕ, ◌≤◌}
use Rattle.types.specs.declared.Limits.{Limits}

abbrev pub document : Limits
document = record { atoms = 1024; sentences = 256; entries = 4096; each = 1024; levels = 1024 }

-- the greatest size of a weight
abbrev pub weight_limit : ℕ
weight_limit = 1000000000

-- the greatest size of a bound, and of a product of weights
abbrev pub bound_limit : ℕ
bound_limit = 1000000000000000000

-- the largest limits that the layout of the work area has room for
abbrev pub widest : Limits
widest = record { atoms = 4096; sentences = 1024; entries = 16384; each = 4096; levels = 4096 }

pub record Fitting (lim : Limits) : Type 0 where
  pub atoms : lim.atoms ≤ widest.atoms
  pub sentences : lim.sentences ≤ widest.sentences
  pub entries : lim.entries ≤ widest.entries
  pub each : lim.each ≤ widest.each
  pub levels : lim.levels ≤ widest.levels
