-- What holds of each stored sentence holds of the theory that is read off the words.
use mathlib.Core.List.{List}
use Prim.Native.Nat.{ℕ, zero, suc, ◌+◌, ◌<◌}
use native.Mathlib.Omega.{arith}
use Rattle.meaning.specs.Meaning.{Each}
use Rattle.meaning.specs.Merge.{Rule}
use Rattle.area.specs.Layout.{record_at, rule_at, rules_from}

pub each_rule : (P : Rule → Type 0) (w : List ℕ) (n S s k : ℕ) → ((i : ℕ) → i < s + k → P (rule_at w n S (record_at n i))) → Each P (rules_from w n S s k)
unfolding rules_from
each_rule P w n S s zero f = tt
each_rule P w n S s (suc k) f = (f s (omega arith), each_rule P w n S (suc s) k (λ i l. f i (omega arith)))
