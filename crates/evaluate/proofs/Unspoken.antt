-- When the extremes alone show that a sentence has nothing to say: a case of what is known before the scan.
use mathlib.Core.Path.{◌≡◌, refl, ap}
use mathlib.Core.Bool.{Bool, true, false, not, cond}
use mathlib.Core.List.{List}
use Prim.Native.Nat.{ℕ, ◌%◌, ◌<◌, ◌≤◌}
use borrow.Author.Tests.{le-leb, lt-leb}
use lib.Dec.{eqb}
use Rattle.area.specs.Layout.{head_at, kind_at, upper_at, value_at, kind_of}
use Rattle.extremes.specs.Inner.Stored.{EvaluateReady, ExtremesAre}
use Rattle.extremes.proofs.Values.{coded}
use Rattle.evaluate.specs.declared.Said.TheVariants as said
use Rattle.evaluate.specs.declared.Known.TheVariants as known
use Rattle.evaluate.specs.Inner.Sentence.{SaidIs}
use Rattle.evaluate.specs.Inner.Words.{limit_at, upwards, keeps}
use Rattle.evaluate.proofs.Unscanned.{known_open, known_fixed, known_so}

module _ {w : List ℕ} {n S b least greatest : ℕ} (ready : EvaluateReady w n S b) (are : ExtremesAre w n S b (record { least = least; greatest = greatest })) where
  -- the head and the comparison are open
  pub settled_open : value_at w n (head_at w b) ≡ 0 → least < limit_at w b → limit_at w b ≤ greatest → SaidIs w n S b said.Silent
  settled_open z unsure possible = go (upper_at w b) refl
    where
      go : (upper : Bool) → upper_at w b ≡ upper → SaidIs w n S b said.Silent
      go true q = (known_so {x = known.Silent} (known_open ready are true q z) (rw (le-leb _ _ possible, lt-leb _ _ unsure))).said
      go false q = (known_so {x = known.Silent} (known_open ready are false q z) (rw (lt-leb _ _ unsure, le-leb _ _ possible))).said

  -- the head is fixed, and at both extremes the comparison has its truth
  settled_fixed : (u : Bool) → ¬ (value_at w n (head_at w b) ≡ 0) → upwards (upper_at w b) (eqb (value_at w n (head_at w b) % 2) 1) ≡ u
      → keeps u (limit_at w b) (cond u greatest least) ≡ true → keeps u (limit_at w b) (cond (not u) greatest least) ≡ true → SaidIs w n S b said.Silent
  settled_fixed u fixed d e o = (known_so {x = known.Silent} (known_fixed ready are (coded (kind_of (kind_at w b))).0 (coded (kind_of (kind_at w b))).1 u fixed d) (rw (e, o))).said

  pub settled_up : ¬ (value_at w n (head_at w b) ≡ 0) → upwards (upper_at w b) (eqb (value_at w n (head_at w b) % 2) 1) ≡ true
      → limit_at w b ≤ least → limit_at w b ≤ greatest → SaidIs w n S b said.Silent
  settled_up fixed d l g = settled_fixed true fixed d (le-leb _ _ g) (le-leb _ _ l)

  pub settled_down : ¬ (value_at w n (head_at w b) ≡ 0) → upwards (upper_at w b) (eqb (value_at w n (head_at w b) % 2) 1) ≡ false
      → least < limit_at w b → greatest < limit_at w b → SaidIs w n S b said.Silent
  settled_down fixed d l g = settled_fixed false fixed d (ap {A = Bool} not (lt-leb _ _ l)) (ap {A = Bool} not (lt-leb _ _ g))
