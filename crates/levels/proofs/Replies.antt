-- The refusals of open and take back, by the level of a work area: what their code is, and what the level is where it is 0.
use mathlib.Core.Path.{◌≡◌, refl, sym}
use mathlib.Core.List.{List}
use Prim.Native.Nat.{ℕ, ◌<◌, ◌≤◌}
use borrow.Author.Tests.{lt-ltb, le-ltb, le-leb, lt-leb, leb-false, ltb-false}
use Rattle.types.specs.declared.Limits.{Limits}
use Rattle.book.specs.Table.{open_level, take_back}
use Rattle.area.specs.Layout.{level_of}
use Rattle.give.specs.Inner.Refused.{refusal_code}
use Rattle.give.proofs.Refused.{none_applies}

module _ (lim : Limits) (w : List ℕ) where
  pub open_above : lim.levels ≤ level_of w → 14 ≡ refusal_code lim w open_level
  open_above l = rw (le-leb lim.levels (level_of w) l) refl

  pub open_below : level_of w < lim.levels → 0 ≡ refusal_code lim w open_level
  open_below l = rw (lt-leb lim.levels (level_of w) l) refl

  pub opens_below : 0 ≡ refusal_code lim w open_level → level_of w < lim.levels
  opens_below z = leb-false lim.levels (level_of w) (none_applies lim w open_level (sym z)).0

  module _ (k : ℕ) where
    pub back_above : level_of w < k → 15 ≡ refusal_code lim w (take_back k)
    back_above l = rw (lt-ltb (level_of w) k l) refl

    pub back_below : k ≤ level_of w → 0 ≡ refusal_code lim w (take_back k)
    back_below l = rw (le-ltb (level_of w) k l) refl

    pub goes_below : 0 ≡ refusal_code lim w (take_back k) → k ≤ level_of w
    goes_below z = ltb-false (level_of w) k (none_applies lim w (take_back k) (sym z)).0
