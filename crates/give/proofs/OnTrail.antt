-- The table's test whether an atom is on the trail is the test whether its value word is not 0: the rows give an atom that one of them has
-- a value word above 0, and 0 to another.
use mathlib.Core.Path.{◌≡◌, refl, sym, ◌∙◌, ap}
use mathlib.Core.Bool.{Bool, true, false, not, cond}
use mathlib.Core.List.{List, [], ◌∷◌}
use Prim.Native.Nat.{ℕ, ◌+◌, ◌*◌, ◌≤◌}
use native.Mathlib.Omega.{arith}
use lib.ListN.{length}
use lib.Dec.{eqb}
use borrow.Author.Tests.{eq-eqb, ne_eqb}
use Rattle.types.specs.declared.Limits.{Limits}
use Rattle.meaning.specs.Meaning.{atom}
use Rattle.book.specs.Rows.{Row, trail, any}
use Rattle.book.specs.Table.{on_trail}
use Rattle.book.specs.Book.{Counters}
use Rattle.area.specs.Layout.{atoms_of, value_at, sign, value_word}
use Rattle.area.specs.Whole.{Whole}
use Rattle.calls.specs.Calls.{area_state}

-- of any rows
pub any_value : (rs : List Row) (a : ℕ) → any (λ l. eqb (atom l) a) (trail rs) ≡ not (eqb (value_word rs a) 0)
unfolding any value_word
any_value [] a = refl
any_value (r ∷ rs) a = go (eqb (atom r.literal) a) (any_value rs a)
  where
    go : (b : Bool) → any (λ l. eqb (atom l) a) (trail rs) ≡ not (eqb (value_word rs a) 0)
        → cond b true (any (λ l. eqb (atom l) a) (trail rs)) ≡ not (eqb (cond b (1 + 2 * length rs + sign r.literal) (value_word rs a)) 0)
    go true ih = rw (ne_eqb (1 + 2 * length rs + sign r.literal) 0 (λ e. let b : ⊥ = omega arith in b))
    go false ih = ih

module _ (lim : Limits) (w : List ℕ) (c : Counters) (whole : Whole lim w c) (a : ℕ) (low : 1 ≤ a) (high : a ≤ atoms_of w) where
  pub on_trail_value : on_trail (area_state lim w) a ≡ not (eqb (value_at w (atoms_of w) a) 0)
  on_trail_value = any_value _ a ∙ ap {A = ℕ} (λ v. not (eqb v 0)) (sym (whole.trail_right.values a low high))

  pub taken_on_trail : ¬ (value_at w (atoms_of w) a ≡ 0) → on_trail (area_state lim w) a ≡ true
  taken_on_trail d = on_trail_value ∙ ap not (ne_eqb (value_at w (atoms_of w) a) 0 d)

  pub open_off_trail : value_at w (atoms_of w) a ≡ 0 → on_trail (area_state lim w) a ≡ false
  open_off_trail e = on_trail_value ∙ ap not (eq-eqb (value_at w (atoms_of w) a) 0 e)
