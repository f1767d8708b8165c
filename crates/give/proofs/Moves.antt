-- A move leaves the state after the outcome, and two moves are one: atoms and theory stay, so the need does. The rows are as many as the
-- counters say, and few.
use mathlib.Core.Path.{◌≡◌, refl, sym, ap, ◌∙◌, subst}
use mathlib.Core.Bool.{false}
use mathlib.Core.List.{List}
use Prim.Native.Nat.{ℕ, ◌≤◌}
use native.Mathlib.Omega.{arith}
use lib.ListN.{length, drop}
use Rattle.types.specs.declared.Limits.{Limits}
use Rattle.types.specs.Limits.{Fitting}
use Rattle.meaning.specs.Merge.{Rule}
use Rattle.book.specs.Rows.{Row}
use Rattle.book.specs.Table.{Answer, State, Outcome, unchanged, following}
use Rattle.book.specs.Book.{Counters, judged_all}
use Rattle.area.specs.Layout.{atoms_of, length_of, level_of, rows_of, theory_of, need_of}
use Rattle.area.specs.Whole.{Whole}
use Rattle.calls.specs.Calls.{area_state, Moved}
use Rattle.trail_check.proofs.Rows.{rows_length}
use Rattle.trail_check.proofs.Few.{few_places}
use Rattle.give.proofs.Needs.{need_same}

module _ (lim : Limits) (w : List ℕ) (c : Counters) (h : Whole lim w c) where
  pub rows_count : length (rows_of w) ≡ c.length_is
  rows_count = rows_length w (atoms_of w) (length_of w) ∙ h.length_is

  pub few_rows : Fitting lim → c.length_is ≤ 4096
  few_rows f = omega (arith, few_places w (atoms_of w) (length_of w) h.trail_right.atoms, h.length_is, h.theory.atoms_high, f.atoms)

  -- nothing moved
  pub stays : (a : Answer) → Moved lim w w c (unchanged (area_state lim w) a)
  stays a = record { whole = h; atoms = refl; theory = refl; level = refl; rows = refl; size = refl; rest = refl }

abbrev state : Limits → ℕ → List Rule → ℕ → List Row → State
state lim n rs v rows = record { broken = false; atoms = n; levels = lim.levels; sentences = judged_all rs; level = v; rows = rows }

pub state_after : {lim : Limits} {w w' : List ℕ} {c' : Counters} {o : Outcome} → Moved lim w w' c' o → area_state lim w' ≡ following (area_state lim w) o
state_after {lim} {w} {w'} {c'} {o} m =
    ap {A = ℕ} (λ n. state lim n (theory_of w') (level_of w') (rows_of w')) m.atoms
    ∙ ap {A = List Rule} (λ t. state lim (atoms_of w) t (level_of w') (rows_of w')) m.theory
    ∙ ap {A = ℕ} (λ v. state lim (atoms_of w) (theory_of w) v (rows_of w')) m.level
    ∙ ap {A = List Row} (λ r. state lim (atoms_of w) (theory_of w) o.level r) m.rows

pub moved_twice : {lim : Limits} {w w₁ w₂ : List ℕ} {c₁ c₂ : Counters} {o₁ o₂ : Outcome} → Moved lim w w₁ c₁ o₁ → Moved lim w₁ w₂ c₂ o₂ → Moved lim w w₂ c₂ o₂
moved_twice {lim} {w} {w₁} {w₂} m n =
    let e : need_of w₁ ≡ need_of w = need_same w w₁ m.atoms m.theory in
    record {
      whole = n.whole;
      atoms = n.atoms ∙ m.atoms;
      theory = n.theory ∙ m.theory;
      level = n.level;
      rows = n.rows;
      size = n.size ∙ m.size;
      rest = subst (λ k. drop k w₂ ≡ drop k w₁) e n.rest ∙ m.rest;
    }

-- another outcome with the same level and rows
pub moved_as : {lim : Limits} {w w' : List ℕ} {c' : Counters} {o p : Outcome} → Moved lim w w' c' o → o.level ≡ p.level → o.rows ≡ p.rows → Moved lim w w' c' p
moved_as m e f =
    record { whole = m.whole; atoms = m.atoms; theory = m.theory; level = m.level ∙ e; rows = m.rows ∙ f; size = m.size; rest = m.rest }

-- told of the words after it
pub moved_here : {lim : Limits} {w w' : List ℕ} {c' : Counters} {o : Outcome} → Moved lim w w' c' o → (a : Answer) → Moved lim w w' c' (unchanged (area_state lim w') a)
moved_here m a = moved_as m (sym m.level) (sym m.rows)
