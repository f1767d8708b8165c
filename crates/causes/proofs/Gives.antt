-- What wholeness gives explanations and origins: the trail's values and the sentences can be read, and the scope of sentence number k in
-- the table's list is that of the stored rule.
use mathlib.Core.Path.{◌≡◌, refl, ◌∙◌, ap}
use mathlib.Core.List.{List, [], ◌∷◌}
use Prim.Native.Nat.{ℕ, zero, suc, ◌<◌, ◌≤◌}
use native.Mathlib.Omega.{arith}
use Rattle.types.specs.declared.Limits.{Limits}
use Rattle.types.specs.Limits.{Fitting}
use Rattle.meaning.specs.Merge.{scope}
use Rattle.book.specs.Rows.{numbered}
use Rattle.book.specs.Table.{Judged, scopes, no_sentence_judged}
use Rattle.book.specs.Book.{Counters, judged_all}
use Rattle.area.specs.Layout.{atoms_of, sentences_of, length_of, record_at, rule_at, theory_of}
use Rattle.area.specs.Whole.{Whole}
use Rattle.trail_check.proofs.Few.{few_places}
use Rattle.whole.proofs.Gives.{numbered_rule}
use Rattle.causes.specs.Inner.Causes.{TrailAsked, CausesAsked}

module _ (lim : Limits) (w : List ℕ) (c : Counters) (fit : Fitting lim) (h : Whole lim w c) where
  pub trail_asked : TrailAsked w (atoms_of w) (length_of w)
  trail_asked = record {
    room = record {
      atoms_low = h.theory.atoms_low;
      atoms_high = omega (arith, h.theory.atoms_high, fit.atoms);
      words = omega (arith, h.enough);
      few = few_places w (atoms_of w) (length_of w) h.trail_right.atoms;
    };
    atoms = h.trail_right.atoms;
    values = h.trail_right.values;
  }

  pub causes_asked : (limit : ℕ) → limit ≤ length_of w → CausesAsked w (atoms_of w) limit
  causes_asked limit m = record { rows = length_of w; trail_asked = trail_asked; few = m }

-- ---- scopes by number

scope_at : (k : ℕ) (js : List Judged) → numbered [] k (scopes js) ≡ (numbered no_sentence_judged k js).scope
unfolding numbered
scope_at k [] = refl
scope_at zero (j ∷ js) = refl
scope_at (suc zero) (j ∷ js) = refl
scope_at (suc (suc k)) (j ∷ js) = scope_at (suc k) js

pub scope_numbered : (w : List ℕ) (s : ℕ) → s < sentences_of w
    → numbered [] (suc s) (scopes (judged_all (theory_of w))) ≡ scope (rule_at w (atoms_of w) (sentences_of w) (record_at (atoms_of w) s))
scope_numbered w s l = scope_at (suc s) (judged_all (theory_of w)) ∙ ap {A = Judged} (λ j. j.scope) (numbered_rule w no_sentence_judged s l)
