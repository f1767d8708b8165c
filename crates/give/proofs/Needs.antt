-- The numbers of sentences and of needed words are those of the theory, so areas of the same atoms and theory have the same. The written
-- entries before all sentences' end are those of all rules.
use mathlib.Core.Path.{◌≡◌, sym, ap, ◌∙◌}
use mathlib.Core.List.{List, [], ◌∷◌}
use Prim.Native.Nat.{ℕ, zero, suc, ◌+◌}
use native.Mathlib.Omega.{arith}
use lib.ListN.{length}
use Rattle.meaning.specs.Merge.{Rule}
use Rattle.area.specs.Layout.{atoms_of, sentences_of, rules_from, theory_of, entries_before, need_of}
use Rattle.theory_check.proofs.Rules.{rules_length}

abbrev pub all_written : List Rule → ℕ
all_written [] = 0
all_written (r ∷ rs) = r.written + all_written rs

written_before : (w : List ℕ) (n S s k : ℕ) → entries_before w n (s + k) ≡ entries_before w n s + all_written (rules_from w n S s k)
unfolding entries_before rules_from
written_before w n S s zero = let e : s + 0 ≡ s = omega arith in ap {A = ℕ} (entries_before w n) e ∙ omega arith
written_before w n S s (suc k) =
    let e : s + suc k ≡ suc s + k = omega arith in
    ap {A = ℕ} (entries_before w n) e ∙ written_before w n S (suc s) k ∙ omega arith

pub all_before : (w : List ℕ) → entries_before w (atoms_of w) (sentences_of w) ≡ all_written (theory_of w)
unfolding entries_before
all_before w =
    let n = atoms_of w in
    let S = sentences_of w in
    let e : S ≡ 0 + S = omega arith in
    let q : 0 + all_written (theory_of w) ≡ all_written (theory_of w) = omega arith in
    ap {A = ℕ} (entries_before w n) e ∙ written_before w n S 0 S ∙ q

module _ (w w' : List ℕ) (atoms : atoms_of w' ≡ atoms_of w) (theory : theory_of w' ≡ theory_of w) where
  pub sentences_same : sentences_of w' ≡ sentences_of w
  sentences_same =
      sym (rules_length w' (atoms_of w') (sentences_of w') 0 (sentences_of w'))
      ∙ ap {A = List Rule} length theory ∙ rules_length w (atoms_of w) (sentences_of w) 0 (sentences_of w)

  pub need_same : need_of w' ≡ need_of w
  need_same =
      let s = sentences_same in
      let e : entries_before w' (atoms_of w') (sentences_of w') ≡ entries_before w (atoms_of w) (sentences_of w) =
      all_before w' ∙ ap {A = List Rule} all_written theory ∙ sym (all_before w) in
      omega (arith, atoms, s, e)
