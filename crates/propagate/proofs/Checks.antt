-- A conflict must leave the pending marks: where no sentence is marked, a whole area has nothing to say, so that clearing the marks of an
-- area in conflict breaks it.
use mathlib.Core.Path.{◌≡◌, refl, sym, ap, ◌∙◌}
use mathlib.Core.List.{List, [], ◌∷◌}
use Prim.Native.Nat.{ℕ, suc, ◌<◌}
use native.Mathlib.Omega.{arith}
use lib.IntN.{ℤ}
use borrow.Author.Tests.{lt-leb}
use Rattle.types.specs.declared.Limits.{Limits}
use Rattle.meaning.specs.Meaning.{Said, silent, Each}
use Rattle.meaning.specs.Merge.{Rule}
use Rattle.meaning.specs.Computed.{first_said}
use Rattle.book.specs.Rows.{trail}
use Rattle.book.specs.Table.{nothing, conflicts, spoken, first_to_speak}
use Rattle.book.specs.Book.{Counters, judged_all}
use Rattle.area.specs.Layout.{atoms_of, sentences_of, rows_of, record_at, tag_at, theory_of}
use Rattle.area.specs.Whole.{Whole}
use Rattle.area.proofs.Theory.{each_rule}

-- where every rule is silent nothing is said
nothing_said : (t : List ℤ) (k : ℕ) (rs : List Rule) → Each (λ r. first_said r t ≡ silent) rs → first_to_speak k (judged_all rs) t ≡ nothing
unfolding first_to_speak
nothing_said t k [] h = refl
nothing_said t k (r ∷ rs) h = ap {A = Said} (λ y. spoken y k (first_to_speak (suc k) (judged_all rs) t)) h.0 ∙ nothing_said t (suc k) rs h.1

module _ (lim : Limits) (w : List ℕ) (c : Counters) (unmarked : (s : ℕ) → s < sentences_of w → tag_at w (record_at (atoms_of w) s) < 16) where
  unmarked_silent : Whole lim w c → first_to_speak 1 (judged_all (theory_of w)) (trail (rows_of w)) ≡ nothing
  unmarked_silent h =
      let n = atoms_of w in
      let S = sentences_of w in
      nothing_said (trail (rows_of w)) 1 (theory_of w)
      (each_rule (λ r. first_said r (trail (rows_of w)) ≡ silent) w n S 0 S
      (λ s l. let i : s < S = omega arith in h.quiet s i (lt-leb 16 (tag_at w (record_at n s)) (unmarked s i))))

  pub unmarked_conflict_broken : (k : ℕ) → first_to_speak 1 (judged_all (theory_of w)) (trail (rows_of w)) ≡ conflicts k → ¬ (Whole lim w c)
  unmarked_conflict_broken k e h =
      let q : conflicts k ≡ nothing = sym e ∙ unmarked_silent h in
      let z : ◌≡◌ {A = ℕ} 0 1 = cc in omega arith
