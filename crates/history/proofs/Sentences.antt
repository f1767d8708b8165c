-- The sentences of an accepted load: each is one that the book may hold. And an area that stores their merges needs as many words as the
-- book says, since a stored rule keeps how many entries were written.
use mathlib.Core.Path.{◌≡◌, refl, sym, ap, ◌∙◌}
use mathlib.Core.List.{List, [], ◌∷◌}
use Prim.Native.Nat.{ℕ, suc, ◌+◌}
use native.Mathlib.Omega.{arith}
use lib.ListN.{length}
use Rattle.types.specs.declared.Limits.{Limits}
use Rattle.meaning.specs.Meaning.{Sentence, Each}
use Rattle.meaning.specs.Merge.{Rule}
use Rattle.book.specs.Book.{rules_of, entries_written, Book, need, WellFormed}
use Rattle.area.specs.Layout.{atoms_of, sentences_of, theory_of, need_of}
use Rattle.theory_check.proofs.Rules.{rules_length}
use Rattle.give.proofs.Needs.{all_written as written_in, all_before}
use Rattle.columns.specs.Columns.{Columns, all_written, sentences_in}
use Rattle.columns.specs.Refusals.{load_answer}
use Rattle.columns.proofs.Accepted.{each_accepted}
use Rattle.columns.proofs.Passing.{well_formed}

-- ---- an accepted load

pub loaded_well_formed : (lim : Limits) (words n : ℕ) (x : Columns) → (load_answer lim words n x).code ≡ 0 → Each (WellFormed n) (sentences_in (all_written x))
loaded_well_formed lim words n x e = each_accepted (WellFormed n) lim words n x e (well_formed lim n)

-- ---- the need

rules_count : (ss : List Sentence) → length (rules_of ss) ≡ length ss
rules_count [] = refl
rules_count (s ∷ ss) = ap {A = ℕ} suc (rules_count ss)

rules_written : (ss : List Sentence) → written_in (rules_of ss) ≡ entries_written ss
rules_written [] = refl
rules_written (s ∷ ss) = ap {A = ℕ} (λ k. length s.entries + k) (rules_written ss)

module _ (w : List ℕ) (b : Book) (atoms : atoms_of w ≡ b.atoms) (theory : theory_of w ≡ rules_of b.sentences) where
  pub sentences_are : sentences_of w ≡ length b.sentences
  sentences_are = sym (rules_length w (atoms_of w) (sentences_of w) 0 (sentences_of w)) ∙ ap {A = List Rule} length theory ∙ rules_count b.sentences

  pub need_is : need_of w ≡ need b.atoms b.sentences
  need_is = omega (arith, atoms, sentences_are, all_before w ∙ ap {A = List Rule} written_in theory ∙ rules_written b.sentences)
