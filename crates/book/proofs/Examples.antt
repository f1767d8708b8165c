-- The claim about document 01's examples: the book gives each story's answers, whoever judges its sentences by full assignments, since
-- all who do so give the same answers and the computed tests do so.
use mathlib.Core.Path.{◌∙◌}
use mathlib.Core.Bool.{Bool, ◌&&◌}
use Prim.Native.Nat.{ℕ, ◌≤◌}
use lib.Dec.{T, leb, leb→le}
use Rattle.meaning.specs.Meaning.{entry_atom, Sentence, Each}
use Rattle.meaning.proofs.Members.{each_both}
use Rattle.meaning.proofs.Gather.{each_map}
use Rattle.meaning.proofs.Verdicts.{and_first, and_second}
use Rattle.meaning.proofs.Checks.{every, admissible}
use Rattle.meaning.proofs.Tests.{every_is, admissible_is}
use Rattle.book.specs.Book.{computed, fresh, WellFormed}
use Rattle.book.specs.Examples.{Story, Told, calls_in, stories}
use Rattle.book.proofs.Checks.{well_formed, Computes, stories_compute, stories_well_formed}
use Rattle.book.proofs.Judged.{computed_right}
use Rattle.book.proofs.Same.{answers_same}

well_formed_is : (n : ℕ) (s : Sentence) → T (well_formed n s) → WellFormed n s
well_formed_is n s h =
    record {
      head_low = leb→le 1 s.head (and_first (leb 1 s.head) (rest s) h);
      head_high = leb→le s.head n (and_first (leb s.head n) (last s) (and_second (leb 1 s.head) (rest s) h));
      atoms_high = every_is (λ e. leb (entry_atom e) n) (λ e. entry_atom e ≤ n) (λ e t. leb→le (entry_atom e) n t) s.entries
          (and_first (every (λ e. leb (entry_atom e) n) s.entries) (admissible s) (and_second (leb s.head n) (last s) (and_second (leb 1 s.head) (rest s) h)));
      admissible = admissible_is s (and_second (every (λ e. leb (entry_atom e) n) s.entries) (admissible s) (and_second (leb s.head n) (last s) (and_second (leb 1 s.head) (rest s) h)));
    }
  where
    last : Sentence → Bool
    last s = every (λ e. leb (entry_atom e) n) s.entries && admissible s

    rest : Sentence → Bool
    rest s = leb s.head n && last s

told : (x : Story) → Each (WellFormed x.atoms) x.sentences → Computes x → Told x
told x w c j m = answers_same x.limits j computed m computed_right (fresh x.atoms x.sentences) w tt (calls_in x.turns) ∙ c

pub stories_told : Each Told stories
stories_told =
    each_map (λ x. Each (WellFormed x.atoms) x.sentences × Computes x) Told stories (λ x h. told x h.0 h.1)
    (each_both (λ x. Each (WellFormed x.atoms) x.sentences) Computes stories
    (every_is (λ x. every (well_formed x.atoms) x.sentences) (λ x. Each (WellFormed x.atoms) x.sentences)
    (λ x t. every_is (well_formed x.atoms) (WellFormed x.atoms) (well_formed_is x.atoms) x.sentences t) stories stories_well_formed)
    stories_compute)
