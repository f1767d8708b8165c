-- The stories, computed: with the tests on merged rules for judges, the table gives their answers, and their sentences pass the test of
-- being well_formed. This stands on the definitions alone.
use mathlib.Core.Path.{◌≡◌, refl}
use mathlib.Core.Bool.{Bool, ◌&&◌}
use Prim.Native.Nat.{ℕ}
use lib.Dec.{T, leb}
use Rattle.meaning.specs.Meaning.{entry_atom, Sentence, Each}
use Rattle.meaning.specs.Merge.{turned_all, freed_all, put, collect, nonzero}
use Rattle.meaning.specs.Computed.{gather, standing_of, extreme, first_due, first_said}
use Rattle.meaning.proofs.Checks.{every, admissible}
use Rattle.book.specs.Rows.{up_to, pick, causes, row_of, numbered, any, comes_from, in_order, flat}
use Rattle.book.specs.Table.{first_to_speak, run, trying, reply}
use Rattle.book.specs.Book.{computed, fresh, answers}
use Rattle.book.specs.Examples.{Story, calls_in, expected, stories, Rightly, printings}

abbrev pub well_formed : ℕ → Sentence → Bool
well_formed n s = leb 1 s.head && (leb s.head n && (every (λ e. leb (entry_atom e) n) s.entries && admissible s))

abbrev pub Computes : Story → Type 0
Computes x = answers x.limits computed (fresh x.atoms x.sentences) (calls_in x.turns) ≡ expected x.turns

pub stories_compute : Each Computes stories
unfolding turned_all freed_all put collect nonzero gather standing_of extreme first_due first_said up_to pick causes row_of numbered any comes_from in_order flat first_to_speak run trying reply answers
stories_compute = (refl, (refl, (refl, (refl, (refl, (refl, (refl, (refl, (refl, (refl, (refl, (refl, (refl, (refl, (refl, (refl, tt))))))))))))))))

pub stories_well_formed : T (every (λ x. every (well_formed x.atoms) x.sentences) stories)
stories_well_formed = tt

pub printings_right : Each Rightly printings
printings_right =
    ((refl, refl), ((refl, refl), ((refl, refl), ((refl, refl), ((refl, refl), ((refl, refl), ((refl, refl), ((refl, refl), ((refl, refl), tt)))))))))
