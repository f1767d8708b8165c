-- The tests of the worked examples, which compute: the conditions of the theorems (a consistent trail, an admissible sentence) and the
-- row's numbers. They stand on the definitions alone.
use mathlib.Core.Bool.{Bool, true, false, not, cond, ◌&&◌}
use mathlib.Core.List.{List, [], ◌∷◌}
use Prim.Native.Nat.{ℕ}
use lib.IntN.{ℤ}
use lib.Dec.{T, eqb, leb}
use Rattle.numbers.specs.Extended.{Extended, le_e, up, down}
use Rattle.meaning.specs.Meaning.{Said, silent, conflict, forced, atom, truth, Entry, entry_atom, Kind, Sentence, same, weighable, mixes}
use Rattle.meaning.specs.Merge.{rule_of, turned_all, freed_all, put, collect, nonzero}
use Rattle.meaning.specs.Computed.{Standing, free, fixed, standing_of, gather, extreme, first_due, first_said}
use Rattle.meaning.specs.Examples.{Example, examples}

-- a trail: each literal is put on a free atom, or once more
abbrev pub allows : Standing → ℤ → Bool
allows free l = true
allows (fixed b) l = truth l b

abbrev pub consistent : List ℤ → Bool
consistent [] = true
consistent (l ∷ t) = allows (standing_of t (atom l)) l && consistent t

-- a sentence
abbrev pub every : {A : Type 0} → (A → Bool) → List A → Bool
every p [] = true
every p (x ∷ xs) = p x && every p xs

-- not of the atom, or with the literal
abbrev pub agreeing : Entry → Entry → Bool
agreeing e x = cond (eqb (entry_atom x) (entry_atom e)) (same x.literal e.literal) true

abbrev pub one_signed : List Entry → Bool
one_signed [] = true
one_signed (e ∷ es) = every (agreeing e) es && one_signed es

abbrev pub fits : ℕ → Kind → Entry → Bool
fits head k e = leb 1 (entry_atom e) && (weighable k e.weight && not (eqb (entry_atom e) head))

-- the signs, in the kinds that do not mix them
abbrev pub signs : Kind → List Entry → Bool
signs k es = cond (mixes k) true (one_signed es)

abbrev pub admissible : Sentence → Bool
admissible s = every (fits s.head s.kind) s.entries && signs s.kind s.entries

-- equality of values, and of what is said
abbrev pub same_value : Extended → Extended → Bool
same_value v w = le_e v w && le_e w v

abbrev pub same_said : Said → Said → Bool
same_said silent silent = true
same_said silent conflict = false
same_said silent (forced m) = false
same_said conflict silent = false
same_said conflict conflict = true
same_said conflict (forced m) = false
same_said (forced l) silent = false
same_said (forced l) conflict = false
same_said (forced l) (forced m) = same l m

-- ---- the rows

abbrev pub tests : Example → List Bool
tests x = consistent x.trail ∷ admissible x.sentence ∷ leb 1 x.sentence.head
    ∷ same_value (extreme down (rule_of x.sentence) x.trail) x.least ∷ same_value (extreme up (rule_of x.sentence) x.trail) x.greatest
    ∷ same_said (first_said (rule_of x.sentence) x.trail) x.said ∷ []

pub examples_pass : T (every (λ x. every (λ b. b) (tests x)) examples)
unfolding turned_all freed_all put collect nonzero gather standing_of extreme first_due first_said
examples_pass = tt
