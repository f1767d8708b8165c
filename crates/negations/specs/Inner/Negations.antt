-- The negated causes of a stored sentence, and a list that they are written into.
use Rattle.std.specs.Prelude.{◌≡◌, List, ◌∷◌, ◌++◌, map, ℕ, ◌+◌, ℤ, neg_ℤ, length, take, drop, Option, MatchOption}
use Rattle.meaning.specs.Merge.{scope}
use Rattle.book.specs.Rows.{pick, causes}
use Rattle.area.specs.Layout.{rule_at}
use Rattle.extremes.specs.declared.evaluable.Evaluable.{Evaluable}
use Rattle.causes.specs.Inner.Causes.{before, atom_of}

-- of the sentence at b, of n atoms and S sentences, over the first `limit` rows
abbrev pub negations : List ℕ → ℕ → ℕ → ℕ → ℕ → List ℤ
negations w n S b limit = map neg_ℤ (causes (before w n limit) (scope (rule_at w n S b)))

-- atom a's literal is not among the first `limit` rows, or it is, and z is its negation
abbrev pub NegationAt : List ℕ → ℕ → ℕ → ℕ → Option ℤ → Type 0
NegationAt w n a limit r =
    MatchOption r ((rest : List ℤ) → pick (before w n limit) a rest ≡ rest)
    (λ z. (rest : List ℤ) → map neg_ℤ (pick (before w n limit) a rest) ≡ z ∷ map neg_ℤ rest)

-- of a stored sentence, by the value that has it
abbrev pub negations_of : Evaluable → ℕ → List ℤ
negations_of s limit = negations s.area.now s.sizes.atoms s.sizes.sentences s.base limit

abbrev pub NegationOf : Evaluable → (place limit : ℕ) → Option ℤ → Type 0
NegationOf s place limit r = NegationAt s.area.now s.sizes.atoms (atom_of s place) limit r

-- a list with these numbers in place of its own from `start` on
abbrev pub overwritten : List ℤ → ℕ → List ℤ → List ℤ
overwritten old start ls = take start old ++ ls ++ drop (start + length ls) old
