-- Worked examples of the meaning, as rows of one list: a sentence and a trail (the last put on first), the least and greatest value and
-- what the sentence says first. There is a row for every kind and both sides. proofs/Examples.antt claims of each row that it is so.
use Rattle.std.specs.Prelude.{List, [], ◌∷◌, ℕ, ℤ, pos, neg_ℤ}
use Rattle.numbers.specs.Extended.{Extended, below, at, above, up, down}
use Rattle.meaning.specs.Meaning.{Entry, Kind, sum, product, count, maximum, minimum, Side, lower, upper, Sentence, Furthest, Said, silent, conflict, forced, Says}
use Rattle.meaning.specs.Merge.{rule_of, scope}

pub record Example : Type 0 where
  pub sentence : Sentence
  pub trail : List ℤ
  pub least : Extended
  pub greatest : Extended
  pub said : Said

pub record Right (x : Example) : Type 0 where
  pub least_is : Furthest down x.sentence x.trail x.least
  pub greatest_is : Furthest up x.sentence x.trail x.greatest
  pub says : Says x.sentence x.trail (scope (rule_of x.sentence)) x.said

-- ---- short forms

abbrev pub minus : ℕ → ℤ
minus n = neg_ℤ (pos n)

abbrev pub ◌on◌ : ℤ → ℤ → Entry
◌on◌ w l = record { weight = w; literal = l }

abbrev pub sentence_with : ℕ → Kind → Side → ℤ → List Entry → Sentence
sentence_with h k sd b es = record { head = h; kind = k; side = sd; bound = b; entries = es }

abbrev pub example_of : Sentence → List ℤ → Extended → Extended → Said → Example
example_of s t v w y = record { sentence = s; trail = t; least = v; greatest = w; said = y }

infix 75 ◌on◌
-- ---- sentences

abbrev pub m1 : Sentence
m1 = sentence_with 6 sum lower (pos 3) (minus 5 on pos 1 ∷ minus 2 on pos 2 ∷ pos 0 on pos 3 ∷ pos 1 on pos 4 ∷ pos 9 on pos 5 ∷ [])

abbrev pub m3 : Sentence
m3 = sentence_with 3 sum lower (pos 0) (minus 5 on pos 1 ∷ minus 2 on minus 1 ∷ pos 2 on pos 2 ∷ pos 5 on pos 2 ∷ [])

abbrev pub m4 : Sentence
m4 = sentence_with 3 sum upper (pos 1) (pos 1 on pos 1 ∷ pos 2 on pos 2 ∷ [])

abbrev pub m8 : Sentence
m8 = sentence_with 3 maximum lower (pos 0) (pos 0 on pos 1 ∷ minus 4 on pos 2 ∷ [])

abbrev pub m9 : Sentence
m9 = sentence_with 3 minimum lower (pos 6) (pos 5 on pos 1 ∷ pos 8 on pos 2 ∷ [])

abbrev pub m10 : Sentence
m10 = sentence_with 3 product upper (pos 5) (pos 2 on pos 1 ∷ pos 3 on pos 2 ∷ [])

-- the same literal twice, in each kind; both signs of an atom in a count
abbrev pub product_twice : Sentence
product_twice = sentence_with 4 product lower (pos 12) (pos 2 on pos 1 ∷ pos 3 on minus 2 ∷ pos 2 on pos 1 ∷ [])

abbrev pub count_twice : Sentence
count_twice = sentence_with 4 count lower (pos 2) (pos 1 on pos 1 ∷ pos 1 on pos 1 ∷ pos 1 on pos 2 ∷ [])

abbrev pub count_mixed : Sentence
count_mixed = sentence_with 4 count upper (pos 1) (pos 1 on pos 1 ∷ pos 1 on minus 1 ∷ pos 1 on pos 2 ∷ [])

abbrev pub max_twice : Sentence
max_twice = sentence_with 3 maximum upper (pos 5) (pos 2 on pos 1 ∷ pos 5 on pos 1 ∷ pos 7 on pos 2 ∷ [])

abbrev pub min_twice : Sentence
min_twice = sentence_with 3 minimum upper (pos 1) (pos 4 on pos 1 ∷ pos 1 on pos 1 ∷ pos 2 on pos 2 ∷ [])

abbrev pub over_none : Kind → Side → Sentence
over_none k sd = sentence_with 1 k sd (pos 0) []

-- ---- the rows

abbrev pub examples : List Example
examples =
    example_of m1 (pos 5 ∷ minus 4 ∷ []) (at (pos 2)) (at (pos 9)) silent
    ∷ example_of m1 (pos 1 ∷ pos 6 ∷ []) (at (minus 7)) (at (pos 5)) (forced (pos 5))
    ∷ example_of m1 (pos 5 ∷ pos 1 ∷ pos 6 ∷ []) (at (pos 2)) (at (pos 5)) silent
    ∷ example_of m3 [] (at (minus 5)) (at (pos 5)) silent
    ∷ example_of m4 [] (at (pos 0)) (at (pos 3)) silent
    ∷ example_of m4 (pos 1 ∷ pos 3 ∷ []) (at (pos 1)) (at (pos 3)) (forced (minus 2))
    ∷ example_of m4 (pos 2 ∷ pos 1 ∷ pos 3 ∷ []) (at (pos 3)) (at (pos 3)) conflict
    ∷ example_of m4 (minus 1 ∷ minus 3 ∷ []) (at (pos 0)) (at (pos 2)) (forced (pos 2))
    ∷ example_of m10 (pos 3 ∷ []) (at (pos 1)) (at (pos 6)) silent
    ∷ example_of m10 (pos 1 ∷ pos 3 ∷ []) (at (pos 2)) (at (pos 6)) (forced (minus 2))
    ∷ example_of product_twice (pos 4 ∷ []) (at (pos 1)) (at (pos 12)) (forced (pos 1))
    ∷ example_of product_twice (pos 1 ∷ pos 4 ∷ []) (at (pos 4)) (at (pos 12)) (forced (minus 2))
    ∷ example_of (over_none product upper) [] (at (pos 1)) (at (pos 1)) (forced (minus 1))
    ∷ example_of count_twice (pos 4 ∷ []) (at (pos 0)) (at (pos 2)) (forced (pos 1))
    ∷ example_of count_mixed (pos 4 ∷ []) (at (pos 1)) (at (pos 2)) (forced (minus 2))
    ∷ example_of m8 (pos 3 ∷ []) below (at (pos 0)) (forced (pos 1))
    ∷ example_of max_twice (pos 3 ∷ []) below (at (pos 7)) (forced (minus 2))
    ∷ example_of max_twice (minus 2 ∷ []) below (at (pos 5)) (forced (pos 3))
    ∷ example_of (over_none maximum upper) [] below below (forced (pos 1))
    ∷ example_of (over_none maximum lower) [] below below (forced (minus 1))
    ∷ example_of m9 (pos 3 ∷ []) (at (pos 5)) above (forced (minus 1))
    ∷ example_of m9 (minus 1 ∷ []) (at (pos 8)) above (forced (pos 3))
    ∷ example_of min_twice (pos 3 ∷ []) (at (pos 1)) above (forced (pos 1))
    ∷ example_of (over_none minimum upper) [] above above (forced (minus 1))
    ∷ example_of (over_none minimum lower) [] above above (forced (pos 1))
    ∷ []
