-- What the calls mean, by full assignments: what propagate puts on and where it stops, the bounds of a sentence, the explanation of a derived
-- literal and of a conflict, and the origins of a literal.
use Rattle.std.specs.Prelude.{◌≡◌, true, ◌⊎◌, List, [], ◌∷◌, ◌++◌, reverse, ℕ, zero, suc, ◌<◌, ℤ, neg_ℤ}
use Rattle.numbers.specs.Extended.{Extended, up, down}
use Rattle.meaning.specs.Meaning.{Assignment, holds, Sentence, Satisfied, Agrees, Furthest, Conflicting, silent, forced, Says, Each}
use Rattle.meaning.specs.Merge.{rule_of, scope}
use Rattle.book.specs.Rows.{Row, trail, row_of}

-- ---- lists

-- x is number k of the list, counted from 1
module _ {A : Type 0} where
  abbrev pub IsNumber : ℕ → List A → A → Type 0
  IsNumber k [] x = ⊥
  IsNumber zero (y ∷ ys) x = ⊥
  IsNumber (suc zero) (y ∷ ys) x = y ≡ x
  IsNumber (suc (suc k)) (y ∷ ys) x = IsNumber (suc k) ys x

abbrev pub Among : ℤ → List ℤ → Type 0
Among l [] = ⊥
Among l (x ∷ xs) = (l ≡ x) ⊎ Among l xs

-- some element has the property
module _ {A : Type 0} (P : A → Type 0) where
  abbrev pub Some : List A → Type 0
  Some [] = ⊥
  Some (x ∷ xs) = P x ⊎ Some xs

abbrev pub NoTwice : List ℤ → Type 0
NoTwice [] = Unit {0}
NoTwice (x ∷ xs) = (¬ (Among x xs)) × NoTwice xs

-- some of the elements, in their order
pub data Subsequence : List ℤ → List ℤ → Type 0 where
  ends : Subsequence [] []
  takes : {x : ℤ} {xs ys : List ℤ} → Subsequence xs ys → Subsequence (x ∷ xs) (x ∷ ys)
  skips : {y : ℤ} {xs ys : List ℤ} → Subsequence xs ys → Subsequence xs (y ∷ ys)

-- ---- propagate

-- satisfiable, and no open literal is forced
abbrev pub SaysNothing : List ℤ → Sentence → Type 0
SaysNothing t s = Says s t [] silent

-- satisfiable, and the literal is the first that is forced
abbrev pub ForcesFirst : List ℤ → ℤ → Sentence → Type 0
ForcesFirst t l s = Says s t (scope (rule_of s)) (forced l)

-- the sentence of number k, which has the property, and those before it are silent
pub record Speaker (t : List ℤ) (P : Sentence → Type 0) (ss : List Sentence) (k : ℕ) : Type 0 where
  pub sentence : Sentence
  pub number : IsNumber k ss sentence
  pub speaks : P sentence
  pub earlier : (i : ℕ) (s : Sentence) → i < k → IsNumber i ss s → SaysNothing t s

-- sentence k is the lowest-numbered one that has something to say over the trail, and that is a conflict
abbrev pub FirstConflict : List Sentence → List ℤ → ℕ → Type 0
FirstConflict ss t k = Speaker t (λ s. Conflicting s t) ss k

-- the rows put on over some rows: each at the level v, its literal the first that its reason forces over the rows before it, where the
-- reason is the lowest-numbered sentence that has something to say
module _ (ss : List Sentence) (v : ℕ) (rs : List Row) where
  pub record DerivedRow (r : Row) (before : List Row) : Type 0 where
    pub level_is : r.level ≡ v
    pub forced_by : Speaker (trail before) (ForcesFirst (trail before) r.literal) ss r.reason

  abbrev pub DerivedRows : List Row → Type 0
  DerivedRows [] = Unit {0}
  DerivedRows (r ∷ added) = DerivedRow r (added ++ rs) × DerivedRows added

  pub record Additions (rows : List Row) : Type 0 where
    pub added : List Row
    pub rows_are : rows ≡ added ++ rs
    pub derived : DerivedRows added

-- ---- bounds

-- the least and the greatest value of sentence k over the trail
pub record Bounded (ss : List Sentence) (t : List ℤ) (k : ℕ) (v w : Extended) : Type 0 where
  pub sentence : Sentence
  pub number : IsNumber k ss sentence
  pub least : Furthest down sentence t v
  pub greatest : Furthest up sentence t w

-- ---- explanations

-- the clause is entailed by the sentence alone
abbrev pub EntailedBy : Sentence → List ℤ → Type 0
EntailedBy s ls = (σ : Assignment) → Satisfied σ s → Some (λ m. holds σ m ≡ true) ls

-- every literal of the list is false on the trail
abbrev pub AllFalse : List ℤ → List ℤ → Type 0
AllFalse t ls = Each (λ m. Among (neg_ℤ m) t) ls

-- a derived literal's explanation: a clause of its reason, whose other literals are false before the literal
pub record Explains (ss : List Sentence) (rows : List Row) (l : ℤ) (named : List ℤ) : Type 0 where
  pub sentence : Sentence
  pub number : IsNumber (row_of l rows).mine.reason ss sentence
  pub entailed : EntailedBy sentence named
  pub others : List ℤ
  pub list_is : named ≡ l ∷ others
  pub others_false : AllFalse (trail (row_of l rows).before) others

-- a conflict's: a clause of the sentence, whose literals are all false
pub record ExplainsConflict (ss : List Sentence) (rows : List Row) (k : ℕ) (named : List ℤ) : Type 0 where
  pub sentence : Sentence
  pub number : IsNumber k ss sentence
  pub entailed : EntailedBy sentence named
  pub literals_false : AllFalse (trail rows) named

-- ---- origins

-- o was given, and stands in l's row or in one before it
pub record GivenNoLater (rows : List Row) (l o : ℤ) : Type 0 where
  pub no_later : Among o (l ∷ trail (row_of l rows).before)
  pub given : (row_of o rows).mine.reason ≡ 0

-- the origins of l, as they are listed: given literals, each once, in the order of the trail, and with all sentences they entail l
pub record OriginList (ss : List Sentence) (rows : List Row) (l : ℤ) (named : List ℤ) : Type 0 where
  pub given : Each (GivenNoLater rows l) named
  pub entailed : (σ : Assignment) → Agrees σ named → Each (Satisfied σ) ss → holds σ l ≡ true
  pub once : NoTwice named
  pub ordered : Subsequence named (reverse (trail rows))
