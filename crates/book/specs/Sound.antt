-- What holds of a book at every step: the atoms of its sentences are 1 to N and nothing outside a sentence's scope counts; its rows are of atoms
-- 1 to N, each atom once, levels do not rise going back, and every derived literal is forced by its reason over the rows before it. And how
-- propagate goes from rows to rows.
use Rattle.std.specs.Prelude.{◌≡◌, ◌⊎◌, List, [], ◌∷◌, ℕ, ◌≤◌, ℤ}
use Rattle.meaning.specs.Meaning.{Assignment, atom, Sentence, Satisfied, Forces, On, Each}
use Rattle.meaning.specs.Merge.{rule_of, scope}
use Rattle.book.specs.Rows.{Row, a_row, trail}
use Rattle.book.specs.Table.{Judged, nothing, conflicts, derives, first_to_speak}
use Rattle.book.specs.Book.{Judges, Book}
use Rattle.book.specs.Means.{IsNumber}

-- ---- a list of judgements, one for each sentence

pub data JudgesAll : List Sentence → List Judged → Type 0 where
  none : JudgesAll [] []
  more : {s : Sentence} {j : Judged} {ss : List Sentence} {js : List Judged} → Judges s j → JudgesAll ss js → JudgesAll (s ∷ ss) (j ∷ js)

-- ---- the atoms of a sentence

abbrev pub In : ℕ → List ℕ → Type 0
In a [] = ⊥
In a (b ∷ bs) = (b ≡ a) ⊎ In a bs

abbrev pub Within : ℕ → ℕ → Type 0
Within n a = (1 ≤ a) × (a ≤ n)

-- the atoms that a sentence is scanned at are 1 to n
abbrev pub Scoped : ℕ → Sentence → Type 0
Scoped n s = Each (Within n) (scope (rule_of s))

-- no atom outside the list counts
pub record BlindOutside (sc : List ℕ) (s : Sentence) : Type 0 where
  pub unseen : (σ σ' : Assignment) → ((a : ℕ) → In a sc → σ' a ≡ σ a) → Satisfied σ s → Satisfied σ' s

abbrev pub Blind : Sentence → Type 0
Blind s = BlindOutside (scope (rule_of s)) s

-- ---- the rows

module _ (n : ℕ) (ss : List Sentence) where
  -- the reason is a sentence that has the atom in its scope and forces the literal
  pub record RowReasoned (r : Row) (before : List Row) : Type 0 where
    pub sentence : Sentence
    pub number : IsNumber r.reason ss sentence
    pub inside : In (atom r.literal) (scope (rule_of sentence))
    pub forces : Forces sentence (trail before) r.literal

  pub record Sits (v : ℕ) (r : Row) (before : List Row) : Type 0 where
    pub low : r.level ≤ v
    pub atom_within : Within n (atom r.literal)
    pub off : ¬ (On (atom r.literal) (trail before))
    pub reason_is : (r.reason ≡ 0) ⊎ RowReasoned r before

  abbrev pub Sound : ℕ → List Row → Type 0
  Sound v [] = Unit {0}
  Sound v (r ∷ rs) = Sits v r rs × Sound r.level rs

abbrev pub SoundBook : Book → Type 0
SoundBook b = Sound b.atoms b.sentences b.level b.rows

-- ---- propagate

-- step after step, until nothing is said (0) or sentence k is in conflict (k)
pub data Runs (js : List Judged) (v : ℕ) : List Row → ℕ → List Row → Type 0 where
  rests : {rs : List Row} → first_to_speak 1 js (trail rs) ≡ nothing → Runs js v rs 0 rs
  stopped : {rs : List Row} {k : ℕ} → first_to_speak 1 js (trail rs) ≡ conflicts k → Runs js v rs k rs
  puts : {rs rs' : List Row} {k e : ℕ} {l : ℤ} → first_to_speak 1 js (trail rs) ≡ derives k l → Runs js v (a_row l v k ∷ rs) e rs' → Runs js v rs e rs'
