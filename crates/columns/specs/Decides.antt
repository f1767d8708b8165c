-- What it is that a list of refusals decides an answer, both ways; and what an accepted load keeps to.
use Rattle.std.specs.Prelude.{◌≡◌, true, false, List, [], ◌∷◌, ◌⊎◌, ℕ, ◌+◌, ◌<◌, ◌≤◌, length, get_or}
use Rattle.types.specs.declared.Limits.{Limits}
use Rattle.decide.specs.Below.{sum_first}
use Rattle.meaning.specs.Meaning.{Each}
use Rattle.book.specs.Table.{Refusal}
use Rattle.columns.specs.Columns.{Columns, written_at}
use Rattle.columns.specs.Refusals.{misshapen, columns_need}
use Rattle.columns.specs.Indexed.{Sizes, sizes, Passes}
pub use Rattle.columns.specs.Answers.{answer}
use Rattle.columns.specs.declared.Answer.{Answer}

-- the answer is the first refusal that applies
abbrev pub First : List Refusal → Answer → Type 0
First [] a = ⊥
First (r ∷ rs) a = ((r.applies ≡ true) × (a ≡ answer r.code r.value)) ⊎ ((r.applies ≡ false) × First rs a)

-- the code is 0 where none applies and only there, and otherwise that of the first that applies
pub record Decides (rs : List Refusal) (a : Answer) : Type 0 where
  pub none : a.code ≡ 0 → Each (λ r. r.applies ≡ false) rs
  pub nothing : Each (λ r. r.applies ≡ false) rs → a ≡ answer 0 0
  pub first : ¬ (a.code ≡ 0) → First rs a

-- ---- what an accepted load keeps to

pub record Limited (lim : Limits) (n sentences entries : ℕ) : Type 0 where
  pub low : 1 ≤ n
  pub high : n ≤ lim.atoms
  pub few_sentences : sentences ≤ lim.sentences
  pub few_entries : entries ≤ lim.entries

pub record Equal (s : Sizes) : Type 0 where
  pub kinds : s.kinds ≡ s.heads
  pub sides : s.sides ≡ s.heads
  pub bounds : s.bounds ≡ s.heads
  pub counts : s.counts ≡ s.heads
  pub literals : s.literals ≡ s.weights

pub record Shaped (lim : Limits) (n : ℕ) (c : Columns) : Type 0 where
  pub within : Limited lim n (length c.heads) (length c.weights)
  pub equals : Equal (sizes c)
  pub sum : sum_first c.counts (length c.counts) ≡ length c.weights

pub record Accepted (lim : Limits) (words n : ℕ) (c : Columns) : Type 0 where
  pub in_shape : misshapen lim n c ≡ false
  pub enough : columns_need n c ≤ words
  pub passes : (s : ℕ) → s < length c.heads → Passes lim n (written_at c s)
  -- by `in_shape`
  pub shape : Shaped lim n c
  pub entries_within : (s : ℕ) → s < length c.heads → sum_first c.counts s + get_or c.counts s 0 ≤ length c.weights
