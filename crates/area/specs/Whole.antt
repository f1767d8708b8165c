-- When a work area is whole: the clauses of document 01's paragraph under its table, in its order, about any list of words and any
-- counters.
use Rattle.std.specs.Prelude.{◌≡◌, false, not, List, [], ◌∷◌, ℕ, suc, ◌+◌, ◌*◌, ◌<◌, ◌≤◌, ◌%◌, length, get_or, ℤ, pos, nat_abs, T}
use Rattle.std.specs.Int.Signed.{le_z}
use Rattle.types.specs.declared.Limits.{Limits}
use Rattle.types.specs.Limits.{weight_limit, bound_limit}
use Rattle.numbers.specs.Extended.{up, down}
use Rattle.numbers.specs.Words.{word as word_of}
pub use Rattle.meaning.specs.Meaning.{weights_of, DistinctAtoms}
use Rattle.meaning.specs.Meaning.{atom, Entry, entry_atom, Kind, sum, product, count, maximum, minimum, mixes, multiplied, Each, silent}
use Rattle.meaning.specs.Merge.{Rule, scope}
use Rattle.meaning.specs.Computed.{extreme, first_said}
use Rattle.book.specs.Rows.{Row, trail}
use Rattle.book.specs.Book.{Counters}
use Rattle.area.specs.Layout.{word, atoms_of, sentences_of, length_of, level_of, value_at, literal_at, cause_at, row_at, place_at, rows_of, value_word, record_at, tag_at, pending_at, least_at, greatest_at, before_at, written_at, merged_at, entry_at, rule_at, entries_before, need_of}

-- ---- the stored theory passes load's rules and is merged

-- at most `limit` in size
abbrev pub Near : ℤ → ℕ → Type 0
Near z limit = nat_abs z ≤ limit

-- a merged sum or count has one entry an atom, on the atom itself, with a weight that is not 0 and at most 10^9 for each written entry
pub record SumWeight (written : ℕ) (e : Entry) : Type 0 where
  pub itself : e.literal ≡ pos (entry_atom e)
  pub something : ¬ (e.weight ≡ pos 0)
  pub size : Near e.weight (weight_limit * written)

-- a merged product weight is 1 to 10^18
pub record ProductWeight (e : Entry) : Type 0 where
  pub low : T (le_z (pos 1) e.weight)
  pub high : Near e.weight bound_limit

abbrev pub WeightWhole : Kind → ℕ → Entry → Type 0
WeightWhole sum written e = SumWeight written e
WeightWhole product written e = ProductWeight e
WeightWhole count written e = SumWeight written e
WeightWhole maximum written e = Near e.weight weight_limit
WeightWhole minimum written e = Near e.weight weight_limit

pub record EntryWhole (n head : ℕ) (kind : Kind) (written : ℕ) (e : Entry) : Type 0 where
  pub atom_low : 1 ≤ entry_atom e
  pub atom_high : entry_atom e ≤ n
  pub weighs : WeightWhole kind written e
  pub other : ¬ (entry_atom e ≡ head)

-- load's rules 3 to 8 for a stored sentence, and that it is merged
pub record RuleWhole (lim : Limits) (n : ℕ) (r : Rule) : Type 0 where
  pub few : r.written ≤ lim.each
  pub head_low : 1 ≤ r.head
  pub head_high : r.head ≤ n
  pub bound : Near r.bound bound_limit
  pub constant : Near r.set.constant (weight_limit * r.written)
  pub entries : Each (EntryWhole n r.head r.kind r.written) r.set.entries
  pub once : DistinctAtoms r.set.entries
  pub product : r.kind ≡ product → T (le_z (multiplied (weights_of r.set.entries)) (pos bound_limit))

-- the words of sentence s hold a sentence, with room for its written entries behind those of the sentences before it
pub record SentenceWhole (lim : Limits) (w : List ℕ) (n S s : ℕ) : Type 0 where
  pub kind : tag_at w (record_at n s) % 8 ≤ 4
  pub tag : tag_at w (record_at n s) < 32
  pub place : before_at w (record_at n s) ≡ entries_before w n s
  pub merged : merged_at w (record_at n s) ≤ written_at w (record_at n s)
  pub rule : RuleWhole lim n (rule_at w n S (record_at n s))

pub record TheoryWhole (lim : Limits) (w : List ℕ) : Type 0 where
  pub atoms_low : 1 ≤ atoms_of w
  pub atoms_high : atoms_of w ≤ lim.atoms
  pub sentences : sentences_of w ≤ lim.sentences
  pub entries : entries_before w (atoms_of w) (sentences_of w) ≤ lim.entries
  pub each : (s : ℕ) → s < sentences_of w → SentenceWhole lim w (atoms_of w) (sentences_of w) s

-- ---- the trail

-- trail literals are of atoms, each atom once, and agree with the stored values
abbrev pub AtomsOnce : ℕ → List Row → Type 0
AtomsOnce n [] = Unit {0}
AtomsOnce n (r ∷ rs) = ((1 ≤ atom r.literal) × (atom r.literal ≤ n) × Each (λ x. ¬ (atom x.literal ≡ atom r.literal)) rs) × AtomsOnce n rs

pub record TrailWhole (w : List ℕ) : Type 0 where
  pub atoms : AtomsOnce (atoms_of w) (rows_of w)
  pub values : (a : ℕ) → 1 ≤ a → a ≤ atoms_of w → value_at w (atoms_of w) a ≡ value_word (rows_of w) a

-- levels do not fall along the trail or pass v
abbrev pub Rising : ℕ → List Row → Type 0
Rising v [] = Unit {0}
Rising v (r ∷ rs) = (r.level ≤ v) × Rising r.level rs

-- the reason of row i is 0, or the number of a sentence that has the row's atom as head or merged entry, at the stored place
pub record Reasoned (w : List ℕ) (n S i : ℕ) : Type 0 where
  pub few : (row_at w n i).reason ≤ S
  pub given : (row_at w n i).reason ≡ 0 → place_at w n i ≡ 0
  pub derived : (s : ℕ) → (row_at w n i).reason ≡ suc s → get_or (scope (rule_at w n S (record_at n s))) (place_at w n i) 0 ≡ atom (row_at w n i).literal

-- ---- bounds, unused words, silence

-- the stored bounds of the sentence at b match the trail
pub record BoundsMatch (w : List ℕ) (n S b : ℕ) (t : List ℤ) : Type 0 where
  pub least : least_at w b ≡ word_of (extreme down (rule_at w n S b) t)
  pub greatest : greatest_at w b ≡ word_of (extreme up (rule_at w n S b) t)

-- unused words are 0: behind word 0, past the trail, a constant that the kind has not, and room that merging left
pub record UnusedZero (w : List ℕ) : Type 0 where
  pub front : (i : ℕ) → 1 ≤ i → i < atoms_of w → word w i ≡ 0
  pub literals : (i : ℕ) → length_of w ≤ i → i < atoms_of w → literal_at w (atoms_of w) i ≡ 0
  pub marks : (i : ℕ) → length_of w ≤ i → i < atoms_of w → cause_at w (atoms_of w) i ≡ 0
  pub constants : (s : ℕ) → s < sentences_of w → T (not (mixes (rule_at w (atoms_of w) (sentences_of w) (record_at (atoms_of w) s)).kind))
      → word w (record_at (atoms_of w) s + 3) ≡ 0
  pub entries : (s i : ℕ) → s < sentences_of w → 2 * merged_at w (record_at (atoms_of w) s) ≤ i → i < 2 * written_at w (record_at (atoms_of w) s)
      → word w (entry_at w (atoms_of w) (sentences_of w) (record_at (atoms_of w) s) + i) ≡ 0

-- ---- whole

pub record Whole (lim : Limits) (w : List ℕ) (c : Counters) : Type 0 where
  pub enough : need_of w ≤ length w
  pub theory : TheoryWhole lim w
  pub trail_right : TrailWhole w
  pub rising : Rising (level_of w) (rows_of w)
  pub level_limit : level_of w ≤ lim.levels
  pub reasons : (i : ℕ) → i < length_of w → Reasoned w (atoms_of w) (sentences_of w) i
  pub bounds : (s : ℕ) → s < sentences_of w → BoundsMatch w (atoms_of w) (sentences_of w) (record_at (atoms_of w) s) (trail (rows_of w))
  pub length_is : length_of w ≡ c.length_is
  pub level_is : level_of w ≡ c.level_is
  pub unused : UnusedZero w
  -- a sentence not marked as pending has nothing to say
  pub quiet : (s : ℕ) → s < sentences_of w → pending_at w (record_at (atoms_of w) s) ≡ false
      → first_said (rule_at w (atoms_of w) (sentences_of w) (record_at (atoms_of w) s)) (trail (rows_of w)) ≡ silent
