-- What gathering a written set asks and holds: the entries that the first words of a part hold, the table of their places by literal, the
-- table of the literals mentioned, and the merge of the entries taken so far.
use Rattle.std.specs.Prelude.{◌≡◌, Bool, true, false, not, cond, List, [], ◌∷◌, ◌++◌, ℕ, zero, suc, ◌+◌, ◌*◌, ◌<◌, ◌≤◌, ℤ, pos, nat_abs, length, get_or, take, T}
use Rattle.std.specs.Int.Signed.{le_z}
use Rattle.types.specs.Limits.{weight_limit, bound_limit, widest}
use Rattle.numbers.specs.Words.{unbias, literal_word}
use Rattle.meaning.specs.Meaning.{atom, Entry, Kind, sum, product, count, maximum, minimum, same, members, mixes, multiplied, Each, entry_atom}
use Rattle.meaning.specs.Merge.{turned, constant, put, collect}
use Rattle.kinds.specs.Kinds.{weight_fits}
use Rattle.area.specs.Layout.{word, entry_of, entries_of}
use Rattle.area.specs.Whole.{weights_of}
use Rattle.columns.specs.Refusals.{some_entry, both_signs}
use Rattle.columns.specs.Columns.{paired}
use Rattle.entry_words.specs.Inner.Entries.{Joinable}
use Rattle.gather.specs.declared.Merged.{Merged}

-- ---- what is asked

-- an accepted set, with a part of two words an entry
pub record Mergeable (part : List ℕ) (kind : Kind) (ws ls : List ℤ) : Type 0 where
  pub room : length part ≡ 2 * length ws
  pub same : length ls ≡ length ws
  pub few : length ws ≤ widest.each
  pub literals : Each (λ e. (1 ≤ entry_atom e) × (entry_atom e ≤ widest.atoms)) (paired ws ls)
  pub weights : Each (λ e. T (weight_fits kind e.weight)) (paired ws ls)
  pub signs : T (not (mixes kind)) → both_signs (paired ws ls) ≡ false
  pub product : kind ≡ product → T (le_z (multiplied (weights_of (paired ws ls))) (pos bound_limit))

-- ---- entries held

-- the entries that the first 2 × n words hold
abbrev pub first_entries : List ℕ → ℕ → List Entry
first_entries w n = entries_of (take (2 * n) w)

-- one place further, where there is one
abbrev pub after : ℕ → ℕ
after zero = 0
after (suc k) = suc (suc k)

-- 1 more than the place of the entry with the literal, or 0
unfoldable pub slot : List Entry → ℤ → ℕ
slot [] l = 0
slot (x ∷ xs) l = cond (same x.literal l) 1 (after (slot xs l))

-- the table has the slot of each literal, at the literal's word
pub record Places (table : List ℕ) (xs : List Entry) : Type 0 where
  pub size : length table ≡ 8194
  pub each : (l : ℤ) → atom l ≤ widest.atoms → get_or table (literal_word l) 0 ≡ slot xs l

-- what putting one entry more asks and leaves
pub record PutReady (part table : List ℕ) (n : ℕ) (kind : Kind) (x l : ℕ) : Type 0 where
  pub room : 2 * n + 1 < length part
  pub few : n < widest.each
  pub low : 2 ≤ l
  pub high : l ≤ 8193
  pub places : Places table (first_entries part n)
  pub joinable : Each (λ e. Joinable kind e.weight (unbias x)) (first_entries part n)

-- no literal is the word 0 or 1
abbrev pub Literals : List ℕ → ℕ → Type 0
Literals part n = (i : ℕ) → i < n → 2 ≤ word part (2 * i + 1)

pub record PutInto (before part table : List ℕ) (n : ℕ) (kind : Kind) (x l r : ℕ) : Type 0 where
  pub entries : first_entries part r ≡ put kind (first_entries before n) (entry_of x l)
  pub places : Places table (first_entries part r)
  pub literals : Literals before n → Literals part r
  pub most : r ≤ n + 1

-- ---- literals mentioned

abbrev pub mentioned : ℤ → List Entry → Bool
mentioned l es = some_entry (λ x. same x.literal l) es

-- the table tells of each literal whether it is mentioned, at the literal's word
pub record Seen (table : List Bool) (es : List Entry) : Type 0 where
  pub size : length table ≡ 8194
  pub each : (l : ℤ) → atom l ≤ widest.atoms → get_or table (literal_word l) false ≡ mentioned l es

-- a count takes a literal once
abbrev pub taken : Kind → Bool → Bool
taken sum b = true
taken product b = true
taken count b = not b
taken maximum b = true
taken minimum b = true

-- ---- the first pass

-- the members of es are collected: n entries, and the constant's word c
pub record Collected (kind : Kind) (es : List Entry) (part : List ℕ) (n c : ℕ) : Type 0 where
  pub entries : first_entries part n ≡ collect kind [] (turned kind (members kind es))
  pub literals : Literals part n
  pub few : n ≤ length es
  pub constant_is : unbias c ≡ constant kind (members kind es)

-- the same while more are to come: with the tables, and far from the words' ends
pub record Gathered (kind : Kind) (es : List Entry) (part table : List ℕ) (seen : List Bool) (n c : ℕ) : Type 0 where
  pub collected : Collected kind es part n c
  pub places : Places table (first_entries part n)
  pub seen_is : Seen seen es
  pub small : T (mixes kind) → Each (λ e. nat_abs e.weight ≤ weight_limit * length es) (first_entries part n)
  pub near : nat_abs (unbias c) ≤ weight_limit * length es

-- an entry, as words, may be taken after es, into a part of so many words
pub record Takeable (kind : Kind) (es : List Entry) (x l words : ℕ) : Type 0 where
  pub few : length es < widest.each
  pub room : 2 * length es + 1 < words
  pub low : 2 ≤ l
  pub high : l ≤ 8193
  pub fits : T (weight_fits kind (unbias x))
  pub fit : Each (λ e. T (weight_fits kind e.weight)) es
  pub product : kind ≡ product → T (le_z (multiplied (weights_of (es ++ (entry_of x l ∷ [])))) (pos bound_limit))

-- what taking one entry more asks and leaves
pub record Addable (part table : List ℕ) (seen : List Bool) (kind : Kind) (x l : ℕ) (m : Merged) : Type 0 where
  pub before : List Entry
  pub gathered : Gathered kind before part table seen m.count m.constant
  pub takeable : Takeable kind before x l (length part)

-- whatever entries were taken before
pub record EntryAdded (part table : List ℕ) (seen : List Bool) (part' table' : List ℕ) (seen' : List Bool) (kind : Kind) (x l : ℕ) (m r : Merged) : Type 0 where
  pub next : (es : List Entry) → Gathered kind es part table seen m.count m.constant → Takeable kind es x l (length part)
      → Gathered kind (es ++ (entry_of x l ∷ [])) part' table' seen' r.count r.constant
