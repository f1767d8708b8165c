-- The merge rules of document 01, as a function on written sets: one entry an atom, at the place of its first mention, and a constant.
use Rattle.std.specs.Prelude.{cond, List, [], ◌∷◌, ℤ, pos, negsuc, neg_ℤ, ◌+ℤ◌, ◌-ℤ◌, ◌*ℤ◌, ℕ, suc, length}
use Rattle.std.specs.Int.Signed.{le_z}
use Rattle.numbers.specs.Extended.{Extended, below, at, above}
use Rattle.meaning.specs.Meaning.{Assignment, Entry, entry_atom, chosen, Kind, sum, product, count, maximum, minimum, aggregate, same, members, Side, Sentence}

pub record Merged : Type 0 where
  pub constant : ℤ
  pub entries : List Entry

-- ---- sums and counts: a weight w on -a is -w on a, and w in the constant

abbrev pub turned_by : ℤ → ℤ → Entry
turned_by w (pos a) = record { weight = w; literal = pos a }
turned_by w (negsuc a) = record { weight = neg_ℤ w; literal = pos (suc a) }

abbrev pub freed_by : ℤ → ℤ → ℤ
freed_by w (pos a) = pos 0
freed_by w (negsuc a) = w

unfoldable pub turned_all : List Entry → List Entry
turned_all [] = []
turned_all (e ∷ es) = turned_by e.weight e.literal ∷ turned_all es

unfoldable pub freed_all : List Entry → ℤ
freed_all [] = pos 0
freed_all (e ∷ es) = freed_by e.weight e.literal +ℤ freed_all es

abbrev pub turned : Kind → List Entry → List Entry
turned sum es = turned_all es
turned product es = es
turned count es = turned_all es
turned maximum es = es
turned minimum es = es

abbrev pub constant : Kind → List Entry → ℤ
constant sum es = freed_all es
constant product es = pos 0
constant count es = freed_all es
constant maximum es = pos 0
constant minimum es = pos 0

-- ---- the same literal twice: sums add, products multiply, max keeps the larger weight, min the smaller

abbrev pub joined : Kind → ℤ → ℤ → ℤ
joined sum v w = v +ℤ w
joined product v w = v *ℤ w
joined count v w = v +ℤ w
joined maximum v w = cond (le_z v w) w v
joined minimum v w = cond (le_z v w) v w

-- one entry more: onto the entry with its literal, or behind all the others
unfoldable pub put : Kind → List Entry → Entry → List Entry
put k [] e = e ∷ []
put k (x ∷ xs) e =
    cond (same x.literal e.literal) (record { weight = joined k x.weight e.weight; literal = x.literal } ∷ xs) (x ∷ put k xs e)

unfoldable pub collect : Kind → List Entry → List Entry → List Entry
collect k xs [] = xs
collect k xs (e ∷ es) = collect k (put k xs e) es

-- ---- weight 0 is dropped, in sums and counts only

unfoldable pub nonzero : List Entry → List Entry
nonzero [] = []
nonzero (e ∷ es) = cond (same e.weight (pos 0)) (nonzero es) (e ∷ nonzero es)

abbrev pub kept : Kind → List Entry → List Entry
kept sum es = nonzero es
kept product es = es
kept count es = nonzero es
kept maximum es = es
kept minimum es = es

-- ---- the merge

abbrev pub merge : Kind → List Entry → Merged
merge k es = record { constant = constant k (members k es); entries = kept k (collect k [] (turned k (members k es))) }

-- a value, and a constant more
abbrev pub raised : ℤ → Extended → Extended
raised c below = below
raised c (at z) = at (c +ℤ z)
raised c above = above

-- the value of a merged set, its constant included
unfoldable pub merged_value : Kind → Merged → Assignment → Extended
merged_value k m σ = raised m.constant (aggregate k (chosen σ m.entries))

-- ---- a sentence as it is stored: merged, with the number of entries that were written

pub record Rule : Type 0 where
  pub head : ℕ
  pub kind : Kind
  pub side : Side
  pub bound : ℤ
  pub set : Merged
  pub written : ℕ

-- the sentence with a set that stands for its own
abbrev pub rule_with : Sentence → Merged → Rule
rule_with s m = record { head = s.head; kind = s.kind; side = s.side; bound = s.bound; set = m; written = length s.entries }

abbrev pub rule_of : Sentence → Rule
rule_of s = rule_with s (merge s.kind s.entries)

abbrev pub entry_atoms : List Entry → List ℕ
entry_atoms [] = []
entry_atoms (e ∷ es) = entry_atom e ∷ entry_atoms es

-- a rule's atoms in the order in which it is scanned: the head, then the merged entries
abbrev pub scope : Rule → List ℕ
scope r = r.head ∷ entry_atoms r.set.entries

-- ---- a rule as a sentence of its own

-- merging gives a count's entries weights, so that its value is a sum
abbrev pub merged_kind : Kind → Kind
merged_kind sum = sum
merged_kind product = product
merged_kind count = sum
merged_kind maximum = maximum
merged_kind minimum = minimum

-- over the merged entries, with the constant taken off the bound
abbrev pub as_sentence : Rule → Sentence
as_sentence r =
    record { head = r.head; kind = merged_kind r.kind; side = r.side; bound = r.bound -ℤ r.set.constant; entries = r.set.entries }
