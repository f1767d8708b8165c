-- The refusals of load, 1 to 8, in document 01's order: 1 and 2 first, then sentence by sentence 3 to 8.
use Rattle.std.specs.Prelude.{Bool, false, not, cond, ◌||◌, ◌&&◌, List, [], ◌∷◌, ◌++◌, ℕ, suc, ◌+◌, ◌*◌, ℤ, pos, neg_ℤ, length, eqb, ltb}
use Rattle.std.specs.Int.Signed.{le_z}
use Rattle.types.specs.declared.Limits.{Limits}
use Rattle.types.specs.Limits.{bound_limit}
use Rattle.decide.specs.Below.{sum_first}
use Rattle.meaning.specs.Meaning.{Entry, entry_atom, product, mixes, same, multiplied}
use Rattle.meaning.specs.Merge.{merge}
use Rattle.kinds.specs.Kinds.{between, weight_fits}
use Rattle.book.specs.Table.{Refusal}
use Rattle.area.specs.Layout.{kind_of}
use Rattle.area.specs.Whole.{weights_of}
use Rattle.columns.specs.Columns.{Columns, Written, all_written}
use Rattle.columns.specs.declared.Answer.{Answer}

-- p holds of some entry
unfoldable pub some_entry : (Entry → Bool) → List Entry → Bool
some_entry p [] = false
some_entry p (e ∷ es) = p e || some_entry p es

-- 1: a count above its limit, N 0, columns that belong together unequal in length, or counts that do not add up to the entries
abbrev pub misshapen : Limits → ℕ → Columns → Bool
misshapen lim n c =
    eqb n 0 || ltb lim.atoms n || ltb lim.sentences (length c.heads) || ltb lim.entries (length c.weights)
    || not (eqb (length c.kinds) (length c.heads)) || not (eqb (length c.sides) (length c.heads))
    || not (eqb (length c.bounds) (length c.heads)) || not (eqb (length c.counts) (length c.heads))
    || not (eqb (length c.literals) (length c.weights))
    || not (eqb (sum_first c.counts (length c.counts)) (length c.weights))

-- the words that the area needs
abbrev pub columns_need : ℕ → Columns → ℕ
columns_need n c = 4 * n + 8 * length c.heads + 2 * length c.weights

-- 3: kind above 4, side above 1, or too many entries
abbrev pub unknown : Limits → Written → Bool
unknown lim x = ltb 4 x.kind || ltb 1 x.side || ltb lim.each (length x.entries)

-- 4: head not 1 to N, or a literal 0 or of no atom
abbrev pub outside : ℕ → ℕ → Bool
outside n a = eqb a 0 || ltb n a

abbrev pub strange : ℕ → Written → Bool
strange n x = outside n x.head || some_entry (λ e. outside n (entry_atom e)) x.entries

-- 5: weight or bound outside its range
abbrev pub bound_fits : ℤ → Bool
bound_fits b = between (neg_ℤ (pos bound_limit)) (pos bound_limit) b

abbrev pub out_of_range : Written → Bool
out_of_range x = some_entry (λ e. not (weight_fits (kind_of x.kind) e.weight)) x.entries || not (bound_fits x.bound)

-- 6: head's atom in its own written set
abbrev pub own_head : Written → Bool
own_head x = some_entry (λ e. eqb (entry_atom e) x.head) x.entries

-- 7: both signs of an atom in a product, max or min
unfoldable pub both_signs : List Entry → Bool
both_signs [] = false
both_signs (e ∷ es) = some_entry (λ x. same x.literal (neg_ℤ e.literal)) es || both_signs es

abbrev pub mixed : Written → Bool
mixed x = not (mixes (kind_of x.kind)) && both_signs x.entries

-- 8: product of all merged weights above 10^18
abbrev pub is_product : ℕ → Bool
is_product k = eqb k 1

abbrev pub too_great : Written → Bool
too_great x = is_product x.kind && not (le_z (multiplied (weights_of (merge product x.entries).entries)) (pos bound_limit))

-- ---- the table

abbrev pub about : ℕ → ℕ → Bool → Refusal
about k c b = record { code = c; applies = b; value = k }

-- of sentence k
abbrev pub sentence_refusals : Limits → ℕ → ℕ → Written → List Refusal
sentence_refusals lim n k x =
    about k 3 (unknown lim x) ∷ about k 4 (strange n x) ∷ about k 5 (out_of_range x) ∷ about k 6 (own_head x) ∷ about k 7 (mixed x)
    ∷ about k 8 (too_great x) ∷ []

-- of all sentences, the first of which has number k
unfoldable pub all_refusals : Limits → ℕ → ℕ → List Written → List Refusal
all_refusals lim n k [] = []
all_refusals lim n k (x ∷ xs) = sentence_refusals lim n k x ++ all_refusals lim n (suc k) xs

-- of load, given how many words the area has
abbrev pub load_refusals : Limits → ℕ → ℕ → Columns → List Refusal
load_refusals lim words n c = about 0 1 (misshapen lim n c) ∷ about 0 2 (ltb words (columns_need n c)) ∷ all_refusals lim n 1 (all_written c)

-- the first refusal that applies, with its sentence; 0 and 0 where none does
unfoldable pub first_refusal : List Refusal → Answer
first_refusal [] = record { code = 0; sentence = record { 0 = 0 } }
first_refusal (r ∷ rs) = cond r.applies (record { code = r.code; sentence = record { 0 = r.value } }) (first_refusal rs)

abbrev pub load_answer : Limits → ℕ → ℕ → Columns → Answer
load_answer lim words n c = first_refusal (load_refusals lim words n c)
