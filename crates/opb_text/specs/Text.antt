-- What an OPB text holds, or the refusal that it gets; and the columns that load is handed for it.
use Rattle.std.specs.Prelude.{◌≡◌, Bool, cond, Option, Some, None, Result, Ok, Err, OnOk, OnErr, List, [], ◌∷◌, ◌++◌, map, ℕ, suc, min, length, drop, ℤ, pos, eqb, ltb}
use Rattle.meaning.specs.Meaning.{Entry}
use Rattle.columns.specs.Columns.{Columns, seven_columns, Written}
use Rattle.opb_grammar.specs.declared.State.{State}
use Rattle.opb_grammar.specs.declared.Next.{Next}
use Rattle.opb_grammar.specs.declared.Next.TheVariants as next
use Rattle.opb_grammar.specs.declared.Fault.{Fault}
use Rattle.opb_grammar.specs.declared.Fault.TheVariants.{Count, TooLong}
use Rattle.opb_grammar.specs.Grammar.{bytes_limit, fault_number, step, ends, begins}
use Rattle.opb_rows.specs.Signed.{signed_of}
use Rattle.opb_text.specs.declared.Read.{Read}
use Rattle.opb_text.specs.declared.Refusal.{Refusal}
use Rattle.opb_text.specs.declared.Refusal.TheVariants as refusal

-- ---- what is read

-- terms relation bound
pub record Constraint : Type 0 where
  pub terms : List Entry
  pub equal : Bool
  pub bound : ℤ

pub data Reading : Type 0 where
  taken : (variables : ℕ) → List Constraint → Reading
  -- `complete` is the number of constraints complete before the fault
  refused : (fault : Fault) (complete : ℕ) → Reading

-- the term whose variable the state has just read, and the constraint whose right side it has just read
abbrev pub term_of : State → Entry
term_of s = record { weight = signed_of s.weight; literal = pos s.number.size }

abbrev pub constraint_of : State → List Entry → Constraint
constraint_of s terms = record { terms = terms; equal = s.equal; bound = signed_of s.number }

abbrev pub after_byte : State → List Constraint → List Entry → (State → List Constraint → List Entry → Reading) → Result Next Fault → Reading
after_byte s cs es on (Ok (next.More t)) = on t cs es
after_byte s cs es on (Ok (next.Term t)) = on t cs (es ++ (term_of s ∷ []))
after_byte s cs es on (Ok (next.Constraint t)) = on t (cs ++ (constraint_of s es ∷ [])) []
after_byte s cs es on (Err f) = refused f (length cs)

-- the end of the text, where C constraints must be complete
abbrev pub closing : State → List Constraint → Option Fault → Reading
closing s cs None = cond (eqb (length cs) s.sizes.constraints) (taken s.sizes.variables cs) (refused Count (length cs))
closing s cs (Some f) = refused f (length cs)

-- the rest of the text, from a state, with these constraints and these terms of the next read so far
unfoldable pub go : List ℕ → State → List Constraint → List Entry → Reading
go [] s cs es = closing s cs (ends s.phase s)
go (b ∷ bs) s cs es = after_byte s cs es (go bs) (step s b)

unfoldable pub reading : List ℕ → Reading
reading text = cond (ltb bytes_limit (length text)) (refused TooLong 0) (go text begins [] [])

-- ---- the sentences: constraint j has head V + j; `=` makes two, lower side first

abbrev pub sum_row : ℕ → ℕ → Constraint → Written
sum_row head side c = record { head = head; kind = 0; side = side; bound = c.bound; entries = c.terms }

abbrev pub rows_of : ℕ → Constraint → List Written
rows_of head c = sum_row head 0 c ∷ cond c.equal (sum_row head 1 c ∷ []) []

-- the first constraint has this head
unfoldable pub rows_from : ℕ → List Constraint → List Written
rows_from head [] = []
rows_from head (c ∷ cs) = rows_of head c ++ rows_from (suc head) cs

-- ---- as columns

unfoldable pub all_entries : List Written → List Entry
all_entries [] = []
all_entries (x ∷ xs) = x.entries ++ all_entries xs

abbrev pub columns_of : List Written → Columns
columns_of xs =
    seven_columns (map (λ (x : Written). x.head) xs) (map (λ (x : Written). x.kind) xs) (map (λ (x : Written). x.side) xs) (map (λ (x : Written). x.bound) xs)
    (map (λ (x : Written). length x.entries) xs) (map (λ (e : Entry). e.weight) (all_entries xs)) (map (λ (e : Entry). e.literal) (all_entries xs))

-- ---- the answer, and the lent columns afterwards

-- document 01's numbers: a fault's with the constraints complete before it, and 18 with the number that has no room
abbrev pub refusal_number : Refusal → ℕ
refusal_number (refusal.Text f k) = fault_number f
refusal_number (refusal.Columns n) = 18

abbrev pub refusal_value : Refusal → ℕ
refusal_value (refusal.Text f k) = k
refusal_value (refusal.Columns n) = n

-- lent columns with room for so many sentences and entries, which are tried in this order
abbrev pub stored : ℕ → ℕ → ℕ → ℕ → List Written → Result Read Refusal
stored sentences entries v c xs =
    cond (ltb sentences (length xs)) (Err (refusal.Columns (length xs)))
    (cond (ltb entries (length (all_entries xs))) (Err (refusal.Columns (length (all_entries xs))))
    (Ok (record { variables = v; constraints = c; sentences = length xs; entries = length (all_entries xs) })))

abbrev pub read_of : ℕ → ℕ → Reading → Result Read Refusal
read_of sentences entries (refused f k) = Err (refusal.Text f k)
read_of sentences entries (taken v cs) = stored sentences entries v (length cs) (rows_from (suc v) cs)

-- a column whose front is the result; the rest keeps its contents
module _ {A : Type 0} where
  abbrev pub over : List A → List A → List A
  over xs old = xs ++ drop (length xs) old

abbrev pub over_all : Columns → Columns → Columns
over_all c old =
    seven_columns (over c.heads old.heads) (over c.kinds old.kinds) (over c.sides old.sides) (over c.bounds old.bounds) (over c.counts old.counts)
    (over c.weights old.weights) (over c.literals old.literals)

-- the columns after the call: a refused text leaves them as they were
abbrev pub result_of : Reading → Columns → Columns
result_of (refused f k) old = old
result_of (taken v cs) old = over_all (columns_of (rows_from (suc v) cs)) old

abbrev pub sentence_room : Columns → ℕ
sentence_room c = min (length c.heads) (min (length c.kinds) (min (length c.sides) (min (length c.bounds) (length c.counts))))

abbrev pub entry_room : Columns → ℕ
entry_room c = min (length c.weights) (length c.literals)

-- what reading promises, for every text of bytes and all columns
pub record Reads (text : List ℕ) (old new : Columns) (r : Result Read Refusal) : Type 0 where
  pub answer : r ≡ read_of (sentence_room old) (entry_room old) (reading text)
  pub kept : OnErr r (new ≡ old)
  pub filled : OnOk r (new ≡ result_of (reading text) old)
