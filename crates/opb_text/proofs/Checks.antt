-- Texts and what they read as: document 01's input, and each refusal with the text that just misses it. Each list has one claim.
use mathlib.Core.Path.{◌≡◌, refl, ap}
use mathlib.Core.Bool.{true, false}
use mathlib.Core.List.{List, [], ◌∷◌, ◌++◌, map}
use Prim.Native.Nat.{ℕ}
use Prim.Native.String as text
use lib.ListN.{replicate}
use lib.IntN.{ℤ, pos, neg_ℤ}
use Rattle.numbers.specs.Text.{bytes}
use Rattle.meaning.specs.Meaning.{Entry}
use Rattle.opb_grammar.specs.declared.Phase.TheVariants.{AfterTerm}
use Rattle.opb_grammar.specs.declared.State.{State}
use Rattle.std.specs.Prelude.{Option, Some, None, Result, Ok, Err}
use Rattle.opb_grammar.specs.declared.Fault.{Fault}
use Rattle.opb_grammar.specs.declared.Fault.TheVariants.{Form, Count, Digits, TooLong, TooMany}
use Rattle.opb_grammar.specs.declared.Next.{Next}
use Rattle.opb_grammar.specs.Grammar.{sizing, fault_number, more, long_fault, v_fault, c_fault, variable_fault, behind, expect, begin, between, relation_at_least, relation_equal, finish, transition, ends}
use Rattle.opb_text.specs.Text.{Constraint, Reading, taken, refused, go, reading}

-- three variables and one constraint, and then this
abbrev pub three_one : text.String → List ℕ
three_one s = bytes "* #variable= 3 #constraint= 1\n" ++ bytes s

abbrev pub term : ℤ → ℕ → Entry
term w x = record { weight = w; literal = pos x }

abbrev pub at_least : List Entry → ℤ → Constraint
at_least es b = record { terms = es; equal = false; bound = b }

abbrev pub equals : List Entry → ℤ → Constraint
equals es b = record { terms = es; equal = true; bound = b }

pub record Row : Type 0 where
  pub text : List ℕ
  pub says : Reading

abbrev pub row : List ℕ → Reading → Row
row t r = record { text = t; says = r }

-- texts that all read as this; and likewise behind the first line with three variables and one constraint
abbrev pub each : Reading → List text.String → List Row
each r ts = map (λ (t : text.String). row (bytes t) r) ts

abbrev pub after_line : Reading → List text.String → List Row
after_line r ts = map (λ (t : text.String). row (three_one t) r) ts

-- ---- texts that are taken

abbrev pub good : List Row
good =
    -- document 01's input
    row (bytes "* #variable= 3 #constraint= 2\n+2 x1 +3 x2 -1 x3 >= 4 ;\n+1 x1 +1 x3 >= 1 ;\n")
    (taken 3 (at_least (term (pos 2) 1 ∷ term (pos 3) 2 ∷ term (neg_ℤ (pos 1)) 3 ∷ []) (pos 4) ∷ at_least (term (pos 1) 1 ∷ term (pos 1) 3 ∷ []) (pos 1) ∷ [])) ∷
    -- `=`, and no blank at `;`
    row (three_one "1 x1 = 1;") (taken 3 (equals (term (pos 1) 1 ∷ []) (pos 1) ∷ [])) ∷
    -- the first line ends in CR LF
    row (bytes "* #variable= 3 #constraint= 1\r\n1 x1 >= 1 ;\r\n") (taken 3 (at_least (term (pos 1) 1 ∷ []) (pos 1) ∷ [])) ∷
    -- blanks of all four kinds between the parts, and a constraint over several lines
    row (three_one "  \t\r\n +1\t \n x1\r\n-2  x3\n>=\t1\n;\n\n \t")
    (taken 3 (at_least (term (pos 1) 1 ∷ term (neg_ℤ (pos 2)) 3 ∷ []) (pos 1) ∷ [])) ∷
    -- comments, the last up to the end
    row (three_one "* one ; x9\r >= \n*\n1 x1 >= 1 ;\n* the end") (taken 3 (at_least (term (pos 1) 1 ∷ []) (pos 1) ∷ [])) ∷
    -- the right side may have a sign, and a comment holds any byte
    row (three_one "1 x1 >= -1 ;\n* *") (taken 3 (at_least (term (pos 1) 1 ∷ []) (neg_ℤ (pos 1)) ∷ [])) ∷
    -- a plus on the right side, leading zeros in integers, the last variable
    row (three_one "000 x3 >= +00 ;") (taken 3 (at_least (term (pos 0) 3 ∷ []) (pos 0) ∷ [])) ∷
    -- leading zeros in V and C
    row (bytes "* #variable= 03 #constraint= 01\n1 x1 >= 1 ;") (taken 3 (at_least (term (pos 1) 1 ∷ []) (pos 1) ∷ [])) ∷
    -- 18 digits
    row (three_one "123456789012345678 x1 >= -999999999999999999 ;")
    (taken 3 (at_least (term (pos 123456789012345678) 1 ∷ []) (neg_ℤ (pos 999999999999999999)) ∷ [])) ∷
    -- V + C 1,024, with no constraint and with one
    row (bytes "* #variable= 1024 #constraint= 0\n") (taken 1024 []) ∷
    row (bytes "* #variable= 1023 #constraint= 1\n1 x1023 >= 1 ;") (taken 1023 (at_least (term (pos 1) 1023 ∷ []) (pos 1) ∷ [])) ∷
    -- two constraints on a line; a variable twice
    row (bytes "* #variable= 1 #constraint= 2\n1 x1 1 x1 >= 1;1 x1 = 1;")
    (taken 1 (at_least (term (pos 1) 1 ∷ term (pos 1) 1 ∷ []) (pos 1) ∷ equals (term (pos 1) 1 ∷ []) (pos 1) ∷ [])) ∷ []

pub all_taken : map (λ (r : Row). reading r.text) good ≡ map (λ (r : Row). r.says) good
unfolding reading go transition more long_fault v_fault c_fault variable_fault expect begin between relation_at_least relation_equal finish ends behind
all_taken = refl

-- ---- texts that are refused, with the number of constraints complete before the fault

-- document 01's numbers of the faults that the texts below are refused by
pub numbers_of_faults : map fault_number (Form ∷ Count ∷ Digits ∷ TooLong ∷ TooMany ∷ []) ≡ 20 ∷ 21 ∷ 22 ∷ 23 ∷ 24 ∷ []
numbers_of_faults = refl

abbrev pub bad : List Row
bad =
    -- 20: the first line
    each (refused Form 0) ("" ∷ "* #variable= 3 #constraint= 1" ∷ "* #variable= 3 #constraint= 1\r1 x1 >= 1 ;" ∷
    "* #variable=3 #constraint= 1\n1 x1 >= 1 ;" ∷ "* #variable= 3  #constraint= 1\n1 x1 >= 1 ;" ∷
    "* #variable= 3 #constraint= 1 \n1 x1 >= 1 ;" ∷ "* #variable= +3 #constraint= 1\n1 x1 >= 1 ;" ∷
    "* #variable= 3 #constraint= \n1 x1 >= 1 ;" ∷ "1 x1 >= 1 ;" ∷ []) ++
    -- 20: comments, which start a line
    after_line (refused Form 1) ("1 x1 >= 1 ; * no line's start\n" ∷ []) ++
    after_line (refused Form 0) (" * no line's start\n1 x1 >= 1 ;" ∷ "1 x1\n* inside a constraint\n>= 1 ;" ∷ []) ++
    -- 20: terms
    after_line (refused Form 0) ("+ 1 x1 >= 1 ;" ∷ "-x1 >= 1 ;" ∷ "1x1 >= 1 ;" ∷ "1 x >= 1 ;" ∷ "1 x01 >= 1 ;" ∷ "1 x0 >= 1 ;" ∷
    "1 y1 >= 1 ;" ∷ "1 ~x1 >= 1 ;" ∷ "1 x1+1 x2 >= 1 ;" ∷ ">= 1 ;" ∷ "min: 1 x1 ;" ∷ []) ++
    -- 20: relation and right side
    after_line (refused Form 0) ("1 x1>= 1 ;" ∷ "1 x1 >=1 ;" ∷ "1 x1 =1 ;" ∷ "1 x1 > = 1 ;" ∷ "1 x1 <= 1 ;" ∷ "1 x1 >= - 1 ;" ∷ "1 x1 >= ;" ∷
    "1 x1 >= 1 2 ;" ∷ []) ++
    after_line (refused Form 1) ("1 x1 >= 1 ;;" ∷ []) ++
    -- 20: the end inside a constraint
    after_line (refused Form 0) ("1" ∷ "1 " ∷ "1 x" ∷ "1 x1" ∷ "1 x1 >" ∷ "1 x1 >=" ∷ "1 x1 >= " ∷ "1 x1 >= 1" ∷ "1 x1 >= 1 " ∷ []) ++
    after_line (refused Form 1) ("1 x1 >= 1 ;\n1 x1" ∷ []) ++
    -- 21: V 0, V + C above 1,024, a variable above V, at its last byte
    each (refused Count 0) ("* #variable= 0 #constraint= 1\n1 x1 >= 1 ;" ∷ "* #variable= 0" ∷ "* #variable= 1024 #constraint= 1\n1 x1 >= 1 ;" ∷
    "* #variable= 1025 #constraint= 0\n" ∷ []) ++
    each (refused Form 0) ("* #variable= 1025 #constraint" ∷ []) ++
    after_line (refused Count 0) ("1 x4 >= 1 ;" ∷ "1 x9y" ∷ "1 x9" ∷ "1 x30 >= 1 ;" ∷ []) ++
    after_line (refused Form 0) ("1 x3y" ∷ []) ++
    -- 21: a constraint too few, and one too many, at the end only
    after_line (refused Count 0) ("" ∷ []) ++
    each (refused Count 1) ("* #variable= 3 #constraint= 2\n1 x1 >= 1 ;" ∷ []) ++
    after_line (refused Count 2) ("1 x1 >= 1 ;1 x1 >= 1 ;" ∷ "1 x1 >= 1 ;1 x1 >= 1 ; 1 x4" ∷ []) ++
    after_line (refused Form 2) ("1 x1 >= 1 ;1 x1 >= 1 ; y" ∷ []) ++
    -- 22: an integer of 19 digits, leading zeros counted, at its last byte
    after_line (refused Digits 0) ("1234567890123456789 x1 >= 1 ;" ∷ "0000000000000000001 x1 >= 1 ;" ∷ "-0000000000000000001y" ∷
    "1 x1 >= 0000000000000000001;" ∷ []) ++
    after_line (refused Digits 1) ("1 x1 >= 1;2 x1 >= -12345678901234567890" ∷ []) ++
    each (refused Digits 0) ("* #variable= 0000000000000000003 #constraint= 1\n" ∷ "* #variable= 3 #constraint= 0000000000000000001\n" ∷ []) ++
    -- the lowest where several fall on one byte: 21 of 19 zeros for V, of 19 digits for C, and of a long variable
    each (refused Count 0) ("* #variable= 0000000000000000000 #constraint= 1\n" ∷ "* #variable= 3 #constraint= 1234567890123456789\n" ∷ []) ++
    after_line (refused Count 0) ("1 x1234567890123456789 >= 1 ;" ∷ "1 x12345678901234567890y" ∷ [])

pub all_refused : map (λ (r : Row). reading r.text) bad ≡ map (λ (r : Row). r.says) bad
unfolding reading go transition more long_fault v_fault c_fault variable_fault expect begin between relation_at_least relation_equal finish ends behind
all_refused = refl

-- ---- 23 comes first: 65,537 bytes; of 65,536 the first byte is the fault

abbrev pub spaces : ℕ → List ℕ
spaces n = replicate n 32

pub too_many_bytes : reading (spaces 65537) ≡ refused TooLong 0
unfolding reading
too_many_bytes = refl

pub most_bytes : reading (spaces 65536) ≡ refused Form 0
unfolding reading go transition expect
most_bytes = refl

-- ---- 24, by the counts: of sentences at the relation, of entries at the variable and, for the second copy, at `=`

-- so many terms, entries and sentences; the number in hand is 3, and so is V
abbrev pub counted : ℕ → ℕ → ℕ → State
counted t e n =
    record {
      phase = AfterTerm;
      matched = 0;
      number = record { size = 3; digits = 1; minus = false };
      weight = record { size = 1; digits = 1; minus = false };
      equal = false;
      sizes = record { variables = 3; constraints = 1 };
      counts = record { terms = t; entries = e; sentences = n };
    }

abbrev pub fault_of : Result Next Fault → ℕ
fault_of (Ok n) = 0
fault_of (Err f) = fault_number f

pub sentences_full :
    map fault_of
    (relation_at_least (counted 1 1 255) ∷ relation_at_least (counted 1 1 256) ∷ relation_equal (counted 1 1 254) ∷ relation_equal (counted 1 1 255) ∷ [])
    ≡ 0 ∷ 24 ∷ 0 ∷ 24 ∷ []
unfolding relation_at_least relation_equal
sentences_full = refl

pub entries_full :
    map fault_of (relation_equal (counted 1 4095 0) ∷ relation_equal (counted 2 4095 0) ∷ relation_equal (counted 2048 2048 0) ∷ []) ≡ 0 ∷ 24 ∷ 0 ∷ []
unfolding relation_equal
entries_full = refl

-- at a variable: with room for one entry more, with none, and with none at a variable above V
abbrev pub variable_faults : List (Option Fault)
variable_faults =
    variable_fault (counted 1 4095 0) ∷ variable_fault (counted 1 4096 0) ∷ variable_fault (sizing (counted 1 4096 0) AfterTerm (record { variables = 2; constraints = 1 })) ∷ []

-- 21 before 24
pub variables_full : variable_faults ≡ None ∷ Some TooMany ∷ Some Count ∷ []
unfolding variable_fault
variables_full = refl

-- the number of a fault, 0 for none
abbrev pub number_of : Option Fault → ℕ
number_of None = 0
number_of (Some f) = fault_number f

-- and by document 01's numbers
pub variables_full_numbers : map number_of variable_faults ≡ 0 ∷ 24 ∷ 21 ∷ []
variables_full_numbers = ap (map number_of) variables_full
