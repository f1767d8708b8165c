-- The grammar of an OPB text as an automaton: which byte may stand where, which refusal stands at it, and where the text may end.
use Rattle.std.specs.Prelude.{Bool, true, false, cond, Option, None, Some, unwrap_or, Result, Ok, Err, List, [], ◌∷◌, ℕ, suc, ◌+◌, ◌*◌, ◌-◌, min, length, get_or, eqb, leb, ltb}
use Rattle.types.specs.Limits.{document}
use Rattle.opb_grammar.specs.declared.Phase.{Phase}
use Rattle.opb_grammar.specs.declared.Phase.TheVariants.{Opening, BeforeV, InV, Middle, BeforeC, InC, AfterReturn, LineStart, Between, Comment, WeightSign, InWeight, BeforeX, BeforeVariable, InVariable, AfterTerm, AfterGreater, AfterRelation, BeforeBound, BoundSign, InBound, AfterBound}
use Rattle.opb_grammar.specs.declared.Number.{Number}
use Rattle.opb_grammar.specs.declared.Sizes.{Sizes}
use Rattle.opb_grammar.specs.declared.Counts.{Counts}
use Rattle.opb_grammar.specs.declared.State.{State}
use Rattle.opb_grammar.specs.declared.Fault.{Fault}
use Rattle.opb_grammar.specs.declared.Fault.TheVariants.{Form, Count, Digits, TooLong, TooMany}
use Rattle.opb_grammar.specs.declared.Next.{Next}
use Rattle.opb_grammar.specs.declared.Next.TheVariants.{More, Term, Constraint}
use Rattle.opb_classes.specs.declared.Class.{Class}
use Rattle.opb_classes.specs.declared.Class.TheVariants.{Blank, Digit, Plus, Minus, Star, Ex, Greater, Equal, Semicolon}
use Rattle.opb_classes.specs.Bytes.{line_feed, return, digit_zero, class_of, is}

-- ---- limits of a text: load's, and its bytes

abbrev pub atoms_limit : ℕ
atoms_limit = document.atoms

abbrev pub sentences_limit : ℕ
sentences_limit = document.sentences

abbrev pub entries_limit : ℕ
entries_limit = document.entries

abbrev pub bytes_limit : ℕ
bytes_limit = 65536

-- ---- states: a phase, with the number in hand, V and C, or the counts changed

abbrev pub at : State → Phase → State
at s p = record s { phase = p }

abbrev pub matching : State → Phase → ℕ → State
matching s p m = record s { phase = p; matched = m }

abbrev pub numbering : State → Phase → Number → State
numbering s p n = record s { phase = p; number = n }

-- the number in hand is the weight
abbrev pub weighing : State → Phase → State
weighing s p = record s { phase = p; weight = s.number }

abbrev pub sizing : State → Phase → Sizes → State
sizing s p z = record s { phase = p; matched = 0; sizes = z }

abbrev pub counting : State → Phase → Bool → Counts → State
counting s p e c = record s { phase = p; equal = e; counts = c }

-- ---- numbers

-- no number of 18 digits or fewer reaches it; a longer one is refused, and is told only up to here
abbrev pub size_limit : ℕ
size_limit = 1000000000000000000

abbrev pub signed : Bool → Number
signed m = record { size = 0; digits = 0; minus = m }

unfoldable pub more : Number → ℕ → Number
more n b = record n { size = min (n.size * 10 + (b - digit_zero)) size_limit; digits = min (n.digits + 1) 19 }

-- ---- faults

-- document 01's numbers: 20 not this form; 21 V 0, V + C above 1,024, a variable above V, or not C constraints; 22 an integer of 19 digits
-- or more; 23 over 65,536 bytes; 24 more than 256 sentences or 4,096 entries
abbrev pub fault_number : Fault → ℕ
fault_number Form = 20
fault_number Count = 21
fault_number Digits = 22
fault_number TooLong = 23
fault_number TooMany = 24

-- the fault of a number that has ended, the lowest where it has several; it stands at the number's last byte
unfoldable pub long_fault : State → Option Fault
long_fault s = cond (leb 19 s.number.digits) (Some Digits) None

unfoldable pub v_fault : State → Option Fault
v_fault s = cond (eqb s.number.size 0) (Some Count) (long_fault s)

unfoldable pub c_fault : State → Option Fault
c_fault s = cond (leb (s.sizes.variables + s.number.size) atoms_limit) (long_fault s) (Some Count)

-- one of 19 digits is above V
unfoldable pub variable_fault : State → Option Fault
variable_fault s = cond (ltb s.sizes.variables s.number.size) (Some Count) (cond (leb entries_limit s.counts.entries) (Some TooMany) None)

-- the byte behind a number: the number's fault stands before it
unfoldable pub behind : Option Fault → Result Next Fault → Result Next Fault
behind None n = n
behind (Some f) n = Err f

-- ---- pieces

-- the fixed text of the first line: `* #variable= ` and ` #constraint= `
abbrev pub opening : List ℕ
opening = 42 ∷ 32 ∷ 35 ∷ 118 ∷ 97 ∷ 114 ∷ 105 ∷ 97 ∷ 98 ∷ 108 ∷ 101 ∷ 61 ∷ 32 ∷ []

abbrev pub middle : List ℕ
middle = 32 ∷ 35 ∷ 99 ∷ 111 ∷ 110 ∷ 115 ∷ 116 ∷ 114 ∷ 97 ∷ 105 ∷ 110 ∷ 116 ∷ 61 ∷ 32 ∷ []

-- its next byte, in phase p; a number follows in phase q
unfoldable pub expect : List ℕ → Phase → Phase → State → ℕ → Result Next Fault
expect text p q s b =
    cond (eqb (get_or text s.matched 0) b)
    (cond (eqb (suc s.matched) (length text)) (Ok (More (numbering s q (signed false)))) (Ok (More (matching s p (suc s.matched)))))
    (Err Form)

-- a digit that begins or goes on with the number in hand
abbrev pub digits : State → Phase → ℕ → Class → Result Next Fault
digits s p b k = cond (is k Digit) (Ok (More (numbering s p (more s.number b)))) (Err Form)

-- a number that may have a sign: phase p behind the sign, q behind a digit
unfoldable pub begin : Phase → Phase → State → ℕ → Class → Result Next Fault
begin p q s b k =
    cond (is k Digit) (Ok (More (numbering s q (more (signed false) b))))
    (cond (is k Plus) (Ok (More (numbering s p (signed false))))
    (cond (is k Minus) (Ok (More (numbering s p (signed true)))) (Err Form)))

-- outside constraints: blanks, or a constraint's first term
unfoldable pub between : State → ℕ → Class → Result Next Fault
between s b k = cond (eqb b line_feed) (Ok (More (at s LineStart))) (cond (is k Blank) (Ok (More (at s Between))) (begin WeightSign InWeight s b k))

-- a term is complete
abbrev pub term : State → State
term s = counting s AfterTerm s.equal (record s.counts { terms = s.counts.terms + 1; entries = s.counts.entries + 1 })

-- a relation is complete: `>=` makes one sentence, `=` two, with its terms once more
unfoldable pub relation_at_least : State → Result Next Fault
relation_at_least s =
    cond (leb (s.counts.sentences + 1) sentences_limit)
    (Ok (More (counting s AfterRelation false (record s.counts { sentences = s.counts.sentences + 1 }))))
    (Err TooMany)

unfoldable pub relation_equal : State → Result Next Fault
relation_equal s =
    cond (leb (s.counts.sentences + 2) sentences_limit)
    (cond (leb (s.counts.entries + s.counts.terms) entries_limit)
    (Ok (More (counting s AfterRelation true (record s.counts { entries = s.counts.entries + s.counts.terms; sentences = s.counts.sentences + 2 }))))
    (Err TooMany))
    (Err TooMany)

-- behind the right side: blanks, or `;`
unfoldable pub finish : State → Class → Result Next Fault
finish s k =
    cond (is k Blank) (Ok (More (at s AfterBound)))
    (cond (is k Semicolon) (Ok (Constraint (counting s Between s.equal (record s.counts { terms = 0 })))) (Err Form))

-- ---- the automaton: a byte b of class k, by the phase

unfoldable pub transition : Phase → State → ℕ → Class → Result Next Fault
transition Opening s b k = expect opening Opening BeforeV s b
transition BeforeV s b k = digits s InV b k
transition InV s b k =
    cond (is k Digit) (digits s InV b k)
    (behind (v_fault s) (expect middle Middle BeforeC (sizing s Middle (record { variables = s.number.size; constraints = 0 })) b))
transition Middle s b k = expect middle Middle BeforeC s b
transition BeforeC s b k = digits s InC b k
transition InC s b k =
    cond (is k Digit) (digits s InC b k)
    (behind (c_fault s)
    (cond (eqb b line_feed) (Ok (More (sizing s LineStart (record s.sizes { constraints = s.number.size }))))
    (cond (eqb b return) (Ok (More (sizing s AfterReturn (record s.sizes { constraints = s.number.size })))) (Err Form))))
transition AfterReturn s b k = cond (eqb b line_feed) (Ok (More (at s LineStart))) (Err Form)
transition LineStart s b k = cond (is k Star) (Ok (More (at s Comment))) (between s b k)
transition Between s b k = between s b k
transition Comment s b k = cond (eqb b line_feed) (Ok (More (at s LineStart))) (Ok (More (at s Comment)))
transition WeightSign s b k = digits s InWeight b k
transition InWeight s b k =
    cond (is k Digit) (digits s InWeight b k) (behind (long_fault s) (cond (is k Blank) (Ok (More (weighing s BeforeX))) (Err Form)))
transition BeforeX s b k = cond (is k Blank) (Ok (More (at s BeforeX))) (cond (is k Ex) (Ok (More (numbering s BeforeVariable (signed false)))) (Err Form))
transition BeforeVariable s b k = cond (eqb b digit_zero) (Err Form) (digits s InVariable b k)
transition InVariable s b k =
    cond (is k Digit) (digits s InVariable b k) (behind (variable_fault s) (cond (is k Blank) (Ok (Term (term s))) (Err Form)))
transition AfterTerm s b k =
    cond (is k Blank) (Ok (More (at s AfterTerm)))
    (cond (is k Greater) (Ok (More (at s AfterGreater)))
    (cond (is k Equal) (relation_equal s) (begin WeightSign InWeight s b k)))
transition AfterGreater s b k = cond (is k Equal) (relation_at_least s) (Err Form)
transition AfterRelation s b k = cond (is k Blank) (Ok (More (at s BeforeBound))) (Err Form)
transition BeforeBound s b k = cond (is k Blank) (Ok (More (at s BeforeBound))) (begin BoundSign InBound s b k)
transition BoundSign s b k = digits s InBound b k
transition InBound s b k = cond (is k Digit) (digits s InBound b k) (behind (long_fault s) (finish s k))
transition AfterBound s b k = finish s k

abbrev pub step : State → ℕ → Result Next Fault
step s b = transition s.phase s b (class_of b)

-- ---- the end of the text: nothing where it may stand, else the refusal; a number's fault stands before it

unfoldable pub ends : Phase → State → Option Fault
ends Opening s = Some Form
ends BeforeV s = Some Form
ends InV s = Some (unwrap_or (v_fault s) Form)
ends Middle s = Some Form
ends BeforeC s = Some Form
ends InC s = Some (unwrap_or (c_fault s) Form)
ends AfterReturn s = Some Form
ends LineStart s = None
ends Between s = None
ends Comment s = None
ends WeightSign s = Some Form
ends InWeight s = Some (unwrap_or (long_fault s) Form)
ends BeforeX s = Some Form
ends BeforeVariable s = Some Form
ends InVariable s = Some (unwrap_or (variable_fault s) Form)
ends AfterTerm s = Some Form
ends AfterGreater s = Some Form
ends AfterRelation s = Some Form
ends BeforeBound s = Some Form
ends BoundSign s = Some Form
ends InBound s = Some (unwrap_or (long_fault s) Form)
ends AfterBound s = Some Form

abbrev pub begins : State
begins = record {
  phase = Opening;
  matched = 0;
  number = signed false;
  weight = signed false;
  equal = false;
  sizes = record { variables = 0; constraints = 0 };
  counts = record { terms = 0; entries = 0; sentences = 0 };
}
