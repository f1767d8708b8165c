-- What holds of every state that a text leads to, with the constraints and the terms read so far: each step keeps it.
use mathlib.Core.Path.{◌≡◌, refl, sym}
use mathlib.Core.Bool.{Bool, true, false, cond}
use mathlib.Core.List.{List, [], ◌∷◌, ◌++◌}
use Prim.Native.Nat.{ℕ, suc, ◌+◌, ◌*◌, ◌-◌, ◌≤◌, ◌<◌}
use native.Mathlib.Omega.{arith}
use native.Mathlib.Nat.{min-le_right}
use lib.Dec.{leb, eqb}
use lib.ListN.{length, get_or, length-append}
use borrow.Author.Tests.{leb-true, eqb-false}
use Rattle.meaning.specs.Meaning.{Entry}
use Rattle.opb_grammar.specs.declared.Phase.{Phase}
use Rattle.opb_grammar.specs.declared.Phase.TheVariants.{Opening, BeforeV, InV, Middle, BeforeC, InC, AfterReturn, LineStart, Between, Comment, WeightSign, InWeight, BeforeX, BeforeVariable, InVariable, AfterTerm, AfterGreater, AfterRelation, BeforeBound, BoundSign, InBound, AfterBound}
use Rattle.opb_grammar.specs.declared.Number.{Number}
use Rattle.opb_grammar.specs.declared.State.{State}
use Rattle.std.specs.Prelude.{Option, Some, None, Result, Ok, Err}
use Rattle.opb_grammar.specs.declared.Fault.{Fault}
use Rattle.opb_grammar.specs.declared.Fault.TheVariants.{Form, Count, TooMany}
use Rattle.opb_grammar.specs.declared.Next.{Next}
use Rattle.opb_grammar.specs.declared.Next.TheVariants as next
use Rattle.opb_grammar.specs.Grammar.{at, numbering, sizing, signed, more, long_fault, v_fault, c_fault, variable_fault, behind, opening, middle, expect, digits, begin, between, term, relation_at_least, relation_equal, finish, transition, step, begins}
use Rattle.opb_classes.specs.declared.Class.{Class}
use Rattle.opb_classes.specs.declared.Class.TheVariants.{Blank, Digit, Plus, Minus, Star, Ex, Greater, Equal, Semicolon}
use Rattle.opb_classes.specs.Bytes.{class_of, is}
use Rattle.opb_bytes.specs.Inner.States.{fixed}
use Rattle.opb_grammar.proofs.Sums.{entry_left}
use Rattle.opb_text.specs.Text.{Constraint, term_of, constraint_of}
use Rattle.opb_text.proofs.Totals.{made, again, sentences_of, entries_of, sentences_more, entries_more}

-- what a phase says of the rest of the state: behind the relation its sentences are counted, and for `=` its terms once more; terms are
-- read only in a constraint; V is known behind its number, and within its limit behind C
pub record About : Type 0 where
  pub related : Bool
  pub most : ℕ
  pub least : ℕ
  pub sizes : ℕ

abbrev before_v : About
before_v = record { related = false; most = 0; least = 0; sizes = 1000000000000000000 }

abbrev before_c : About
before_c = record { related = false; most = 0; least = 1; sizes = 1000000000000000000 }

abbrev pub outside : About
outside = record { related = false; most = 0; least = 1; sizes = 1024 }

abbrev pub inside : About
inside = record { related = false; most = 4096; least = 1; sizes = 1024 }

abbrev pub behind_relation : About
behind_relation = record { related = true; most = 4096; least = 1; sizes = 1024 }

abbrev pub about : Phase → About
about Opening = before_v
about BeforeV = before_v
about InV = before_v
about Middle = before_c
about BeforeC = before_c
about InC = before_c
about AfterReturn = outside
about LineStart = outside
about Between = outside
about Comment = outside
about WeightSign = inside
about InWeight = inside
about BeforeX = inside
about BeforeVariable = inside
about InVariable = inside
about AfterTerm = inside
about AfterGreater = inside
about AfterRelation = behind_relation
about BeforeBound = behind_relation
about BoundSign = behind_relation
about InBound = behind_relation
about AfterBound = behind_relation

-- with `terms` terms of the next constraint
pub record Tracks (a : About) (text : ℕ) (s : State) (cs : List Constraint) (terms : ℕ) : Type 0 where
  pub matched : s.matched < text
  pub open_terms : s.counts.terms ≡ terms
  pub most : terms ≤ a.most
  pub entries : s.counts.entries ≡ entries_of cs + terms + cond a.related (again s.equal terms) 0
  pub sentences : s.counts.sentences ≡ sentences_of cs + cond a.related (made s.equal) 0
  pub entries_fit : s.counts.entries ≤ 4096
  pub sentences_fit : s.counts.sentences ≤ 256
  pub number_fits : s.number.size ≤ 1000000000000000000
  pub weight_fits : s.weight.size ≤ 1000000000000000000
  pub some_variable : a.least ≤ s.sizes.variables
  pub sizes_fit : s.sizes.variables + s.sizes.constraints ≤ a.sizes

abbrev pub Held : State → List Constraint → List Entry → Type 0
Held s cs es = Tracks (about s.phase) (fixed s.phase) s cs (length es)

-- the counts never fall
pub record Grows (s t : State) : Type 0 where
  pub entries : s.counts.entries ≤ t.counts.entries
  pub sentences : s.counts.sentences ≤ t.counts.sentences

-- what the next state keeps, and what a term or a constraint that has been passed says of the state before
abbrev pub Kept : State → List Constraint → List Entry → Result Next Fault → Type 0
Kept s cs es (Ok (next.More t)) = Held t cs es × Grows s t
Kept s cs es (Ok (next.Term t)) = Held t cs (es ++ (term_of s ∷ [])) × Grows s t × Tracks inside 14 s cs (length es)
Kept s cs es (Ok (next.Constraint t)) = Held t (cs ++ (constraint_of s es ∷ [])) [] × Grows s t × Tracks behind_relation 14 s cs (length es)
Kept s cs es (Err f) = Unit {0}

-- ---- numbers without a fault

number_case : (zero : Bool) (n : ℕ) (f : Option Fault) → zero ≡ eqb n 0 → cond zero (Some Count) f ≡ None → 1 ≤ n
number_case true n f e h = cc
number_case false n f e h = let g = eqb-false n 0 (sym e) in omega (arith, g)

v_known : (s : State) → v_fault s ≡ None → 1 ≤ s.number.size
unfolding v_fault
v_known s h = number_case (eqb s.number.size 0) s.number.size (long_fault s) refl h

sizes_case : (within : Bool) (n : ℕ) (f : Option Fault) → within ≡ leb n 1024 → cond within f (Some Count) ≡ None → n ≤ 1024
sizes_case true n f e h = leb-true n 1024 (sym e)
sizes_case false n f e h = cc

c_known : (s : State) → c_fault s ≡ None → s.sizes.variables + s.number.size ≤ 1024
unfolding c_fault
c_known s h = sizes_case (leb (s.sizes.variables + s.number.size) 1024) (s.sizes.variables + s.number.size) (long_fault s) refl h

more_fits : (n : Number) (b : ℕ) → (more n b).size ≤ 1000000000000000000
unfolding more
more_fits n b = min-le_right (n.size * 10 + (b - 48)) 1000000000000000000

-- ---- the pieces; u is the state before the byte

either : (P : Result Next Fault → Type 0) (t : Bool) {x y : Result Next Fault} → P x → P y → P (cond t x y)
either P true h g = h
either P false h g = g

by : (P : Result Next Fault → Type 0) (t : Bool) {x y : Result Next Fault} → (t ≡ true → P x) → (t ≡ false → P y) → P (cond t x y)
by P true h g = h refl
by P false h g = g refl

module _ (u : State) (cs : List Constraint) (es : List Entry) where
  abbrev Fine : Result Next Fault → Type 0
  Fine n = Kept u cs es n

  wrong : Fine (Err Form)
  wrong = tt

  full : Fine (Err TooMany)
  full = tt

  behind_kept : (f : Option Fault) (n : Result Next Fault) → (f ≡ None → Fine n) → Fine (behind f n)
  unfolding behind
  behind_kept None n h = h refl
  behind_kept (Some f) n h = tt

  module _ (m : ℕ) (s : State) (g : Grows u s) where
    at_kept : (p : Phase) → m ≤ fixed p → Tracks (about p) m s cs (length es) → Fine (Ok (next.More (at s p)))
    at_kept p l w = omega arith

    number_kept :
        (p : Phase) (x : Number) → x.size ≤ 1000000000000000000 → m ≤ fixed p → Tracks (about p) m s cs (length es) → Fine (Ok (next.More (numbering s p x)))
    number_kept p x f l w = omega arith

    digits_kept : (p : Phase) (b : ℕ) (k : Class) → m ≤ fixed p → Tracks (about p) m s cs (length es) → Fine (digits s p b k)
    digits_kept p b k l w = either Fine (is k Digit) (number_kept p (more s.number b) (more_fits s.number b) l w) wrong

    begin_kept :
        (p q : Phase) (b : ℕ) (k : Class) → m ≤ fixed p → m ≤ fixed q → Tracks (about p) m s cs (length es) → Tracks (about q) m s cs (length es) → Fine (begin p q s b k)
    unfolding begin
    begin_kept p q b k l l' w w' =
        either Fine (is k Digit) (number_kept q (more (signed false) b) (more_fits (signed false) b) l' w')
        (either Fine (is k Plus) (number_kept p (signed false) (omega arith) l w)
        (either Fine (is k Minus) (number_kept p (signed true) (omega arith) l w) wrong))

    enter : Tracks outside m s cs (length es) → Tracks inside m s cs (length es)
    enter w = omega arith

    between_kept : (b : ℕ) (k : Class) → m ≤ 14 → Tracks outside m s cs (length es) → Fine (between s b k)
    unfolding between
    between_kept b k l w =
        either Fine (eqb b 10) (at_kept LineStart l w)
        (either Fine (is k Blank) (at_kept Between l w) (begin_kept WeightSign InWeight b k l l (enter w) (enter w)))

    expect_kept :
        (text : List ℕ) (p q : Phase) (b : ℕ) → m ≡ length text → length text ≡ fixed p → m ≤ fixed q → Tracks (about p) m s cs (length es) →
        Tracks (about q) m s cs (length es) → Fine (expect text p q s b)
    unfolding expect
    expect_kept text p q b e f l w w' =
        either Fine (eqb (get_or text s.matched 0) b)
        (by Fine (eqb (suc s.matched) (length text))
        (λ t. number_kept q (signed false) (omega arith) l w')
        (λ t. let d = eqb-false (suc s.matched) (length text) t in omega (arith, d)))
        wrong

    at_least_kept : m ≤ 14 → Tracks inside m s cs (length es) → Fine (relation_at_least s)
    unfolding relation_at_least
    at_least_kept l w = by Fine (leb (s.counts.sentences + 1) 256) (λ t. omega (arith, leb-true (s.counts.sentences + 1) 256 t)) (λ t. full)

    equal_kept : m ≤ 14 → Tracks inside m s cs (length es) → Fine (relation_equal s)
    unfolding relation_equal
    equal_kept l w =
        by Fine (leb (s.counts.sentences + 2) 256)
        (λ t.
        by Fine (leb (s.counts.entries + s.counts.terms) 4096)
        (λ v. omega (arith, leb-true (s.counts.sentences + 2) 256 t, leb-true (s.counts.entries + s.counts.terms) 4096 v))
        (λ v. full))
        (λ t. full)

  finish_kept : (k : Class) → Tracks behind_relation 14 u cs (length es) → Fine (finish u k)
  unfolding finish
  finish_kept k w =
      let g : Grows u u = omega arith in
      either Fine (is k Blank) (at_kept 14 u g AfterBound (omega arith) w)
      (either Fine (is k Semicolon) (omega (arith, sentences_more cs (constraint_of u es), entries_more cs (constraint_of u es))) wrong)

  term_kept : variable_fault u ≡ None → Tracks inside 14 u cs (length es) → Fine (Ok (next.Term (term u)))
  term_kept f w = omega (arith, entry_left u f, length-append es (term_of u ∷ []))

-- ---- the automaton

module _ (s : State) (cs : List Constraint) (es : List Entry) (b : ℕ) (k : Class) where
  same : Grows s s
  same = omega arith

  kept : (p : Phase) → Tracks (about p) (fixed p) s cs (length es) → Kept s cs es (transition p s b k)
  unfolding transition
  kept Opening w = expect_kept s cs es 13 s same opening Opening BeforeV b refl refl (omega arith) w w
  kept BeforeV w = digits_kept s cs es 14 s same InV b k (omega arith) w
  kept InV w =
      either (Kept s cs es) (is k Digit) (digits_kept s cs es 14 s same InV b k (omega arith) w)
      (behind_kept s cs es (v_fault s) _ (λ f.
      let h = v_known s f in
      expect_kept s cs es 14 (sizing s Middle (record { variables = s.number.size; constraints = 0 })) (omega arith) middle Middle BeforeC b refl refl
      (omega arith) (omega (arith, h)) (omega (arith, h))))
  kept Middle w = expect_kept s cs es 14 s same middle Middle BeforeC b refl refl (omega arith) w w
  kept BeforeC w = digits_kept s cs es 14 s same InC b k (omega arith) w
  kept InC w =
      either (Kept s cs es) (is k Digit) (digits_kept s cs es 14 s same InC b k (omega arith) w)
      (behind_kept s cs es (c_fault s) _ (λ f.
      let h = c_known s f in
      either (Kept s cs es) (eqb b 10) (omega (arith, h)) (either (Kept s cs es) (eqb b 13) (omega (arith, h)) (wrong s cs es))))
  kept AfterReturn w = either (Kept s cs es) (eqb b 10) (at_kept s cs es 14 s same LineStart (omega arith) w) (wrong s cs es)
  kept LineStart w =
      either (Kept s cs es) (is k Star) (at_kept s cs es 14 s same Comment (omega arith) w) (between_kept s cs es 14 s same b k (omega arith) w)
  kept Between w = between_kept s cs es 14 s same b k (omega arith) w
  kept Comment w =
      either (Kept s cs es) (eqb b 10) (at_kept s cs es 14 s same LineStart (omega arith) w) (at_kept s cs es 14 s same Comment (omega arith) w)
  kept WeightSign w = digits_kept s cs es 14 s same InWeight b k (omega arith) w
  kept InWeight w =
      either (Kept s cs es) (is k Digit) (digits_kept s cs es 14 s same InWeight b k (omega arith) w)
      (behind_kept s cs es (long_fault s) _ (λ f. either (Kept s cs es) (is k Blank) (omega arith) (wrong s cs es)))
  kept BeforeX w =
      either (Kept s cs es) (is k Blank) (at_kept s cs es 14 s same BeforeX (omega arith) w)
      (either (Kept s cs es) (is k Ex) (number_kept s cs es 14 s same BeforeVariable (signed false) (omega arith) (omega arith) w) (wrong s cs es))
  kept BeforeVariable w = either (Kept s cs es) (eqb b 48) (wrong s cs es) (digits_kept s cs es 14 s same InVariable b k (omega arith) w)
  kept InVariable w =
      either (Kept s cs es) (is k Digit) (digits_kept s cs es 14 s same InVariable b k (omega arith) w)
      (behind_kept s cs es (variable_fault s) _ (λ f. either (Kept s cs es) (is k Blank) (term_kept s cs es f w) (wrong s cs es)))
  kept AfterTerm w =
      either (Kept s cs es) (is k Blank) (at_kept s cs es 14 s same AfterTerm (omega arith) w)
      (either (Kept s cs es) (is k Greater) (at_kept s cs es 14 s same AfterGreater (omega arith) w)
      (either (Kept s cs es) (is k Equal) (equal_kept s cs es 14 s same (omega arith) w)
      (begin_kept s cs es 14 s same WeightSign InWeight b k (omega arith) (omega arith) w w)))
  kept AfterGreater w = either (Kept s cs es) (is k Equal) (at_least_kept s cs es 14 s same (omega arith) w) (wrong s cs es)
  kept AfterRelation w = either (Kept s cs es) (is k Blank) (at_kept s cs es 14 s same BeforeBound (omega arith) w) (wrong s cs es)
  kept BeforeBound w =
      either (Kept s cs es) (is k Blank) (at_kept s cs es 14 s same BeforeBound (omega arith) w)
      (begin_kept s cs es 14 s same BoundSign InBound b k (omega arith) (omega arith) w w)
  kept BoundSign w = digits_kept s cs es 14 s same InBound b k (omega arith) w
  kept InBound w =
      either (Kept s cs es) (is k Digit) (digits_kept s cs es 14 s same InBound b k (omega arith) w)
      (behind_kept s cs es (long_fault s) _ (λ f. finish_kept s cs es k w))
  kept AfterBound w = finish_kept s cs es k w

pub step_kept : (s : State) (cs : List Constraint) (es : List Entry) (b : ℕ) → Held s cs es → Kept s cs es (step s b)
step_kept s cs es b w = kept s cs es b (class_of b) s.phase w

pub begins_held : Held begins [] []
unfolding sentences_of entries_of
begins_held = omega arith
