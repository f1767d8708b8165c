-- The limits of what is read: a text that is taken has at most 256 sentences, 4,096 entries and 1,024 atoms, with at least one variable.
-- From any state on the way the counts only grow, up to those of the whole text.
use mathlib.Core.Path.{◌≡◌, refl, sym, subst}
use mathlib.Core.Bool.{Bool, true, false, cond}
use mathlib.Core.List.{List, [], ◌∷◌, ◌++◌}
use Prim.Native.Nat.{ℕ, suc, ◌+◌, ◌≤◌}
use native.Mathlib.Omega.{arith}
use lib.ListN.{length}
use lib.Dec.{eqb, ltb}
use borrow.Author.Tests.{eqb-true}
use Rattle.meaning.specs.Meaning.{Entry}
use Rattle.opb_grammar.specs.declared.Phase.{Phase}
use Rattle.opb_grammar.specs.declared.Phase.TheVariants.{Opening, BeforeV, InV, Middle, BeforeC, InC, AfterReturn, LineStart, Between, Comment, WeightSign, InWeight, BeforeX, BeforeVariable, InVariable, AfterTerm, AfterGreater, AfterRelation, BeforeBound, BoundSign, InBound, AfterBound}
use Rattle.opb_grammar.specs.declared.State.{State}
use Rattle.std.specs.Prelude.{Option, Some, None, Result, Ok, Err}
use Rattle.opb_grammar.specs.declared.Fault.{Fault}
use Rattle.opb_grammar.specs.declared.Fault.TheVariants.{Count, TooLong}
use Rattle.opb_grammar.specs.declared.Next.{Next}
use Rattle.opb_grammar.specs.declared.Next.TheVariants as next
use Rattle.opb_grammar.specs.Grammar.{bytes_limit, step, ends, begins}
use Rattle.opb_bytes.specs.Inner.States.{fixed}
use Rattle.opb_text.specs.Text.{Constraint, Reading, taken, refused, term_of, constraint_of, after_byte, closing, go, reading}
use Rattle.opb_text.specs.Limits.{Limits}
use Rattle.opb_text.proofs.Totals.{sentences_of, entries_of, all_rows, all_row_entries}
use Rattle.opb_text.proofs.Keeps.{About, about, outside, Tracks, Held, Grows, Kept, step_kept, begins_held}

-- ---- the end of the text stands outside constraints

pub may_end : (p : Phase) (s : State) → ends p s ≡ None → about p ≡ outside
unfolding ends
may_end Opening s h = cc
may_end BeforeV s h = cc
may_end InV s h = cc
may_end Middle s h = cc
may_end BeforeC s h = cc
may_end InC s h = cc
may_end AfterReturn s h = refl
may_end LineStart s h = refl
may_end Between s h = refl
may_end Comment s h = refl
may_end WeightSign s h = cc
may_end InWeight s h = cc
may_end BeforeX s h = cc
may_end BeforeVariable s h = cc
may_end InVariable s h = cc
may_end AfterTerm s h = cc
may_end AfterGreater s h = cc
may_end AfterRelation s h = cc
may_end BeforeBound s h = cc
may_end BoundSign s h = cc
may_end InBound s h = cc
may_end AfterBound s h = cc

-- ---- what the rest of the text leads to

pub record Taken (s : State) (v : ℕ) (cs : List Constraint) : Type 0 where
  pub entries : s.counts.entries ≤ entries_of cs
  pub sentences : s.counts.sentences ≤ sentences_of cs
  pub entries_fit : entries_of cs ≤ 4096
  pub sentences_fit : sentences_of cs ≤ 256
  pub some_variable : 1 ≤ v
  pub sizes_fit : v + length cs ≤ 1024

abbrev pub Leads : State → Reading → Type 0
Leads s (taken v cs) = Taken s v cs
Leads s (refused f k) = Unit {0}

earlier : (s t : State) (r : Reading) → Grows s t → Leads t r → Leads s r
earlier s t (taken v cs) g h = omega arith
earlier s t (refused f k) g h = tt

module _ (s : State) (cs : List Constraint) where
  all_there : (complete : Bool) → complete ≡ eqb (length cs) s.sizes.constraints → (n : ℕ) → Tracks outside (fixed s.phase) s cs n →
      Leads s (cond complete (taken s.sizes.variables cs) (refused Count (length cs)))
  all_there true e n w = omega (arith, eqb-true (length cs) s.sizes.constraints (sym e))
  all_there false e n w = tt

  closing_leads : (es : List Entry) → Held s cs es → (f : Option Fault) → (f ≡ None → about s.phase ≡ outside) → Leads s (closing s cs f)
  closing_leads es w None h =
      all_there (eqb (length cs) s.sizes.constraints) refl (length es)
      (subst (λ (a : About). Tracks a (fixed s.phase) s cs (length es)) (h refl) w)
  closing_leads es w (Some f) h = tt

turn_leads :
    (bs : List ℕ) (s : State) (cs : List Constraint) (es : List Entry) → ((t : State) (ds : List Constraint) (fs : List Entry) → Held t ds fs → Leads t (go bs t ds fs)) →
    (n : Result Next Fault) → Kept s cs es n → Leads s (after_byte s cs es (go bs) n)
turn_leads bs s cs es on (Ok (next.More t)) h = earlier s t (go bs t cs es) h.1 (on t cs es h.0)
turn_leads bs s cs es on (Ok (next.Term t)) h =
    let fs : List Entry = es ++ (term_of s ∷ []) in earlier s t (go bs t cs fs) h.1 (on t cs fs h.0)
turn_leads bs s cs es on (Ok (next.Constraint t)) h =
    let ds : List Constraint = cs ++ (constraint_of s es ∷ []) in earlier s t (go bs t ds []) h.1 (on t ds [] h.0)
turn_leads bs s cs es on (Err f) h = tt

pub go_leads : (bs : List ℕ) (s : State) (cs : List Constraint) (es : List Entry) → Held s cs es → Leads s (go bs s cs es)
unfolding go
go_leads [] s cs es w = closing_leads s cs es w (ends s.phase s) (may_end s.phase s)
go_leads (b ∷ bs) s cs es w = turn_leads bs s cs es (λ t ds fs h. go_leads bs t ds fs h) (step s b) (step_kept s cs es b w)

long_leads : (text : List ℕ) (long : Bool) → Leads begins (cond long (refused TooLong 0) (go text begins [] []))
long_leads text true = tt
long_leads text false = go_leads text begins [] [] begins_held

pub reading_leads : (text : List ℕ) → Leads begins (reading text)
unfolding reading
reading_leads text = long_leads text (ltb bytes_limit (length text))

-- ---- in document 01's terms

pub limits : (text : List ℕ) (v : ℕ) (cs : List Constraint) → reading text ≡ taken v cs → Limits v cs
limits text v cs q =
    let h : Taken begins v cs = subst (Leads begins) q (reading_leads text) in
    omega (arith, all_rows (suc v) cs, all_row_entries (suc v) cs)
