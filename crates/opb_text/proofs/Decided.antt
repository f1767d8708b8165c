-- The first pass: the answer at a fault or at the end is the reading's, since the state has counted the sentences and entries of the rows.
use mathlib.Core.Path.{◌≡◌, refl, sym, ap, subst, ◌∙◌}
use mathlib.Core.Bool.{Bool, true, false, cond}
use mathlib.Core.List.{List, [], ◌∷◌, ◌++◌}
use Prim.Native.Nat.{ℕ, suc, ◌+◌, ◌≤◌, ◌<◌}
use native.Mathlib.Omega.{arith}
use lib.ListN.{length, get_or, length-append}
use lib.Dec.{eqb}
use Rattle.meaning.specs.Meaning.{Entry}
use Rattle.opb_grammar.specs.declared.State.{State}
use Rattle.std.specs.Prelude.{Option, Some, None, Result, Ok, Err, is_ok, MatchResult, IsErrAnd}
use Rattle.opb_grammar.specs.declared.Fault.{Fault}
use Rattle.opb_grammar.specs.declared.Fault.TheVariants.{Count, TooLong}
use Rattle.opb_grammar.specs.declared.Next.{Next}
use Rattle.opb_grammar.specs.declared.Next.TheVariants as next
use Rattle.opb_grammar.specs.Grammar.{step, ends, begins}
use Rattle.opb_bytes.specs.Inner.States.{fixed, StateSound}
use Rattle.opb_text.specs.declared.Read.{Read}
use Rattle.opb_text.specs.declared.Refusal.{Refusal}
use Rattle.opb_text.specs.declared.Refusal.TheVariants as refusal
use Rattle.opb_text.specs.Text.{Constraint, taken, refused, term_of, constraint_of, closing, reading, rows_from, all_entries, stored, read_of}
use Rattle.opb_text.specs.Inner.States.{counted, answer_to, answer_at}
use Rattle.opb_text.proofs.Totals.{all_rows, all_row_entries}
use Rattle.opb_text.proofs.Keeps.{About, outside, Tracks, Held}
use Rattle.opb_text.proofs.Limits.{may_end}
use Rattle.opb_text.proofs.Course.{Reached, reached_first, sound, on_more, on_term, on_constraint, on_fault, at_end, too_long, not_too_long}

-- ---- the end

module _ (sentences entries : ℕ) (s : State) (cs : List Constraint) where
  stored_is : (n : ℕ) → Tracks outside (fixed s.phase) s cs n →
      stored sentences entries s.sizes.variables (length cs) (rows_from (suc s.sizes.variables) cs) ≡ counted sentences entries s (length cs)
  stored_is n w =
      let e : length (rows_from (suc s.sizes.variables) cs) ≡ s.counts.sentences = omega (arith, all_rows (suc s.sizes.variables) cs) in
      let f : length (all_entries (rows_from (suc s.sizes.variables) cs)) ≡ s.counts.entries =
      omega (arith, all_row_entries (suc s.sizes.variables) cs) in
      rw (e, f)

  complete_is :
      (n : ℕ) → Tracks outside (fixed s.phase) s cs n → (all : Bool) →
      read_of sentences entries (cond all (taken s.sizes.variables cs) (refused Count (length cs)))
      ≡ cond all (counted sentences entries s (length cs)) (Err (refusal.Text Count (length cs)))
  complete_is n w true = stored_is n w
  complete_is n w false = refl

  closing_is :
      (n : ℕ) (f : Option Fault) → (f ≡ None → Tracks outside (fixed s.phase) s cs n) →
      read_of sentences entries (closing s cs f) ≡ answer_to sentences entries s (length cs) f
  closing_is n None w = complete_is n (w refl) (eqb (length cs) s.sizes.constraints)
  closing_is n (Some f) w = refl

  answer_is : (es : List Entry) → Held s cs es → read_of sentences entries (closing s cs (ends s.phase s)) ≡ answer_at sentences entries s (length cs)
  unfolding answer_at
  answer_is es w =
      closing_is (length es) (ends s.phase s)
      (λ e. subst (λ (a : About). Tracks a (fixed s.phase) s cs (length es)) (may_end s.phase s e) w)

-- ---- the loop: `complete` constraints are read

-- a step's answer with its fault made a refusal: what it says of the step
pub next_is :
    (Q : Fault → Type 0) (r : Result Next Fault) {x : Result Next Refusal} {n : Next} → MatchResult r (λ m. x ≡ Ok m) Q → is_ok x ≡ is_ok r → x ≡ Ok n →
    r ≡ Ok n
next_is Q (Ok m) {x} {n} h v e = let b : m ≡ n = cc in ap Ok b
next_is Q (Err f) h v e = let b : true ≡ false = sym (ap is_ok e) ∙ v in cc

pub fault_is :
    (Q : Fault → Refusal → Type 0) (r : Result Next Fault) {x : Result Next Refusal} {e : Refusal} →
    MatchResult r (λ m. x ≡ Ok m) (λ f. IsErrAnd x (Q f)) → is_ok x ≡ is_ok r → x ≡ Err e → (f : Fault) × (r ≡ Err f) × Q f e
fault_is Q (Ok m) {x} {e} h v q = let b : false ≡ true = sym (ap is_ok q) ∙ v in cc
fault_is Q (Err f) {x} {e} h v q = (f, refl, subst (λ (y : Result Next Refusal). IsErrAnd y (Q f)) q h)

abbrev the_refusal : Fault → ℕ → Result Read Refusal
the_refusal f k = Err (refusal.Text f k)

pub record Sofar (text : List ℕ) (s : State) (complete i : ℕ) : Type 0 where
  pub cs : List Constraint
  pub es : List Entry
  pub reached : Reached text s i cs es
  pub number : length cs ≡ complete
  pub few : complete ≤ i
  pub short : length text ≤ 65536

pub first : (text : List ℕ) (s : State) → s ≡ begins → length text ≤ 65536 → Sofar text s 0 0
first text s q h = record { cs = []; es = []; reached = reached_first text s q; number = refl; few = omega arith; short = h }

module _ {text : List ℕ} {s : State} {k i : ℕ} (so : Sofar text s k i) where
  pub sound_here : StateSound s
  sound_here = sound s so.cs so.es so.reached.held

  module _ (h : i < length text) {r : Result Next Fault} (q : r ≡ step s (get_or text i 0)) where
    pub more : (t : State) → r ≡ Ok (next.More t) → Sofar text t k (i + 1)
    more t m =
        record { cs = so.cs; es = so.es; reached = on_more so.reached h q t m; number = so.number; few = omega (arith, so.few); short = so.short }

    pub term : (t : State) → r ≡ Ok (next.Term t) → Sofar text t k (i + 1)
    term t m =
        record {
          cs = so.cs;
          es = so.es ++ (term_of s ∷ []);
          reached = on_term so.reached h q t m;
          number = so.number;
          few = omega (arith, so.few);
          short = so.short;
        }

    pub constraint : (t : State) → r ≡ Ok (next.Constraint t) → Sofar text t (k + 1) (i + 1)
    constraint t m =
        record {
          cs = so.cs ++ (constraint_of s so.es ∷ []);
          es = [];
          reached = on_constraint so.reached h q t m;
          number = length-append so.cs (constraint_of s so.es ∷ []) ∙ ap (λ (n : ℕ). n + 1) so.number;
          few = omega (arith, so.few);
          short = so.short;
        }

    pub fault : (sentences entries : ℕ) (f : Fault) → r ≡ Err f → Err (refusal.Text f k) ≡ read_of sentences entries (reading text)
    fault sentences entries f m =
        sym
        (ap (read_of sentences entries) (not_too_long text so.short ∙ on_fault so.reached h q f m)
        ∙ ap (λ (n : ℕ). the_refusal f n) so.number)

  pub end : (sentences entries : ℕ) → length text ≤ i → answer_at sentences entries s k ≡ read_of sentences entries (reading text)
  end sentences entries h =
      sym
      (ap (read_of sentences entries) (not_too_long text so.short ∙ at_end so.reached h)
      ∙ answer_is sentences entries s so.cs so.es so.reached.held
      ∙ ap (answer_at sentences entries s) so.number)

pub long_answer : (text : List ℕ) (sentences entries : ℕ) → 65536 < length text → Err (refusal.Text TooLong 0) ≡ read_of sentences entries (reading text)
long_answer text sentences entries h = sym (ap (read_of sentences entries) (too_long text h))
