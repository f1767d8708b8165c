-- Where a pass over the text stands: what is left to read, from the state with the constraints and terms read so far, gives the whole
-- text's reading. Each turn of a loop keeps it, and at a fault or at the end it is the answer.
use mathlib.Core.Path.{◌≡◌, refl, sym, ap, subst, ◌∙◌}
use mathlib.Core.List.{List, [], ◌∷◌, ◌++◌}
use Prim.Native.Nat.{ℕ, suc, ◌+◌, ◌≤◌, ◌<◌}
use native.Mathlib.Omega.{arith}
use native.Mathlib.Numerals.{add-one}
use lib.ListN.{length, get_or, drop, drop_of_length-le}
use lib.Seq.{drop-cons}
use borrow.Author.Tests.{lt-ltb, le-ltb}
use Rattle.meaning.specs.Meaning.{Entry}
use Rattle.std.specs.Prelude.{Result, Ok, Err}
use Rattle.opb_grammar.specs.declared.State.{State}
use Rattle.opb_grammar.specs.declared.Fault.{Fault}
use Rattle.opb_grammar.specs.declared.Fault.TheVariants.{TooLong}
use Rattle.opb_grammar.specs.declared.Next.{Next}
use Rattle.opb_grammar.specs.declared.Next.TheVariants as next
use Rattle.opb_grammar.specs.Grammar.{step, ends, begins}
use Rattle.opb_bytes.specs.Inner.States.{StateSound}
use Rattle.opb_text.specs.Text.{Constraint, refused, term_of, constraint_of, after_byte, closing, go, reading}
use Rattle.opb_text.proofs.Keeps.{Held, Kept, step_kept, begins_held}

pub record Reached (text : List ℕ) (s : State) (i : ℕ) (cs : List Constraint) (es : List Entry) : Type 0 where
  pub goes : go text begins [] [] ≡ go (drop i text) s cs es
  pub held : Held s cs es

pub reached_first : (text : List ℕ) (s : State) → s ≡ begins → Reached text s 0 [] []
reached_first text s q = subst (λ (t : State). Reached text t 0 [] []) (sym q) (record { goes = refl; held = begins_held })

pub sound : (s : State) (cs : List Constraint) (es : List Entry) → Held s cs es → StateSound s
sound s cs es w = omega arith

module _ {text : List ℕ} {s : State} {i : ℕ} {cs : List Constraint} {es : List Entry} (so : Reached text s i cs es) where
  module _ (h : i < length text) {r : Result Next Fault} (q : r ≡ step s (get_or text i 0)) where
    goes_on : go text begins [] [] ≡ after_byte s cs es (go (drop (i + 1) text)) r
    unfolding go
    goes_on =
        so.goes
        ∙ ap (λ (t : List ℕ). go t s cs es) (drop-cons text i 0 h)
        ∙ ap (after_byte s cs es (go (drop (suc i) text))) (sym q)
        ∙ ap (λ (n : ℕ). after_byte s cs es (go (drop n text)) r) (sym (add-one i))

    pub goes_to : (n : Result Next Fault) → r ≡ n → go text begins [] [] ≡ after_byte s cs es (go (drop (i + 1) text)) n
    goes_to n m = goes_on ∙ ap (after_byte s cs es (go (drop (i + 1) text))) m

    pub keeps : (n : Result Next Fault) → r ≡ n → Kept s cs es n
    keeps n m = subst (Kept s cs es) (sym q ∙ m) (step_kept s cs es (get_or text i 0) so.held)

    pub on_more : (t : State) → r ≡ Ok (next.More t) → Reached text t (i + 1) cs es
    on_more t m = record { goes = goes_to (Ok (next.More t)) m; held = (keeps (Ok (next.More t)) m).0 }

    pub on_term : (t : State) → r ≡ Ok (next.Term t) → Reached text t (i + 1) cs (es ++ (term_of s ∷ []))
    on_term t m = record { goes = goes_to (Ok (next.Term t)) m; held = (keeps (Ok (next.Term t)) m).0 }

    pub on_constraint : (t : State) → r ≡ Ok (next.Constraint t) → Reached text t (i + 1) (cs ++ (constraint_of s es ∷ [])) []
    on_constraint t m = record { goes = goes_to (Ok (next.Constraint t)) m; held = (keeps (Ok (next.Constraint t)) m).0 }

    pub on_fault : (f : Fault) → r ≡ Err f → go text begins [] [] ≡ refused f (length cs)
    on_fault f m = goes_to (Err f) m

  pub at_end : length text ≤ i → go text begins [] [] ≡ closing s cs (ends s.phase s)
  unfolding go
  at_end h = so.goes ∙ ap (λ (t : List ℕ). go t s cs es) (drop_of_length-le text h)

-- ---- the whole text

pub too_long : (text : List ℕ) → 65536 < length text → reading text ≡ refused TooLong 0
unfolding reading
too_long text h = rw (lt-ltb 65536 (length text) h)

pub not_too_long : (text : List ℕ) → length text ≤ 65536 → reading text ≡ go text begins [] []
unfolding reading
not_too_long text h = rw (le-ltb 65536 (length text) h)
