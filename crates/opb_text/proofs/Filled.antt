-- The second pass: the columns hold the constraints and terms read so far. There is room, since the counts only grow, up to those of the
-- whole text, which the first pass compared with the room; no fault comes, since the text was taken; at the end all constraints are there.
use mathlib.Core.Path.{◌≡◌, refl, sym, ap, subst, ◌∙◌}
use mathlib.Core.Bool.{Bool, true, false, cond}
use mathlib.Core.List.{List, [], ◌∷◌, ◌++◌}
use Prim.Native.Nat.{ℕ, suc, ◌+◌, ◌≤◌, ◌<◌, min}
use native.Mathlib.Omega.{arith}
use native.Mathlib.Nat.{min-le_left, min-le_right}
use lib.ListN.{length, get_or, length-append, drop}
use lib.Dec.{eqb, ltb}
use borrow.Author.Tests.{ltb-false}
use Rattle.meaning.specs.Meaning.{Entry}
use Rattle.columns.specs.Columns.{Columns}
use Rattle.opb_grammar.specs.declared.State.{State}
use Rattle.std.specs.Prelude.{Option, Some, None, Result, Ok, Err}
use Rattle.opb_grammar.specs.declared.Fault.{Fault}
use Rattle.opb_grammar.specs.declared.Fault.TheVariants.{Count, TooLong}
use Rattle.opb_grammar.specs.declared.Next.{Next}
use Rattle.opb_grammar.specs.declared.Next.TheVariants as next
use Rattle.opb_grammar.specs.Grammar.{bytes_limit, step, ends, begins}
use Rattle.opb_bytes.specs.Inner.States.{fixed, StateSound}
use Rattle.opb_text.specs.declared.Read.{Read}
use Rattle.opb_text.specs.declared.Refusal.TheVariants as refusal
use Rattle.opb_text.specs.Text.{Constraint, Reading, taken, refused, term_of, constraint_of, closing, go, reading, rows_from, all_entries, columns_of, read_of, over_all, result_of, sentence_room, entry_room, Reads}
use Rattle.opb_rows.specs.declared.ColumnsMut.{ColumnsMut}
use Rattle.opb_rows.specs.Columns.{held_of, SameColumns}
use Rattle.opb_rows.specs.Inner.Rows.{with_term, with_rows, TermRoom, RowsRoom}
use Rattle.opb_rows.proofs.Same.{same_still, same_then}
use Rattle.opb_text.specs.Inner.States.{Decided}
use Rattle.opb_text.proofs.Totals.{again, sentences_of, entries_of, constraints_few, all_rows, all_row_entries}
use Rattle.opb_text.proofs.Keeps.{About, outside, Tracks}
use Rattle.opb_text.proofs.Limits.{Taken, Leads, may_end, go_leads, limits}
use Rattle.opb_text.proofs.Course.{Reached, reached_first, sound, keeps, on_more, on_term, on_constraint, on_fault, at_end}
use Rattle.opb_text.proofs.Fronts.{so_far, none_so_far, all_so_far, constraint_put, term_put}

-- ---- what the first pass told

-- the constraints of the text, the first of which has this head
pub record Known (text : List ℕ) (old : Columns) (first : ℕ) : Type 0 where
  pub variables : ℕ
  pub all : List Constraint
  pub is_read : reading text ≡ taken variables all
  pub first_head : first ≡ suc variables
  pub sentences : sentences_of all ≤ sentence_room old
  pub entries : entries_of all ≤ entry_room old

-- an answer came past the tests of the room
room_told :
    (m n l k : ℕ) (good r : Read) (few less : Bool) → few ≡ ltb m l → less ≡ ltb n k →
    Ok r ≡ cond few (Err (refusal.Columns l)) (cond less (Err (refusal.Columns k)) (Ok good)) → (l ≤ m) × (k ≤ n) × (r ≡ good)
room_told m n l k good r true less e f q = let b : ⊥ = cc in absurd b
room_told m n l k good r false true e f q = let b : ⊥ = cc in absurd b
room_told m n l k good r false false e f q = (ltb-false m l (sym e), ltb-false n k (sym f), cc)

-- it keeps to the room and to the limits
pub record Fits (old : Columns) (r : Read) : Type 0 where
  pub sentences : r.sentences ≤ sentence_room old
  pub entries : r.entries ≤ entry_room old
  pub atoms : r.variables + r.constraints ≤ 1024

module _ (text : List ℕ) (old : Columns) (r : Read) where
  answer_known : (x : Reading) → reading text ≡ x → Ok r ≡ read_of (sentence_room old) (entry_room old) x → Known text old (r.variables + 1) × Fits old r
  answer_known (taken v cs) e q =
      let xs = rows_from (suc v) cs in
      let g = room_told (sentence_room old) (entry_room old) (length xs) (length (all_entries xs)) _ r _ _ refl refl q in (
        record {
          variables = v;
          all = cs;
          is_read = e;
          first_head = omega (arith, ap (λ (y : Read). y.variables) g.2);
          sentences = omega (arith, g.0, all_rows (suc v) cs);
          entries = omega (arith, g.1, all_row_entries (suc v) cs);
        },
        record {
          sentences = omega (arith, g.0, ap (λ (y : Read). y.sentences) g.2);
          entries = omega (arith, g.1, ap (λ (y : Read). y.entries) g.2);
          atoms = omega (arith, (limits text v cs e).atoms, ap (λ (y : Read). y.variables) g.2, ap (λ (y : Read). y.constraints) g.2);
        },
      )
  answer_known (refused f k) e q = let b : ⊥ = cc in absurd b

  pub known : Decided text old r → Known text old (r.variables + 1)
  known d = (answer_known (reading text) refl d.answer).0

  pub answer_fits : {new : Columns} → Reads text old new (Ok r) → Fits old r
  answer_fits h = (answer_known (reading text) refl h.answer).1

went : (text : List ℕ) (v : ℕ) (cs : List Constraint) (long : Bool) → cond long (refused TooLong 0) (go text begins [] []) ≡ taken v cs → go text begins [] [] ≡ taken v cs
went text v cs true e = cc
went text v cs false e = e

gone : (text : List ℕ) (v : ℕ) (cs : List Constraint) → reading text ≡ taken v cs → go text begins [] [] ≡ taken v cs
unfolding reading
gone text v cs e = went text v cs (ltb bytes_limit (length text)) e

-- ---- room in each column

module _ (old : Columns) (n : ℕ) where
  pub record EachLong : Type 0 where
    pub heads : n ≤ length old.heads
    pub kinds : n ≤ length old.kinds
    pub sides : n ≤ length old.sides
    pub bounds : n ≤ length old.bounds
    pub counts : n ≤ length old.counts

  each_long : n ≤ sentence_room old → EachLong
  each_long h =
      let a = length old.bounds in
      let b = min (length old.bounds) (length old.counts) in
      let c = min (length old.sides) b in
      let d = min (length old.kinds) c in
      omega (
        arith,
        min-le_left (length old.heads) d,
        min-le_right (length old.heads) d,
        min-le_left (length old.kinds) c,
        min-le_right (length old.kinds) c,
        min-le_left (length old.sides) b,
        min-le_right (length old.sides) b,
        min-le_left a (length old.counts),
        min-le_right a (length old.counts),
      )

  both_long : n ≤ entry_room old → (n ≤ length old.weights) × (n ≤ length old.literals)
  both_long h =
      omega (arith, min-le_left (length old.weights) (length old.literals), min-le_right (length old.weights) (length old.literals))

copies_fit : (equal : Bool) (e t : ℕ) → cond equal (t + t) 0 ≤ e + t + again equal t
copies_fit true e t = omega arith
copies_fit false e t = omega arith

-- ---- the end of a text that is taken

complete_case :
    (s : State) (cs all : List Constraint) (v : ℕ) (complete : Bool) → cond complete (taken s.sizes.variables cs) (refused Count (length cs)) ≡ taken v all → cs ≡ all
complete_case s cs all v true e = cc
complete_case s cs all v false e = cc

closed : (s : State) (cs all : List Constraint) (v : ℕ) (f : Option Fault) → closing s cs f ≡ taken v all → (f ≡ None) × (cs ≡ all)
closed s cs all v None e = (refl, complete_case s cs all v (eqb (length cs) s.sizes.constraints) e)
closed s cs all v (Some f) e = let b : ⊥ = cc in absurd b

empty : (es : List Entry) → length es ≤ 0 → es ≡ []
empty [] h = refl
empty (e ∷ es) h = let b : ⊥ = omega arith in absurd b

-- ---- the loop: `head` is the next constraint's

pub record Filling (text : List ℕ) (old : ColumnsMut) (first : ℕ) (now : ColumnsMut) (s : State) (head i : ℕ) : Type 0 where
  pub told : Known text (held_of old) first
  pub cs : List Constraint
  pub es : List Entry
  pub reached : Reached text s i cs es
  pub next_head : head ≡ first + length cs
  pub same : SameColumns old now
  pub filled : held_of now ≡ over_all (so_far first cs es) (held_of old)

pub few_variables : {text : List ℕ} {old : Columns} {r : Read} → Decided text old r → r.variables ≤ 1024
few_variables {text} {old} {r} d = let k = known text old r d in omega (arith, k.first_head, (limits text k.variables k.all k.is_read).atoms)

pub first :
    {text : List ℕ} {old : ColumnsMut} {r : Read} (d : Decided text (held_of old) r) {s : State} → s ≡ begins →
    Filling text old (r.variables + 1) old s (r.variables + 1) 0
first {text} {old} {r} d {s} q =
    record {
      told = known text (held_of old) r d;
      cs = [];
      es = [];
      reached = reached_first text s q;
      next_head = omega arith;
      same = same_still old;
      filled = none_so_far (r.variables + 1) (held_of old);
    }

module _ {text : List ℕ} {old : ColumnsMut} {f : ℕ} {now : ColumnsMut} {s : State} {head i : ℕ} (so : Filling text old f now s head i) where
  pub sound_here : StateSound s
  sound_here = sound s so.cs so.es so.reached.held

  goes_to_all : go text begins [] [] ≡ taken so.told.variables so.told.all
  goes_to_all = gone text so.told.variables so.told.all so.told.is_read

  pub few : head ≤ 2048
  few =
      omega (
        arith,
        so.next_head,
        so.told.first_head,
        constraints_few so.cs,
        so.reached.held.sentences,
        so.reached.held.sentences_fit,
        (limits text so.told.variables so.told.all so.told.is_read).atoms,
      )

  leads : (t : State) (j : ℕ) (ds : List Constraint) (fs : List Entry) → Reached text t j ds fs → Taken t so.told.variables so.told.all
  leads t j ds fs re = subst (Leads t) (sym re.goes ∙ goes_to_all) (go_leads (drop j text) t ds fs re.held)

  module _ (p : i < length text) {x : Result Next Fault} (q : x ≡ step s (get_or text i 0)) where
    pub more : (t : State) → x ≡ Ok (next.More t) → Filling text old f now t head (i + 1)
    more t m =
        record {
          told = so.told;
          cs = so.cs;
          es = so.es;
          reached = on_more so.reached p q t m;
          next_head = so.next_head;
          same = so.same;
          filled = so.filled;
        }

    entries_left : (t : State) → x ≡ Ok (next.Term t) → (s.counts.entries < length old.weights.now) × (s.counts.entries < length old.literals.now)
    entries_left t m =
        let kept = keeps so.reached p q (Ok (next.Term t)) m in
        let all = leads t (i + 1) so.cs (so.es ++ (term_of s ∷ [])) (on_term so.reached p q t m) in
        let more : s.counts.entries < t.counts.entries =
        omega (arith, kept.0.entries, kept.2.entries, length-append so.es (term_of s ∷ [])) in
        let room = both_long (held_of old) t.counts.entries (omega (arith, all.entries, so.told.entries)) in
        omega (arith, room)

    pub term_room : (t : State) → x ≡ Ok (next.Term t) → TermRoom s (held_of now)
    term_room t m =
        let left = entries_left t m in
        record {
          weights = omega (arith, left.0, so.same.weights.size);
          literals = omega (arith, left.1, so.same.literals.size);
          weight_size = so.reached.held.weight_fits;
          size = so.reached.held.number_fits;
        }

    pub term :
        (t : State) → x ≡ Ok (next.Term t) → {new : ColumnsMut} → SameColumns now new → held_of new ≡ with_term s (held_of now) →
        Filling text old f new t head (i + 1)
    term t m a e =
        let left = entries_left t m in
        record {
          told = so.told;
          cs = so.cs;
          es = so.es ++ (term_of s ∷ []);
          reached = on_term so.reached p q t m;
          next_head = so.next_head;
          same = same_then so.same a;
          filled =
              e ∙ ap (with_term s) so.filled ∙ term_put f s so.cs so.es (keeps so.reached p q (Ok (next.Term t)) m).2 (held_of old) left.0 left.1;
        }

    rows_left : EachLong (held_of old) s.counts.sentences × (s.counts.entries ≤ length old.weights.now) × (s.counts.entries ≤ length old.literals.now)
    rows_left =
        let all = leads s i so.cs so.es so.reached in
        let e = both_long (held_of old) s.counts.entries (omega (arith, all.entries, so.told.entries)) in
        (each_long (held_of old) s.counts.sentences (omega (arith, all.sentences, so.told.sentences)), e.0, e.1)

    pub rows_room : (t : State) → x ≡ Ok (next.Constraint t) → RowsRoom s (held_of now)
    rows_room t m =
        let w = (keeps so.reached p q (Ok (next.Constraint t)) m).2 in
        let left = rows_left in
        let copies = copies_fit s.equal (entries_of so.cs) s.counts.terms in
        record {
          rows = omega (arith, w.sentences);
          copies =
              subst (λ (e : ℕ). cond s.equal (s.counts.terms + s.counts.terms) 0 ≤ e)
              (sym (w.entries ∙ ap (λ (t : ℕ). entries_of so.cs + t + again s.equal t) (sym w.open_terms))) copies;
          heads = omega (arith, left.0.heads, so.same.heads.size);
          kinds = omega (arith, left.0.kinds, so.same.kinds.size);
          sides = omega (arith, left.0.sides, so.same.sides.size);
          bounds = omega (arith, left.0.bounds, so.same.bounds.size);
          counts = omega (arith, left.0.counts, so.same.counts.size);
          weights = omega (arith, left.1, so.same.weights.size);
          literals = omega (arith, left.2, so.same.literals.size);
          size = w.number_fits;
        }

    pub constraint :
        (t : State) → x ≡ Ok (next.Constraint t) → {new : ColumnsMut} → SameColumns now new → held_of new ≡ with_rows s head (held_of now) →
        Filling text old f new t (head + 1) (i + 1)
    constraint t m a e =
        let w = (keeps so.reached p q (Ok (next.Constraint t)) m).2 in
        let left = rows_left in
        let c : Constraint = constraint_of s so.es in
        record {
          told = so.told;
          cs = so.cs ++ (c ∷ []);
          es = [];
          reached = on_constraint so.reached p q t m;
          next_head = omega (arith, so.next_head, length-append so.cs (c ∷ []));
          same = same_then so.same a;
          filled =
              e
              ∙ ap (with_rows s head) so.filled
              ∙ ap (λ (j : ℕ). with_rows s j (over_all (so_far f so.cs so.es) (held_of old))) so.next_head
              ∙ constraint_put f s so.cs so.es w (held_of old) left.0.heads left.0.kinds left.0.sides left.0.bounds left.0.counts
              left.1 left.2;
        }

    pub no_fault : (c : Fault) → x ≡ Err c → {A : Type 0} → A
    no_fault c m =
        let e : refused c (length so.cs) ≡ taken so.told.variables so.told.all = sym (on_fault so.reached p q c m) ∙ goes_to_all in
        let b : ⊥ = cc in
        absurd b

  pub end : length text ≤ i → held_of now ≡ result_of (reading text) (held_of old)
  end p =
      let done = closed s so.cs so.told.all so.told.variables (ends s.phase s) (sym (at_end so.reached p) ∙ goes_to_all) in
      let w : Tracks outside (fixed s.phase) s so.cs (length so.es) =
      subst (λ (a : About). Tracks a (fixed s.phase) s so.cs (length so.es)) (may_end s.phase s done.0) so.reached.held in
      so.filled
      ∙ ap (λ (fs : List Entry). over_all (so_far f so.cs fs) (held_of old)) (empty so.es w.most)
      ∙ ap (λ (ds : List Constraint). over_all (so_far f ds []) (held_of old)) done.1
      ∙ ap (λ (c : Columns). over_all c (held_of old)) (all_so_far f so.told.all)
      ∙ ap (λ (j : ℕ). over_all (columns_of (rows_from j so.told.all)) (held_of old)) so.told.first_head
      ∙ ap (λ (x : Reading). result_of x (held_of old)) (sym so.told.is_read)
