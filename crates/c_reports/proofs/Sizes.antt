-- The values of reports are small, so that they fit a word beside a code: a list has no more numbers than three for each row or a
-- sentence's scope and one more.
use mathlib.Core.Path.{◌≡◌, refl, ap}
use mathlib.Core.Bool.{Bool, true, false, cond}
use mathlib.Core.List.{List, [], ◌∷◌, ◌++◌, map}
use mathlib.Core.Logic.{⊎_elim}
use Prim.Native.Nat.{ℕ, zero, suc, ◌<◌, ◌≤◌}
use native.Mathlib.Omega.{arith}
use lib.ListN.{length, length-append, length-map}
use lib.IntN.{ℤ, neg_ℤ}
use Rattle.types.specs.declared.Limits.{Limits}
use Rattle.types.specs.Limits.{Fitting}
use Rattle.numbers.proofs.Words.{cases}
use Rattle.meaning.specs.Meaning.{Each}
use Rattle.meaning.specs.Merge.{Rule, scope}
use Rattle.book.specs.Rows.{Row, trail, causes, row_of, numbered, comes_from, in_order}
use Rattle.book.specs.Table.{Report, explain, explain_conflict, origin, list_trail, Call, a_report, refused, list_of, Returned, returned_by, scopes, State, Refusal, refuse_if, refusals, result_of, Outcome, unchanged, effect, decided, reply}
use Rattle.book.specs.Book.{Counters, judged_all}
use Rattle.area.specs.Layout.{atoms_of, sentences_of, length_of, rows_of, record_at, rule_at, theory_of}
use Rattle.area.specs.Whole.{Whole}
use Rattle.area.proofs.Theory.{each_rule}
use Rattle.trail_check.proofs.Rows.{rows_length}
use Rattle.whole.proofs.Gives.{ready}
use Rattle.calls.specs.Calls.{area_state, Answered}
use Rattle.reports.proofs.Rows.{rows_size}
use Rattle.causes.proofs.Places.{scope_length, causes_few}

-- ---- the table's outcome: one of its refusals, or the effect

decided_by : (P : Outcome → Type 0) (q : State) (rs : List Refusal) (o : Outcome) → Each (λ r. P (unchanged q (refused r.code r.value))) rs
    → P o → P (decided q rs o)
decided_by P q [] o h p = p
decided_by P q (r ∷ rs) o h p = go r.applies (decided_by P q rs o h.1 p)
  where
    go : (b : Bool) → P (decided q rs o) → P (cond b (unchanged q (refused r.code r.value)) (decided q rs o))
    go true ih = h.0
    go false ih = ih

pub reply_by : (P : Outcome → Type 0) (q : State) (x : Call) → P (unchanged q (refused 9 0))
    → Each (λ r. P (unchanged q (refused r.code r.value))) (refusals q x)
    → P (effect q x) → P (reply q x)
unfolding reply
reply_by P q x n h p = decided_by P q (refuse_if 9 q.broken ∷ refusals q x) (effect q x) (n, h) p

-- ---- a bound that holds of a whole area and of any other holds

pub settled : (lim : Limits) (w : List ℕ) (c : Counters) (m k : ℕ) → (Whole lim w c → m ≤ k) → (¬ (Whole lim w c) → m ≤ k) → m ≤ k
settled lim w c m k f g = ⊎_elim (λ (h : m ≤ k). h) (λ (h : k < m). g (λ x. let y : m ≤ k = f x in let b : ⊥ = omega arith in b)) (cases k m)

-- ---- the lists

order_length : (p : ℤ → Bool) (t : List ℤ) → length (in_order p t) ≤ length t
unfolding in_order
order_length p [] = omega arith
order_length p (l ∷ t) = go (p l) (order_length p t)
  where
    go : (b : Bool) → length (in_order p t) ≤ length t → length (cond b (in_order p t ++ (l ∷ [])) (in_order p t)) ≤ suc (length t)
    go true ih = omega (arith, ih, length-append (in_order p t) (l ∷ []))
    go false ih = omega (arith, ih)

trail_length : (rs : List Row) → length (trail rs) ≡ length rs
trail_length [] = refl
trail_length (r ∷ rs) = ap {A = ℕ} suc (trail_length rs)

numbered_length : (m k : ℕ) (rs : List Rule) → Each (λ r. length (scope r) ≤ m) rs → length (numbered [] k (scopes (judged_all rs))) ≤ m
unfolding numbered
numbered_length m k [] h = omega arith
numbered_length m zero (r ∷ rs) h = omega arith
numbered_length m (suc zero) (r ∷ rs) h = h.0
numbered_length m (suc (suc k)) (r ∷ rs) h = numbered_length m (suc k) rs h.1

module _ (lim : Limits) (fits : Fitting lim) (w : List ℕ) (c : Counters) (g : Whole lim w c) where
  scope_small : (s : ℕ) → s < sentences_of w → length (scope (rule_at w (atoms_of w) (sentences_of w) (record_at (atoms_of w) s))) ≤ 65536
  scope_small s l =
      let b = record_at (atoms_of w) s in
      omega (arith, scope_length w (atoms_of w) (sentences_of w) b (ready lim w c g fits s l), (g.theory.each s l).merged)

  causes_small : (t : List ℤ) (k : ℕ) → length (map neg_ℤ (causes t (numbered [] k (scopes (judged_all (theory_of w)))))) ≤ 65536
  causes_small t k =
      let n = atoms_of w in
      let S = sentences_of w in
      let sc = numbered [] k (scopes (judged_all (theory_of w))) in
      omega (
        arith,
        length-map (causes t sc) neg_ℤ,
        causes_few t sc,
        numbered_length 65536 k (theory_of w) (each_rule (λ r. length (scope r) ≤ 65536) w n S 0 S (λ i l. scope_small i (omega (arith, l)))),
      )

-- a report's list

abbrev Sized : State → Report → Outcome → Type 0
Sized q x o = (returned_by o.answer).value ≤ length (list_of (result_of q x))

module _ (lim : Limits) (fits : Fitting lim) (w : List ℕ) (c : Counters) (p : Returned) where
  abbrev q : State
  q = area_state lim w

  abbrev Small : Type 0
  Small = p.value < 4294967296

  small : (x : Report) (room : ℕ) → Answered lim w c (a_report x room) p → Sized q x (reply q (a_report x room)) → (Whole lim w c → length (list_of (result_of q x)) ≤ 1000000) → Small
  small x room a s few =
      let value : p.value ≤ 1000000 =
      settled lim w c p.value 1000000 (λ g. omega (arith, ap (λ (y : Returned). y.value) (a.told g), s, few g))
      (λ b. omega (arith, ap (λ (y : Returned). y.value) (a.broken b))) in
      omega arith

  pub trail_small : (room : ℕ) → Answered lim w c (a_report list_trail room) p → Small
  trail_small room a =
      small list_trail room a
      (reply_by (Sized q list_trail) q (a_report list_trail room) (omega arith) (omega arith, tt)
      (omega arith))
      (λ _. omega (arith, rows_size w (atoms_of w) (length_of w)))

  pub origin_small : (l : ℤ) (room : ℕ) → Answered lim w c (a_report (origin l) room) p → Small
  origin_small l room a =
      let x = origin l in
      small x room a
      (reply_by (Sized q x) q (a_report x room) (omega arith)
      (omega arith, (omega arith, (omega arith, tt))) (omega arith))
      (λ _.
      let some = order_length (comes_from (scopes q.sentences) q.rows l) (trail (rows_of w)) in
      omega (arith, some, trail_length (rows_of w), rows_length w (atoms_of w) (length_of w)))

  pub conflict_list_small : (k room : ℕ) → Answered lim w c (a_report (explain_conflict k) room) p → Small
  conflict_list_small k room a =
      let x = explain_conflict k in
      small x room a
      (reply_by (Sized q x) q (a_report x room) (omega arith)
      (omega arith, (omega arith, (omega arith, tt))) (omega arith))
      (λ g. omega (arith, causes_small lim fits w c g (trail (rows_of w)) k))

  pub explanation_small : (l : ℤ) (room : ℕ) → Answered lim w c (a_report (explain l) room) p → Small
  explanation_small l room a =
      let x = explain l in
      small x room a
      (reply_by (Sized q x) q (a_report x room) (omega arith)
      (omega arith, (omega arith, (omega arith, (omega arith, tt))))
      (omega arith))
      (λ g. omega (arith, causes_small lim fits w c g (trail (row_of l (rows_of w)).before) (row_of l (rows_of w)).mine.reason))
