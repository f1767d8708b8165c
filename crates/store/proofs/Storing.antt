-- Sentence after sentence: those stored before s stay, since each sentence's words are its own, and what a turn of the loop lends, part by
-- part, is sentence s of the columns.
use mathlib.Core.Path.{◌≡◌, refl, sym, ap, ◌∙◌, subst}
use mathlib.Core.List.{List}
use mathlib.Core.Logic.{⊎_elim}
use Prim.Native.Nat.{ℕ, ◌+◌, ◌*◌, ◌<◌, ◌≤◌}
use native.Mathlib.Omega.{arith}
use native.Mathlib.Nat.{eq-or-lt_of_le}
use lib.IntN.{ℤ}
use lib.ListN.{length, get_or, take, drop, length-drop}
use lib.Seq.{slice, length-slice, length-take-le}
use borrow.Author.Count.{below_none}
use Rattle.types.specs.declared.Limits.{Limits}
use Rattle.types.specs.Limits.{Fitting}
use Rattle.decide.specs.Below.{sum_first}
use Rattle.decide.proofs.Below.{sum_none, sum_step, sum_upto}
use Rattle.meaning.specs.Merge.{Rule}
use Rattle.area.specs.Layout.{word, record_at, written_at}
use Rattle.columns.specs.Columns.{Columns, Written, written_as, part}
use Rattle.columns.specs.Columns as column
use Rattle.columns.specs.Refusals.{columns_need}
use Rattle.columns.specs.Indexed.{nth, Passes}
use Rattle.columns.proofs.Paired.{paired_length}
use Rattle.columns.proofs.Shapes.{Inside, inside}
use Rattle.columns.proofs.Walk.{part_is}
use Rattle.columns.specs.Decides.{Accepted}
use Rattle.stored_sentence.specs.Inner.Sentences.{Storable, Held, Stored}
use Rattle.stored_sentence.proofs.Frames.{held_kept}
use Rattle.store.specs.Inner.Stored.{Cleared, AllStored}

-- ---- sentence s of the columns, as it is lent

module _ (c : Columns) (s : ℕ) (z : ℤ) (f m : ℕ) where
  abbrev lent : Written
  lent = written_as (get_or c.heads s 0) (get_or c.kinds s 0) (get_or c.sides s 0) z (take m (drop f c.weights)) (take m (drop f c.literals))

  pub lent_is : z ≡ nth c.bounds s → f ≡ sum_first c.counts s → m ≡ get_or c.counts s 0 → lent ≡ column.written_at c s
  lent_is p q r =
      let t = sum_first c.counts s + get_or c.counts s 0 in
      let e : (l : List ℤ) → take m (drop f l) ≡ part c s l = λ l. part_is f m t l (omega arith) ∙ ap {A = ℕ} (λ k. slice k t l) q in
      ap {A = ℤ} (λ y. make y (take m (drop f c.weights)) (take m (drop f c.literals))) p
      ∙ ap {A = List ℤ} (λ ws. make (nth c.bounds s) ws (take m (drop f c.literals))) (e c.weights)
      ∙ ap {A = List ℤ} (λ ls. make (nth c.bounds s) (part c s c.weights) ls) (e c.literals)
    where
      make : ℤ → List ℤ → List ℤ → Written
      make y ws ls = written_as (get_or c.heads s 0) (get_or c.kinds s 0) (get_or c.sides s 0) y ws ls

lent_length : (f m : ℕ) (l : List ℤ) → f + m ≤ length l → length (take m (drop f l)) ≡ m
lent_length f m l h = length-take-le m (drop f l) (omega (arith, length-drop f l))

-- the first s sentences are stored
pub record Running (n : ℕ) (c : Columns) (w0 w : List ℕ) (s from : ℕ) : Type 0 where
  pub size : length w ≡ length w0
  pub from_is : from ≡ sum_first c.counts s
  pub front : (i : ℕ) → i < 4 * n → word w i ≡ word w0 i
  pub each : (k : ℕ) → k < s → Held w n (length c.heads) k (sum_first c.counts k) (column.written_at c k)
  pub rest : (i : ℕ) → columns_need n c ≤ i → word w i ≡ word w0 i

pub running_none : (n : ℕ) (c : Columns) (w : List ℕ) → Running n c w w 0 0
running_none n c w = record {
  size = refl;
  from_is = sym (sum_none c.counts);
  front = λ i l. refl;
  each = below_none (λ k. Held w n (length c.heads) k (sum_first c.counts k) (column.written_at c k));
  rest = λ i l. refl;
}

-- ---- an accepted load

module _ (lim : Limits) (words n : ℕ) (c : Columns) (fit : Fitting lim) (ok : Accepted lim words n c) where
  module _ (s from : ℕ) (l : s < length c.heads) (e : from ≡ sum_first c.counts s) where
    pub here : Inside c s from
    here = inside lim n c s from ok.shape l e

    pub storable : (w : List ℕ) (z : ℤ) (m : ℕ) → length w ≡ words → z ≡ nth c.bounds s → m ≡ get_or c.counts s 0
        → Storable w n (length c.heads) s from (get_or c.heads s 0) (get_or c.kinds s 0) (get_or c.sides s 0) z (take m (drop from c.weights)) (take m (drop from c.literals))
    storable w z m size p q =
        let k = ok.shape.within in
        let i = here in
        let a : length (take m (drop from c.weights)) ≡ m = lent_length from m c.weights (omega (arith, i.weights)) in
        let b : length (take m (drop from c.literals)) ≡ m = lent_length from m c.literals (omega (arith, i.literals)) in
        record {
          lim = lim;
          fitting = fit;
          atoms = k.high;
          sentences = k.few_sentences;
          number = l;
          entries = omega (arith, k.few_entries, i.weights);
          room = omega (arith, ok.enough, i.weights);
          same = a ∙ sym b;
          passes = subst (Passes lim n) (sym (lent_is c s z from m p e q)) (ok.passes s l);
        }

  -- how many entries sentence s has
  entries_are : (s : ℕ) → s < length c.heads → length (column.written_at c s).entries ≡ get_or c.counts s 0
  entries_are s l =
      let i = here s (sum_first c.counts s) l refl in
      let f = sum_first c.counts s in
      let t = f + get_or c.counts s 0 in
      let a : length (slice f t c.weights) ≡ get_or c.counts s 0 = length-slice f t c.weights i.weights ∙ omega arith in
      let b : length (slice f t c.literals) ≡ get_or c.counts s 0 = length-slice f t c.literals i.literals ∙ omega arith in
      paired_length (slice f t c.weights) (slice f t c.literals) (a ∙ sym b) ∙ b

  pub written_is : (w : List ℕ) (s before : ℕ) → s < length c.heads → Held w n (length c.heads) s before (column.written_at c s)
      → written_at w (record_at n s) ≡ get_or c.counts s 0
  written_is w s before l h = ap {A = Rule} (λ r. r.written) h.rule ∙ entries_are s l

  -- ---- the loop

  module _ (w0 w w' : List ℕ) (s from : ℕ) (low : s < length c.heads) (start : length w0 ≡ words) (run : Running n c w0 w s from)
      (st : Stored w w' n (length c.heads) s (sum_first c.counts s) (column.written_at c s)) where
    abbrev S : ℕ
    S = length c.heads

    -- the words of an earlier sentence are not those of sentence s
    kept : (k : ℕ) → k < s → Held w' n S k (sum_first c.counts k) (column.written_at c k)
    kept k l =
        let h = run.each k l in
        let m = written_is w k (sum_first c.counts k) (omega arith) h in
        let p = h.place in
        let next = sum_step c.counts k in
        let up = sum_upto c.counts (k + 1) s (omega arith) in
        let i = here s (sum_first c.counts s) low refl in
        held_kept w w' n S k (sum_first c.counts k) (column.written_at c k) st.size (omega (arith, ok.enough, run.size, i.weights))
        (λ j a b. st.below j (omega arith)) (λ j a b. st.between j (omega arith) (omega arith)) h

    pub running_more : Running n c w0 w' (s + 1) (from + get_or c.counts s 0)
    running_more =
        let i = here s (sum_first c.counts s) low refl in
        let e = entries_are s low in
        record {
          size = st.size ∙ run.size;
          from_is = ap {A = ℕ} (λ k. k + get_or c.counts s 0) run.from_is ∙ sym i.next;
          front = λ j l. st.below j (omega arith) ∙ run.front j l;
          each = λ k l. ⊎_elim {A = k ≡ s} {B = k < s}
              (λ q. subst (λ (j : ℕ). Held w' n S j (sum_first c.counts j) (column.written_at c j)) (sym q) st.held) (λ q. kept k q)
              (eq-or-lt_of_le (omega arith));
          rest = λ j l. st.above j (omega (arith, i.weights)) ∙ run.rest j l;
        }

  pub all_stored : (w w0 w' : List ℕ) (s from : ℕ) → s ≡ length c.heads → Cleared w w0 (4 * n) (n + 65536 * length c.heads) → Running n c w0 w' s from → AllStored w w' n c
  all_stored w w0 w' s from e k run = record {
    size = run.size ∙ k.size;
    first = run.front 0 (omega arith) ∙ k.first_is;
    blank = λ i a l. run.front i l ∙ k.blank i a l;
    each = λ j l. run.each j (omega arith);
    rest = λ i l. run.rest i l ∙ k.above i (omega arith);
  }
