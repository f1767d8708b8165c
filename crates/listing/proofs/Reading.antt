-- The reader's answer as the output has it: a refused text prints its refusal, and for a text that is taken the fronts of the columns are
-- its sentences. Columns of the limits' size always have room.
use mathlib.Core.Path.{◌≡◌, refl, sym, ap, ap₂, subst, ◌∙◌}
use mathlib.Core.List.{List, [], map}
use Prim.Native.Nat.{ℕ, suc, ◌+◌, ◌≤◌}
use lib.ListN.{length, take, drop, length-map}
use lib.Seq.{take_at}
use borrow.Author.Tests.{le-ltb}
use Rattle.types.specs.Limits.{document}
use Rattle.meaning.specs.Meaning.{Entry}
use Rattle.columns.specs.Columns.{Columns, seven_columns, Written, all_written}
use Rattle.columns.specs.Refusals.{load_answer}
use Rattle.std.specs.Prelude.{Result, Ok, Err, OnOk}
use Rattle.opb_text.specs.declared.Read.{Read}
use Rattle.opb_text.specs.declared.Refusal.{Refusal}
use Rattle.opb_text.specs.declared.Refusal.TheVariants as refusal
use Rattle.opb_text.specs.Text.{Constraint, Reading, taken, refused, reading, rows_from, all_entries, columns_of, refusal_number, refusal_value, stored, read_of, over, over_all, result_of, sentence_room, entry_room, Reads}
use Rattle.opb_text.proofs.Limits.{limits}
use Rattle.opb_text.proofs.Columns.{same_rows}
use Rattle.opb_rows.proofs.Stores.{same_columns}
use Rattle.pages.specs.declared.Page.{Page}
use Rattle.pages.specs.Page.{Holds, Puts}
use Rattle.pages.proofs.Laws.{starts, puts_as}
use Rattle.answer_lines.specs.Lines.{refused_line}
use Rattle.listing.specs.Inner.Steps.{Answers}
use Rattle.listing.specs.Output.{area_words, judged_sentences, answered, printed, output, Prints}

abbrev pub fronts : ℕ → ℕ → Columns → Columns
fronts n e c =
    seven_columns (take n c.heads) (take n c.kinds) (take n c.sides) (take n c.bounds) (take n c.counts) (take e c.weights) (take e c.literals)

module _ {A B : Type 0} (f : B → A) (xs : List B) (old : List A) where
  front : take (length xs) (over (map f xs) old) ≡ map f xs
  front = take_at (map f xs) (drop (length (map f xs)) old) (length xs) (length-map xs f)

fronts_are : (xs : List Written) (old : Columns) → fronts (length xs) (length (all_entries xs)) (over_all (columns_of xs) old) ≡ columns_of xs
fronts_are xs old =
    same_columns (front (λ (x : Written). x.head) xs old.heads) (front (λ (x : Written). x.kind) xs old.kinds)
    (front (λ (x : Written). x.side) xs old.sides) (front (λ (x : Written). x.bound) xs old.bounds)
    (front (λ (x : Written). length x.entries) xs old.counts) (front (λ (e : Entry). e.weight) (all_entries xs) old.weights)
    (front (λ (e : Entry). e.literal) (all_entries xs) old.literals)

abbrev good : ℕ → ℕ → List Written → Read
good v c xs = record { variables = v; constraints = c; sentences = length xs; entries = length (all_entries xs) }

has_room : (v c : ℕ) (xs : List Written) → length xs ≤ 256 → length (all_entries xs) ≤ 4096 → stored 256 4096 v c xs ≡ Ok (good v c xs)
has_room v c xs h g = rw (le-ltb 256 (length xs) h, le-ltb 4096 (length (all_entries xs)) g)

module _ {text : List ℕ} {old new : Columns} {r : Result Read Refusal} (h : Reads text old new r) (se : sentence_room old ≡ 256) (en : entry_room old ≡ 4096) where
  answer_is : r ≡ read_of 256 4096 (reading text)
  answer_is = h.answer ∙ ap₂ (λ (s e : ℕ). read_of s e (reading text)) se en

  stored_answer : (v : ℕ) (cs : List Constraint) → reading text ≡ taken v cs → r ≡ Ok (good v (length cs) (rows_from (suc v) cs))
  stored_answer v cs e =
      let l = limits text v cs e in
      answer_is ∙ ap (read_of 256 4096) e ∙ has_room v (length cs) (rows_from (suc v) cs) l.sentences l.entries

  pub refusal_printed : (x : Refusal) → r ≡ Err x → output text ≡ refused_line (refusal_number x) (refusal_value x)
  unfolding output
  refusal_printed x d = by (reading text) refl
    where
      by : (y : Reading) → reading text ≡ y → printed (reading text) ≡ refused_line (refusal_number x) (refusal_value x)
      by (refused f k) e =
          let q : Err x ≡ read_of 256 4096 (refused f k) = sym d ∙ answer_is ∙ ap (read_of 256 4096) e in
          let a : x ≡ refusal.Text f k = cc in
          ap printed e ∙ sym (ap (λ (y : Refusal). refused_line (refusal_number y) (refusal_value y)) a)
      by (taken v cs) e =
          let q : Err x ≡ Ok (good v (length cs) (rows_from (suc v) cs)) = sym d ∙ stored_answer v cs e in
          let b : ⊥ = cc in
          absurd b

  filled_by : (x : Read) → r ≡ Ok x → new ≡ result_of (reading text) old
  filled_by x z = subst (λ (y : Result Read Refusal). OnOk y (new ≡ result_of (reading text) old)) z h.filled

  answered_printed :
      (x : Read) → r ≡ Ok x →
      answered x.variables x.constraints (judged_sentences (all_written (fronts x.sentences x.entries new)))
      (load_answer document area_words (x.variables + x.constraints) (fronts x.sentences x.entries new))
      ≡ output text
  unfolding output
  answered_printed x z = by (reading text) refl
    where
      there : ℕ → ℕ → Columns → List ℕ
      there v c y = answered v c (judged_sentences (all_written y)) (load_answer document area_words (v + c) y)

      by : (y : Reading) → reading text ≡ y → there x.variables x.constraints (fronts x.sentences x.entries new) ≡ printed (reading text)
      by (refused f k) e =
          let q : Ok x ≡ Err (refusal.Text f k) = sym z ∙ answer_is ∙ ap (read_of 256 4096) e in
          let b : ⊥ = cc in
          absurd b
      by (taken v cs) e =
          let xs : List Written = rows_from (suc v) cs in
          let q : Ok x ≡ Ok (good v (length cs) xs) = sym z ∙ stored_answer v cs e in
          let a : x ≡ good v (length cs) xs = cc in
          let n : new ≡ over_all (columns_of xs) old = filled_by x z ∙ ap (λ (y : Reading). result_of y old) e in
          ap₂ (λ (y : Read) (c : Columns). there y.variables y.constraints (fronts y.sentences y.entries c)) a n
          ∙ ap (there v (length cs)) (fronts_are xs old)
          ∙ ap (λ (ys : List Written). answered v (length cs) (judged_sentences ys) (load_answer document area_words (v + length cs) (columns_of xs))) (same_rows xs)
          ∙ ap printed (sym e)

  -- the columns' fronts are what load is handed
  pub read_answered : {p q : Page} {xs : Columns} (x : Read) → r ≡ Ok x → Answers p q x.variables x.constraints xs → xs ≡ fronts x.sentences x.entries new
      → Puts p q (output text)
  read_answered {p} {q} x z f e = puts_as (answered_printed x z) (subst (Answers p q x.variables x.constraints) e f)

-- from the start of the page
pub prints : {input old more : List ℕ} {p q : Page} → p.end ≡ 0 → p.bytes.now ≡ old → Puts p q more → more ≡ output input → Prints input old q.bytes.now q.end
prints {p = p} {q = q} z b w e = record {
  size = w.writes.size ∙ ap length b;
  holds = subst (Holds q.bytes.now q.end) e (w.writes.goes [] (rw z (starts p.bytes.now)));
}
