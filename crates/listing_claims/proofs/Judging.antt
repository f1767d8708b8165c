-- The output is the same for every judgement of the text's sentences by full assignments: two of them give every call of the program the
-- same outcome, since its states are sound.
use mathlib.Core.Path.{◌≡◌, refl, sym, ap, ap₂, ◌∙◌}
use mathlib.Core.Bool.{Bool, true, false}
use mathlib.Core.List.{List, [], ◌++◌}
use Prim.Native.Nat.{ℕ, zero, suc, ◌+◌}
use lib.ListN.{length}
use lib.IntN.{pos}
use lib.Dec.{eqb}
use borrow.Author.Tests.{eqb-true}
use Rattle.types.specs.Limits.{document}
use Rattle.meaning.specs.Meaning.{Sentence, Each}
use Rattle.meaning.proofs.Gather.{each_map}
use Rattle.book.specs.Table as table
use Rattle.book.specs.Table.{Judged, Call, give, propagate, bounds, a_report, returned_by, State, Outcome, reply, following_call}
use Rattle.book.specs.Book.{WellFormed}
use Rattle.book.proofs.Judged.{all_judged, all_scoped}
use Rattle.book.proofs.Number.{judges_length}
use Rattle.book.proofs.Same.{reply_same}
use Rattle.book.specs.Sound.{JudgesAll, Scoped}
use Rattle.columns.specs.Columns.{sentences_in}
use Rattle.columns.specs.declared.Answer as load
use Rattle.columns.specs.Refusals.{load_answer}
use Rattle.opb_text.specs.Text.{Constraint, taken, reading, rows_from, columns_of}
use Rattle.answer_lines.specs.Lines.{stop_line}
use Rattle.listing_lines.specs.Lines.{bound_line, row_lines, bound_lines, state_lines}
use Rattle.listing_heads.specs.Heads.{heads_given}
use Rattle.listing.specs.Output.{listing, area_words, judged_sentences, answered, printed, output}
use Rattle.listing_claims.proofs.Texts.{Taken, load_takes}
use Rattle.listing_claims.proofs.States.{standing, Standing, Levelled, step}

module _ (n : ℕ) (ss : List Sentence) (js js' : List Judged) (w : Each (Scoped n) ss) (m : JudgesAll ss js) (m' : JudgesAll ss js') where
  -- the same rows, judged in the two ways
  record Alike (q q' : State) : Type 0 where
    stands : Standing n ss js q
    other : q' ≡ standing n js' stands.rows

  answer_same : {q q' : State} → Alike q q' → (x : Call) → reply q x ≡ reply q' x
  answer_same a x =
      ap (λ (p : State). reply p x) a.stands.state ∙ reply_same n ss js js' w m m' false document.levels 0 a.stands.rows a.stands.sound x ∙ ap (λ (p : State). reply p x) (sym a.other)

  next : {q q' : State} → Alike q q' → (x : Call) → Levelled x → Alike (following_call q x) (following_call q' x)
  next {q} {q'} a x l =
      let s = step n ss js w m x l a.stands in
      record {
        stands = s;
        other =
            ap₂ (λ (p : State) (o : Outcome). record {
              broken = p.broken;
              atoms = p.atoms;
              levels = p.levels;
              sentences = p.sentences;
              level =
                  o.level;
              rows = o.rows;
            }) a.other (sym (answer_same a x))
            ∙ ap (λ (p : State). record { broken = false; atoms = n; levels = document.levels; sentences = js'; level = p.level; rows = p.rows }) s.state;
      }

  heads_alike : {q q' : State} → Alike q q' → (v k : ℕ) → Alike (heads_given q v k) (heads_given q' v k)
  unfolding heads_given
  heads_alike a v zero = a
  heads_alike a v (suc k) = next (heads_alike a v k) (table.a_step (give (pos (v + suc k)))) (λ p. refl)

  bounds_same : {q q' : State} → Alike q q' → (k : ℕ) → bound_lines q k ≡ bound_lines q' k
  unfolding bound_lines
  bounds_same a zero = refl
  bounds_same a (suc k) = ap₂ (λ (xs : List ℕ) (o : Outcome). xs ++ bound_line (suc k) (returned_by o.answer)) (bounds_same a k) (answer_same a (a_report (bounds (suc k)) 0))

  state_same : {q q' : State} → Alike q q' → state_lines q ≡ state_lines q'
  state_same {q} {q'} a =
      ap₂ (λ (x y : List ℕ). x ++ y)
      (ap (λ (p : State). row_lines p.rows) a.stands.state ∙ ap (λ (p : State). row_lines p.rows) (sym a.other))
      (bounds_same a (length q.sentences) ∙ ap (bound_lines q')
      (ap (λ (p : State). length p.sentences) a.stands.state ∙ sym (judges_length ss js m) ∙ judges_length ss js' m' ∙ ap (λ (p : State). length p.sentences) (sym a.other)))

  listing_same : {q q' : State} → Alike q q' → listing q ≡ listing q'
  listing_same a =
      ap₂ (λ (x y : List ℕ). x ++ y) (ap (λ (o : Outcome). stop_line (returned_by o.answer)) (answer_same a (table.a_step propagate))) (state_same (next a (table.a_step propagate) (λ p. refl)))

answered_same : (v : ℕ) (cs : List Constraint) (js : List Judged) → JudgesAll (sentences_in (rows_from (suc v) cs)) js → (a : load.Answer)
    → a ≡ load_answer document area_words (v + length cs) (columns_of (rows_from (suc v) cs)) → (b : Bool) → b ≡ eqb a.code 0
    → answered v (length cs) (judged_sentences (rows_from (suc v) cs)) a ≡ answered v (length cs) js a
answered_same v cs js m a q false f = rw (sym f)
answered_same v cs js m a q true f =
    let n = v + length cs in
    let xs = rows_from (suc v) cs in
    let ss = sentences_in xs in
    let t = load_takes n xs (sym (ap (λ (x : load.Answer). x.code) q) ∙ eqb-true a.code 0 (sym f)) in
    let formed = each_map (Taken n) (WellFormed n) ss (λ s x. x.formed) t in
    let scoped = all_scoped n ss formed in
    let own = all_judged n ss formed in
    rw (sym f)
    (listing_same n ss (judged_sentences xs) js scoped own m
    (heads_alike n ss (judged_sentences xs) js scoped own m (record { stands = record { rows = []; state = refl; sound = tt }; other = refl }) v (length cs)))

-- for every text that is taken, and every judgement of its sentences by full assignments
pub output_judged : (input : List ℕ) (v : ℕ) (cs : List Constraint) → reading input ≡ taken v cs → (js : List Judged) → JudgesAll (sentences_in (rows_from (suc v) cs)) js
    → output input ≡ answered v (length cs) js (load_answer document area_words (v + length cs) (columns_of (rows_from (suc v) cs)))
unfolding output
output_judged input v cs e js m = ap printed e ∙ answered_same v cs js m _ refl _ refl
