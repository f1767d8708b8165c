-- No output is longer than `page_bytes`. The rows of a book are sound: literals of atoms 1 to N, each once, levels at most the current
-- one, which is 0, and reasons that are sentences. A bound is a value of a sum of small weights.
use mathlib.Core.Path.{◌≡◌, refl, sym, ap, subst, ◌∙◌}
use mathlib.Core.Bool.{Bool, true, false}
use mathlib.Core.Logic.{◌⊎◌, inl, inr}
use mathlib.Core.List.{List, [], ◌∷◌}
use Prim.Native.Nat.{ℕ, zero, suc, ◌+◌, ◌*◌, ◌-◌, ◌≤◌, ◌<◌}
use native.Mathlib.Omega.{arith}
use lib.ListN.{length, take, length-append}
use lib.IntN.{ℤ, pos, negsuc, nat_abs}
use lib.Dec.{eqb, leb, leb→le}
use borrow.Author.Tests.{ne_eqb, eqb-true}
use Rattle.types.specs.Limits.{document}
use Rattle.meaning.specs.Meaning.{atom, Sentence, Each}
use Rattle.meaning.proofs.Gather.{each_map}
use Rattle.book.specs.Rows.{Row, trail}
use Rattle.book.specs.Table as table
use Rattle.book.specs.Table.{Judged, propagate, bounds, a_report, returned_by, no_sentence_judged, State, Outcome, ended, propagated, refusals, effect, reply, following_call}
use Rattle.book.specs.Book.{WellFormed}
use Rattle.book.specs.Means.{IsNumber}
use Rattle.book.proofs.Judged.{all_judged, all_scoped}
use Rattle.book.proofs.Number.{judges_length, judges_numbered, numbered_exists, numbered_each}
use Rattle.book.specs.Sound.{JudgesAll, Scoped, Sound}
use Rattle.book.proofs.Sound.{consistent}
use Rattle.book.specs.Sound as sound
use Rattle.book.proofs.Few.{few_rows}
use Rattle.book.proofs.Run.{clash_means, growth}
use Rattle.book.proofs.Tests.{Passed, both_told, reply_is}
use Rattle.columns.specs.Columns.{sentences_in}
use Rattle.columns.specs.Refusals.{load_answer}
use Rattle.columns.specs.declared.Answer as load
use Rattle.opb_grammar.specs.Grammar.{fault_number}
use Rattle.opb_text.specs.Text.{Constraint, Reading, taken, refused, reading, rows_from, columns_of}
use Rattle.opb_text.proofs.Limits.{limits}
use Rattle.listing_lines.specs.Lines.{row_line, bound_line, row_lines, bound_lines, state_lines}
use Rattle.listing.specs.Output.{listing, area_words, judged_sentences, loaded, answered, printed, output, page_bytes, Prints}
use Rattle.pages.proofs.Laws.{held_whole}
use Rattle.answer_lines.specs.Lines.{stop_line}
use Rattle.listing_claims.proofs.Lengths.{refused_length, still_length, conflict_length, row_length, bound_length}
use Rattle.listing_claims.proofs.Sums.{SmallSum, bound_small}
use Rattle.listing_claims.proofs.Texts.{Taken, load_takes, all_sums, small_sums, sentences_count}
use Rattle.listing_claims.proofs.States.{standing, Standing, step, heads_stand}

-- ---- rows

number_few : {A : Type 0} (k : ℕ) (xs : List A) (x : A) → IsNumber k xs x → k ≤ length xs
number_few k [] x h = absurd h
number_few zero (y ∷ ys) x h = omega arith
number_few (suc zero) (y ∷ ys) x h = omega arith
number_few (suc (suc k)) (y ∷ ys) x h = omega (arith, number_few (suc k) ys x h)

atom_size : (l : ℤ) → nat_abs l ≡ atom l
atom_size (pos n) = refl
atom_size (negsuc n) = refl

module _ (n : ℕ) (ss : List Sentence) (hn : n ≤ 1024) (hs : length ss ≤ 256) where
  rows_length : (rs : List Row) → Sound n ss 0 rs → length (row_lines rs) ≤ 14 * length rs
  unfolding row_lines
  rows_length [] h = omega arith
  rows_length (r ∷ rs) h =
      let x = h.0 in
      let e : r.level ≡ 0 = omega (arith, x.low) in
      let rest : Sound n ss 0 rs = subst (λ (v : ℕ). Sound n ss v rs) e h.1 in
      let lit : nat_abs r.literal ≤ 1024 = omega (arith, atom_size r.literal, x.atom_within.1) in
      omega (arith, length-append (row_lines rs) (row_line r), rows_length rs rest, row_length r lit e (reason x.reason_is))
    where
      reason : {q : Row} {before : List Row} → (q.reason ≡ 0) ⊎ sound.RowReasoned n ss q before → q.reason ≤ 256
      reason (inl e) = omega arith
      reason {q} (inr d) = omega (arith, number_few q.reason ss d.sentence d.number)

-- ---- bounds

module _ (n : ℕ) (ss : List Sentence) (js : List Judged) (hs : length ss ≤ 256) (m : JudgesAll ss js) (small : Each SmallSum ss) where
  abbrev Small : Outcome → Type 0
  Small o = (nat_abs (returned_by o.answer).least < 10000000000000) × (nat_abs (returned_by o.answer).greatest < 10000000000000)

  bounds_small : (k : ℕ) (rs : List Row) → Sound n ss 0 rs → Small (reply (standing n js rs) (a_report (bounds k) 0))
  bounds_small k rs h = reply_is Small (standing n js rs) (a_report (bounds k) 0) (λ c v. (omega arith, omega arith)) there
    where
      there : Passed (refusals (standing n js rs) (a_report (bounds k) 0)) → Small (effect (standing n js rs) (a_report (bounds k) 0))
      there p =
          let b = both_told (leb 1 k) (leb k (length js)) p.0 in
          let hi : k ≤ length js = leb→le k (length js) b.1 in
          let x = numbered_exists k ss (leb→le 1 k b.0) (omega (arith, judges_length ss js m)) in
          let j = judges_numbered no_sentence_judged k ss js x.0 m x.1 in
          let s = numbered_each SmallSum k ss x.0 x.1 small in
          let c = consistent n ss 0 rs h in
          (bound_small x.0 s (j.least_is (trail rs) c), bound_small x.0 s (j.greatest_is (trail rs) c))

  bounds_length : (k : ℕ) (rs : List Row) → k ≤ 256 → Sound n ss 0 rs → length (bound_lines (standing n js rs) k) ≤ 36 * k
  unfolding bound_lines
  bounds_length zero rs l h = omega arith
  bounds_length (suc k) rs l h =
      let p = returned_by (reply (standing n js rs) (a_report (bounds (suc k)) 0)).answer in
      let b = bounds_small (suc k) rs h in
      omega (
        arith,
        length-append (bound_lines (standing n js rs) k) (bound_line (suc k) p),
        bounds_length k rs (omega arith) h,
        bound_length (suc k) p l b.0 b.1,
      )

-- ---- the listing
module _ (n : ℕ) (ss : List Sentence) (js : List Judged) (w : Each (Scoped n) ss) (m : JudgesAll ss js) (hn : n ≤ 1024) (hs : length ss ≤ 256) (small : Each SmallSum ss) where
  answer_length : (k d : ℕ) → k ≤ 256 → d ≤ 1024 → length (stop_line (returned_by (ended k d))) ≤ 18
  answer_length zero d h g = still_length d g
  answer_length (suc k) d h g = rw (ne_eqb (suc k) 0 (λ e. omega arith)) (conflict_length d (suc k) g h)

  stop_few : (rs : List Row) (h : Sound n ss 0 rs) (k : ℕ) → (propagated (standing n js rs)).sentence ≡ k → k ≤ 256
  stop_few rs h zero e = omega arith
  stop_few rs h (suc k) e =
      let x = clash_means n ss js w m 0 rs h k e in
      omega (arith, number_few (suc k) ss x.sentence x.number)

  first_length : (rs : List Row) → Sound n ss 0 rs → length (stop_line (returned_by (reply (standing n js rs) (table.a_step propagate)).answer)) ≤ 18
  unfolding reply
  first_length rs h =
      let g = growth n ss js w m 0 rs h in
      answer_length (propagated (standing n js rs)).sentence (length (propagated (standing n js rs)).rows - length rs)
      (stop_few rs h (propagated (standing n js rs)).sentence refl) (omega (arith, g.0, g.1))

  state_length : {q : State} → Standing n ss js q → length (state_lines q) ≤ 14 * 1024 + 36 * 256
  state_length s =
      subst (λ (q : State). length (state_lines q) ≤ 14 * 1024 + 36 * 256) (sym s.state)
      (let rs = s.rows in
      omega (
        arith,
        length-append (row_lines rs) (bound_lines (standing n js rs) (length js)),
        rows_length n ss hn hs rs s.sound,
        few_rows n ss 0 rs s.sound,
        bounds_length n ss js hs m small (length js) rs (omega (arith, judges_length ss js m)) s.sound,
        judges_length ss js m,
      ))

  listing_length : {q : State} → Standing n ss js q → length (listing q) ≤ page_bytes
  listing_length {q} s =
      let a : length (stop_line (returned_by (reply q (table.a_step propagate)).answer)) ≤ 18 =
      subst (λ (p : State). length (stop_line (returned_by (reply p (table.a_step propagate)).answer)) ≤ 18) (sym s.state) (first_length s.rows s.sound) in
      omega (
        arith,
        length-append (stop_line (returned_by (reply q (table.a_step propagate)).answer)) (state_lines (following_call q (table.a_step propagate))),
        state_length (step n ss js w m (table.a_step propagate) (λ p. refl) s),
      )

-- ---- the output

answered_length : (input : List ℕ) (v : ℕ) (cs : List Constraint) → reading input ≡ taken v cs → (a : load.Answer)
    → a ≡ load_answer document area_words (v + length cs) (columns_of (rows_from (suc v) cs)) → (b : Bool) → b ≡ eqb a.code 0
    → length (answered v (length cs) (judged_sentences (rows_from (suc v) cs)) a) ≤ page_bytes
answered_length input v cs e a q false f = rw (sym f) (omega (arith, refused_length a.code a.sentence.0))
answered_length input v cs e a q true f =
    let n = v + length cs in
    let xs = rows_from (suc v) cs in
    let ss = sentences_in xs in
    let l = limits input v cs e in
    let z : (load_answer document area_words n (columns_of xs)).code ≡ 0 = sym (ap (λ (x : load.Answer). x.code) q) ∙ eqb-true a.code 0 (sym f) in
    let t = load_takes n xs z in
    let js = judged_sentences xs in
    let formed = each_map (Taken n) (WellFormed n) ss (λ s x. x.formed) t in
    rw (sym f)
    (listing_length n ss js (all_scoped n ss formed) (all_judged n ss formed) l.atoms (omega (arith, sentences_count xs, l.sentences))
    (small_sums n ss t (all_sums (suc v) cs))
    (heads_stand n ss js (all_scoped n ss formed) (all_judged n ss formed) (loaded n js) v (length cs) (record { rows = []; state = refl; sound = tt })))

-- for every text
pub output_fits : (input : List ℕ) → length (output input) ≤ page_bytes
unfolding output
output_fits input = by (reading input) refl
  where
    by : (x : Reading) → reading input ≡ x → length (printed (reading input)) ≤ page_bytes
    by (refused f k) e = subst (λ (x : Reading). length (printed x) ≤ page_bytes) (sym e) (omega (arith, refused_length (fault_number f) k))
    by (taken v cs) e = subst (λ (x : Reading). length (printed x) ≤ page_bytes) (sym e)
        (answered_length input v cs e (load_answer document area_words (v + length cs) (columns_of (rows_from (suc v) cs))) refl _ refl)

-- so a page of that size is never too short: what it holds in front is the output, and the answer is its length
pub never_short : {input old new : List ℕ} {r : ℕ} → Prints input old new r → page_bytes ≤ length old → (r ≡ length (output input)) × (take r new ≡ output input)
never_short {input} p h = held_whole p.holds (omega (arith, output_fits input, p.size))

-- the answer is a place on such a page
pub on_page : {input old new : List ℕ} {r : ℕ} → Prints input old new r → length old ≡ page_bytes → r ≤ length new
on_page {input} p e = omega (arith, (never_short p (omega arith)).0, output_fits input, p.size)
