-- The sentences of a text that load takes: well_formed sums of few and small weights.
use mathlib.Core.Path.{◌≡◌, refl, ap, subst}
use mathlib.Core.Bool.{Bool, true, false, cond}
use mathlib.Core.List.{List, [], ◌∷◌, ◌++◌}
use Prim.Native.Nat.{ℕ, suc, ◌≤◌}
use lib.ListN.{length}
use lib.IntN.{nat_abs}
use lib.Dec.{T}
use Rattle.types.specs.Limits.{document}
use Rattle.meaning.specs.Meaning.{Entry, sum, Sentence, Each}
use Rattle.meaning.proofs.Gather.{each_map}
use Rattle.kinds.specs.Kinds as kind
use Rattle.book.specs.Book.{WellFormed}
use Rattle.area.specs.Layout.{kind_of}
use Rattle.columns.specs.Columns.{Written, sentences_in}
use Rattle.columns.specs.Refusals.{load_answer}
use Rattle.columns.proofs.Accepted.{each_accepted}
use Rattle.columns.proofs.Passing.{well_formed, entries_few, entries_fit}
use Rattle.kinds.proofs.Weights.{fits_size}
use Rattle.opb_text.specs.Text.{Constraint, rows_from, columns_of}
use Rattle.opb_text.specs.Text as text
use Rattle.opb_text.proofs.Columns.{same_rows}
use Rattle.listing.specs.Output.{area_words}
use Rattle.listing_claims.proofs.Sums.{SmallSum}

pub sentences_count : (xs : List Written) → length (sentences_in xs) ≡ length xs
unfolding sentences_in
sentences_count [] = refl
sentences_count (x ∷ xs) = ap suc (sentences_count xs)

-- what load leaves of each sentence
pub record Taken (n : ℕ) (s : Sentence) : Type 0 where
  pub formed : WellFormed n s
  pub few : length s.entries ≤ 1024
  pub small : Each (λ (e : Entry). nat_abs e.weight ≤ 1000000000) s.entries

pub load_takes : (n : ℕ) (xs : List Written) → (load_answer document area_words n (columns_of xs)).code ≡ 0 → Each (Taken n) (sentences_in xs)
load_takes n xs z =
    subst (λ (ys : List Written). Each (Taken n) (sentences_in ys)) (same_rows xs)
    (each_accepted (Taken n) document area_words n (columns_of xs) z
    (λ x p. record {
      formed = well_formed document n x p;
      few = entries_few document n x p;
      small = each_map (λ (e : Entry). T (kind.weight_fits (kind_of x.kind) e.weight)) (λ (e : Entry). nat_abs e.weight ≤ 1000000000) x.entries
          (λ e t. fits_size (kind_of x.kind) e.weight t) (entries_fit document n x p);
    }))

-- every one is a sum
pub all_sums : (v : ℕ) (cs : List Constraint) → Each (λ (s : Sentence). s.kind ≡ sum) (sentences_in (rows_from v cs))
unfolding rows_from sentences_in
all_sums v [] = tt
all_sums v (c ∷ cs) = both c.equal (all_sums (suc v) cs)
  where
    both : (b : Bool) → Each (λ (s : Sentence). s.kind ≡ sum) (sentences_in (rows_from (suc v) cs))
        → Each (λ (s : Sentence). s.kind ≡ sum) (sentences_in ((text.sum_row v 0 c ∷ cond b (text.sum_row v 1 c ∷ []) []) ++ rows_from (suc v) cs))
    both true h = (refl, (refl, h))
    both false h = (refl, h)

pub small_sums : (n : ℕ) (ss : List Sentence) → Each (Taken n) ss → Each (λ (s : Sentence). s.kind ≡ sum) ss → Each SmallSum ss
small_sums n [] h g = tt
small_sums n (s ∷ ss) h g = (record { a_sum = g.0; few = h.0.few; small = h.0.small }, small_sums n ss h.1 g.1)
