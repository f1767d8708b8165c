-- One entry more, as a loop over the area goes: the words from entry i on are its weight, its literal and the words from entry i + 1 on.
-- So what a fold makes of the words from i on stays what it makes of all, and that is a loop's invariant.
use mathlib.Core.Path.{◌≡◌, sym, ap, ◌∙◌, subst}
use mathlib.Core.Bool.{Bool, true, false}
use mathlib.Core.List.{List, [], ◌∷◌}
use Prim.Native.Nat.{ℕ, suc, ◌+◌, ◌*◌, ◌/◌, ◌≤◌, ◌<◌}
use native.Mathlib.Omega.{arith}
use lib.ListN.{length, get_or}
use lib.Seq.{slice, slice-cons, slice_empty}
use Rattle.area.specs.Layout.{value_at, weight_in, literal_in, entry_words}
use Rattle.kinds.specs.declared.Kind.{Kind}
use Rattle.extremes.specs.declared.Extremes.{Extremes}
use Rattle.extremes.specs.declared.EntryWords.{EntryWords}
use Rattle.extremes.specs.Inner.Words.{empty_word, combined, reach_word, ReachesAre, contributions, folded, StepIs, FoldsAre}
use Rattle.extremes.specs.Inner.Room.{Entries, EntryIs, Steps, Room, Rooms}

-- ---- the words from entry i on

abbrev pub words_from : List ℕ → ℕ → ℕ → ℕ → List ℕ
words_from area start count i = slice (start + 2 * i) (start + 2 * count) area

pub from_next : (area : List ℕ) (start count i : ℕ) → i < count → start + 2 * count ≤ length area
    → words_from area start count i ≡ weight_in area start i ∷ literal_in area start i ∷ words_from area start count (i + 1)
from_next area start count i h g =
    let one : suc (start + 2 * i) ≡ start + 2 * i + 1 = omega arith in
    let two : suc (suc (start + 2 * i)) ≡ start + 2 * (i + 1) = omega arith in
    slice-cons (start + 2 * i) (start + 2 * count) area 0 (omega arith) g
    ∙ ap (λ (r : List ℕ). weight_in area start i ∷ r)
    (slice-cons (suc (start + 2 * i)) (start + 2 * count) area 0 (omega arith) g
    ∙ ap (λ (m : ℕ). get_or area m 0 ∷ slice (suc (suc (start + 2 * i))) (start + 2 * count) area) one
    ∙ ap (λ (m : ℕ). literal_in area start i ∷ slice m (start + 2 * count) area) two)

pub from_start : (area : List ℕ) (start count : ℕ) → words_from area start count 0 ≡ entry_words area start count
from_start area start count = let e : start + 2 * 0 ≡ start = omega arith in ap (λ (m : ℕ). slice m (start + 2 * count) area) e

pub from_end : (area : List ℕ) (start count i : ℕ) → i ≡ count → words_from area start count i ≡ []
from_end area start count i e = ap (λ (m : ℕ). slice (start + 2 * m) (start + 2 * count) area) e ∙ slice_empty (start + 2 * count) area

-- ---- contributions

module _ (k : Kind) (up : Bool) (v : ℕ → ℕ) (area : List ℕ) (start count : ℕ) where
  abbrev pub rest_from : ℕ → List ℕ
  rest_from i = contributions k up v (words_from area start count i)

  abbrev pub next_in : ℕ → ℕ
  next_in i = reach_word up (empty_word k) (weight_in area start i) (literal_in area start i) (v (literal_in area start i / 2))

  pub rest_next : (i : ℕ) → i < count → start + 2 * count ≤ length area → rest_from i ≡ next_in i ∷ rest_from (i + 1)
  unfolding contributions
  rest_next i h g = ap (contributions k up v) (from_next area start count i h g)

  pub rest_end : (i : ℕ) → i ≡ count → rest_from i ≡ []
  unfolding contributions
  rest_end i e = ap (contributions k up v) (from_end area start count i e)

-- what is computed of an entry that was read
pub reach_is : {area : List ℕ} {start n i none x : ℕ} {e : EntryWords} (k : Kind) (u : Bool) (count : ℕ) → EntryIs area start n i e → none ≡ empty_word k
    → x ≡ reach_word u none e.weight e.literal e.value → x ≡ next_in k u (value_at area n) area start count i
reach_is k u count s q r = r ∙ rw (q, s.value_is, s.weight_is, s.literal_is)

-- ---- folds

-- folding the contributions from entry i on, from acc, comes to the fold of all from `first`, and does not wrap
pub record Folding (k : Kind) (u : Bool) (area : List ℕ) (start count n first i acc : ℕ) : Type 0 where
  pub room : Room k acc (rest_from k u (value_at area n) area start count i)
  pub folds : folded k acc (rest_from k u (value_at area n) area start count i) ≡ folded k first (contributions k u (value_at area n) (entry_words area start count))

-- both folds
abbrev pub Foldings : Kind → List ℕ → (start count n first i least greatest : ℕ) → Type 0
Foldings k area start count n first i least greatest = Folding k false area start count n first i least × Folding k true area start count n first i greatest

module _ {k : Kind} {area : List ℕ} {start count n first : ℕ} where
  folding_starts : (u : Bool) → Rooms k first (value_at area n) (entry_words area start count) → Folding k u area start count n first 0 first
  folding_starts u r = record { room = rw (from_start area start count) (r u); folds = rw (from_start area start count) }

  pub foldings_start : Rooms k first (value_at area n) (entry_words area start count) → Foldings k area start count n first 0 first first
  foldings_start r = (folding_starts false r, folding_starts true r)

  pub foldings_end : {i least greatest : ℕ} → Foldings k area start count n first i least greatest → i ≡ count
      → FoldsAre k first (value_at area n) (entry_words area start count) (record { least = least; greatest = greatest })
  unfolding folded
  foldings_end {i} {least} {greatest} f e = record {
    least_is = ap (folded k least) (sym (rest_end k false (value_at area n) area start count i e)) ∙ f.0.folds;
    greatest_is = ap (folded k greatest) (sym (rest_end k true (value_at area n) area start count i e)) ∙ f.1.folds;
  }

  module _ {i : ℕ} (h : i < count) (g : Entries area start count n) where
    folding_steps : (u : Bool) (acc : ℕ) → Folding k u area start count n first i acc → Steps k acc (next_in k u (value_at area n) area start count i)
    unfolding Room
    folding_steps u acc f = (subst (Room k acc) (rest_next k u (value_at area n) area start count i h g.inside) f.room).0

    folding_next : (u : Bool) (acc : ℕ) → Folding k u area start count n first i acc
        → Folding k u area start count n first (i + 1) (combined k acc (next_in k u (value_at area n) area start count i))
    unfolding Room folded
    folding_next u acc f =
        let e = rest_next k u (value_at area n) area start count i h g.inside in
        record { room = (subst (Room k acc) e f.room).1; folds = ap (folded k acc) (sym e) ∙ f.folds }

    module _ {least greatest none : ℕ} {e : EntryWords} {x : Extremes} (f : Foldings k area start count n first i least greatest)
        (s : EntryIs area start n i e) (q : none ≡ empty_word k) (r : ReachesAre none e.weight e.literal e.value x) where
      pub foldings_step : Steps k least x.least × Steps k greatest x.greatest
      foldings_step = (
        rw (reach_is k false count s q r.least_is) (folding_steps false least f.0),
        rw (reach_is k true count s q r.greatest_is) (folding_steps true greatest f.1),
      )

      pub foldings_next : {y : Extremes} → StepIs k least greatest x.least x.greatest y → Foldings k area start count n first (i + 1) y.least y.greatest
      foldings_next z = (
        rw (z.least_is, reach_is k false count s q r.least_is) (folding_next false least f.0),
        rw (z.greatest_is, reach_is k true count s q r.greatest_is) (folding_next true greatest f.1),
      )
