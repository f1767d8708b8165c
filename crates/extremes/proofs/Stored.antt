-- A sentence that is ready, in its stored words: they are sound words of its rule, its entries stand inside the area, and the words of
-- its extremes are the folds.
use mathlib.Core.Path.{◌≡◌, sym, ◌∙◌, ap, subst}
use mathlib.Core.Bool.{Bool, true, false, cond}
use mathlib.Core.Logic.{⊎_elim}
use mathlib.Core.List.{List, [], ◌∷◌}
use Prim.Native.Nat.{ℕ, zero, suc, ◌+◌, ◌*◌, ◌/◌, ◌%◌, ◌≤◌, ◌<◌}
use native.Mathlib.Omega.{arith}
use lib.IntN.{ℤ}
use lib.Dec.{eqb}
use lib.ListN.{length}
use lib.Seq.{length-slice}
use Rattle.types.specs.Limits.{Fitting, widest}
use Rattle.types.specs.declared.Limits.{Limits}
use Rattle.numbers.specs.Words.{top}
use Rattle.numbers.specs.Words.{word as word_of}
use Rattle.numbers.specs.Extended.{up, down}
use Rattle.numbers.proofs.Words.{parity, word_unword}
use Rattle.meaning.specs.Merge.{Rule}
use Rattle.meaning.specs.Computed.{extreme}
use Rattle.area.specs.Layout.{tag_at, kind_at, upper_at, head_at, bound_at, constant_at, weight_in, literal_in, written_at, merged_at, entry_at, entry_words, value_at, kind_of, side_of, entries_of, rule_at}
use Rattle.area.specs.Whole.{RuleWhole}
use Rattle.kinds.specs.declared.Kind.{Kind}
use Rattle.extremes.specs.declared.Extremes.{Extremes}
use Rattle.extremes.specs.Inner.Stored.{Shows, EvaluateReady, ExtremesAre}
use Rattle.extremes.specs.Inner.Words.{meant, start_word, extreme_word, FoldsAre}
use Rattle.extremes.specs.Inner.Room.{Entries, Rooms}
use Rattle.extremes.proofs.Loops.{words_from, from_start, from_next}
use Rattle.extremes.proofs.Values.{coded, direction, in_top}
use Rattle.extremes.proofs.Contributions.{Proper, Legal}
use Rattle.extremes.proofs.Sound.{sided, rule_words, Sound, extreme_in, extreme_means}
use Rattle.extremes.proofs.Whole.{near_far, sound_from}
use Rattle.extremes.proofs.Shown.{some_trail}

-- ---- the rule

side_is : (x : ℕ) → sided (eqb (x % 2) 1) ≡ side_of (x % 2)
side_is x =
    ⊎_elim
    (λ (e : x % 2 ≡ 0). rw e)
    (λ (e : x % 2 ≡ 1). rw e)
    (parity x)

pub rule_is : (w : List ℕ) (n S b : ℕ) (k : Kind) → meant k ≡ kind_of (kind_at w b)
    → rule_words k (upper_at w b) (bound_at w b) (constant_at w b) (head_at w b) (written_at w b) (entry_words w (entry_at w n S b) (merged_at w b)) ≡ rule_at w n S b
rule_is w n S b k e = rw (e, side_is (tag_at w b / 8))

-- ---- the entries

half_length : (words : List ℕ) → 2 * length (entries_of words) ≤ length words
unfolding entries_of
half_length [] = omega arith
half_length (w ∷ []) = omega arith
half_length (w ∷ l ∷ rest) = omega (arith, half_length rest)

module _ (k : Kind) (n : ℕ) (area : List ℕ) (start count : ℕ) (inside : start + 2 * count ≤ length area) (g : Legal k n (entry_words area start count)) where
  legal_on : (i : ℕ) → i ≤ count → Legal k n (words_from area start count i)
  unfolding Legal
  legal_on zero h = rw (from_start area start count) g
  legal_on (suc i) h =
      let e : i + 1 ≡ suc i = omega arith in
      subst (λ j. Legal k n (words_from area start count j)) e (subst (Legal k n) (from_next area start count i (omega arith) inside) (legal_on i (omega arith))).1

  proper_at : (i : ℕ) → i < count → Proper k n (weight_in area start i) (literal_in area start i)
  unfolding Legal
  proper_at i h = (subst (Legal k n) (from_next area start count i h inside) (legal_on i (omega arith))).0

-- ---- a sentence that is ready

abbrev widest_fits : Fitting widest
widest_fits = record { atoms = omega arith; sentences = omega arith; entries = omega arith; each = omega arith; levels = omega arith }

-- what is whole within limits that fit is whole within the widest
pub widened : {lim : Limits} {n : ℕ} {r : Rule} → Fitting lim → RuleWhole lim n r → RuleWhole widest n r
widened fit h = record {
  few = omega (arith, h.few, fit.each);
  head_low = h.head_low;
  head_high = h.head_high;
  bound = h.bound;
  constant = h.constant;
  entries = h.entries;
  once = h.once;
  product = h.product;
}

pub bound_high : {w : List ℕ} {n S b : ℕ} → EvaluateReady w n S b → bound_at w b < top
bound_high {w} {n} {S} {b} ready = omega (arith, near_far (bound_at w b) 1000000000000000000 ready.rule.bound)

pub sound_at : (w : List ℕ) (n S b : ℕ) → EvaluateReady w n S b → (k : Kind) → meant k ≡ kind_of (kind_at w b)
    → Sound n k (bound_at w b) (constant_at w b) (head_at w b) (entry_words w (entry_at w n S b) (merged_at w b))
sound_at w n S b ready k e =
    let words = entry_words w (entry_at w n S b) (merged_at w b) in
    let few : length (entries_of words) ≤ 4096 =
    omega (arith, half_length words, length-slice (entry_at w n S b) (entry_at w n S b + 2 * merged_at w b) w ready.entries, ready.merged) in
    sound_from widest n (upper_at w b) (bound_at w b) (constant_at w b) (head_at w b) (written_at w b) words widest_fits few k
    (subst (RuleWhole widest n) (sym (rule_is w n S b k e)) ready.rule)

module _ {w : List ℕ} {n S b : ℕ} (k : Kind) (ready : EvaluateReady w n S b) (e : meant k ≡ kind_of (kind_at w b)) where
  pub entries_at : Entries w (entry_at w n S b) (merged_at w b) n
  entries_at =
      let proper = proper_at k n w (entry_at w n S b) (merged_at w b) ready.entries (sound_at w n S b ready k e).legal in
      record {
        atoms_low = ready.atoms_low;
        inside = ready.entries;
        values = omega (arith, ready.values);
        literal = λ i h. (proper i h).literal;
        atom_high = λ i h. (proper i h).atom_high;
      }

  pub rooms_at : Rooms k (start_word k (constant_at w b)) (value_at w n) (entry_words w (entry_at w n S b) (merged_at w b))
  rooms_at = (sound_at w n S b ready k e).rooms (value_at w n)

  -- the word of an extreme is the fold
  abbrev pub fold_at : Bool → ℕ
  fold_at u = extreme_word k u (value_at w n) (constant_at w b) (entry_words w (entry_at w n S b) (merged_at w b))

  extreme_is : (u : Bool) (t : List ℤ) → Shows w n t → fold_at u ≡ word_of (extreme (direction u) (rule_at w n S b) t)
  extreme_is u t sh =
      let sound = sound_at w n S b ready k e in
      sym (word_unword (fold_at u) (in_top k (fold_at u) (extreme_in sound u (value_at w n))))
      ∙ ap word_of (sym (extreme_means sound (upper_at w b) (written_at w b) u (value_at w n) t sh))
      ∙ ap (λ r. word_of (extreme (direction u) r t)) (rule_is w n S b k e)

  pub folds_extremes : {r : Extremes} → FoldsAre k (start_word k (constant_at w b)) (value_at w n) (entry_words w (entry_at w n S b) (merged_at w b)) r → ExtremesAre w n S b r
  folds_extremes f = record { least_is = λ t sh. f.least_is ∙ extreme_is false t sh; greatest_is = λ t sh. f.greatest_is ∙ extreme_is true t sh }

  -- the extremes in both directions, `true` up
  pub extreme_folds : {r : Extremes} → ExtremesAre w n S b r → (u : Bool) → fold_at u ≡ cond u r.greatest r.least
  extreme_folds a true = let t = some_trail (value_at w n) n in extreme_is true t.0 t.1 ∙ sym (a.greatest_is t.0 t.1)
  extreme_folds a false = let t = some_trail (value_at w n) n in extreme_is false t.0 t.1 ∙ sym (a.least_is t.0 t.1)

-- words that are the extremes over one trail that the values show are so over every such trail
pub one_trail : {w : List ℕ} {n S b : ℕ} {r : Extremes} (t : List ℤ) → EvaluateReady w n S b → Shows w n t → r.least ≡ word_of (extreme down (rule_at w n S b) t)
    → r.greatest ≡ word_of (extreme up (rule_at w n S b) t) → ExtremesAre w n S b r
one_trail {w} {b = b} t ready sh p q =
    let k = coded (kind_of (kind_at w b)) in
    folds_extremes k.0 ready k.1 (record { least_is = p ∙ sym (extreme_is k.0 ready k.1 false t sh); greatest_is = q ∙ sym (extreme_is k.0 ready k.1 true t sh) })
