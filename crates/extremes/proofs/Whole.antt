-- A whole rule's words are sound: its weights and its constant are small enough for any fold. Of a sum, at most 4,096 weights of at most
-- 4,096 × 10^9 each; of a product, at most 10^18 all together.
use mathlib.Core.Path.{◌≡◌, refl, ◌∙◌, ap, subst}
use mathlib.Core.Bool.{Bool}
use mathlib.Core.List.{List, [], ◌∷◌}
use Prim.Native.Nat.{ℕ, ◌+◌, ◌-◌, ◌*◌, ◌≤◌, ◌<◌}
use native.Mathlib.Omega.{arith}
use lib.IntN.{pos, nat_abs, ◌*ℤ◌}
use lib.Signed.{le_z}
use lib.Dec.{T, leb→le}
use lib.ListN.{length}
use Rattle.numbers.specs.Words.{half, top, unbias}
use Rattle.numbers.proofs.Integers.{size_parts}
use Rattle.numbers.proofs.Words.{one_from, unbias_parts, unbias_natural}
use Rattle.meaning.specs.Meaning.{multiplied, Each}
use Rattle.meaning.specs.Meaning as m
use Rattle.meaning.proofs.Gather.{each_map}
use Rattle.meaning.proofs.Trails.{atom_half, literal_low}
use Rattle.types.specs.declared.Limits.{Limits}
use Rattle.types.specs.Limits.{Fitting}
use Rattle.area.specs.Layout.{entry_of, entries_of}
use Rattle.area.specs.Whole.{Near, WeightWhole, EntryWhole, weights_of, RuleWhole}
use Rattle.kinds.specs.declared.Kind.{Kind}
use Rattle.kinds.specs.declared.Kind.TheVariants.{Sum, Product, Count, Max, Min}
use Rattle.extremes.specs.Inner.Words.{meant, start_word}
use Rattle.extremes.proofs.Values.{In, in_empty}
use Rattle.extremes.proofs.Contributions.{Legal}
use Rattle.extremes.proofs.Bounded.{far, spread, factors, Bounded, bounded_room}
use Rattle.extremes.proofs.Sound.{rule_words, Sound}

-- ---- one word

pub near_far : (w b : ℕ) → Near (unbias w) b → far w ≤ b
near_far w b h = omega (arith, unbias_parts w, size_parts (unbias w))

weight_range : (k : Kind) (written w l : ℕ) → written ≤ 4096 → WeightWhole (meant k) written (entry_of w l) → In k w × (0 < w) × (w < top)
weight_range Sum written w l s h = let f : far w ≤ 1000000000 * written = near_far w (1000000000 * written) h.size in ((omega arith, omega arith), omega arith, omega arith)
weight_range Product written w l s h =
    let f : far w ≤ 1000000000000000000 = near_far w 1000000000000000000 h.high in
    let p : half < w = one_from w h.low in
    ((p, omega arith), omega arith, omega arith)
weight_range Count written w l s h = let f : far w ≤ 1000000000 * written = near_far w (1000000000 * written) h.size in ((omega arith, omega arith), omega arith, omega arith)
weight_range Max written w l s h = let f : far w ≤ 1000000000 = near_far w 1000000000 h in (omega arith, omega arith, omega arith)
weight_range Min written w l s h = let f : far w ≤ 1000000000 = near_far w 1000000000 h in (omega arith, omega arith, omega arith)

-- ---- all the entries

module _ (k : Kind) (n head written : ℕ) (s : written ≤ 4096) where
  legal_from : (words : List ℕ) → Each (EntryWhole n head (meant k) written) (entries_of words) → Legal k n words
  unfolding Legal entries_of
  legal_from [] h = tt
  legal_from (w ∷ []) h = tt
  legal_from (w ∷ l ∷ rest) h =
      let r = weight_range k written w l s h.0.weighs in
      let real : 2 ≤ l = literal_low l h.0.atom_low in
      (record { weight = r.0; low = r.1; high = r.2; literal = real; atom_high = omega (arith, atom_half l, h.0.atom_high) }, legal_from rest h.1)

-- each weight of a sum is at most 4,096 × 10^9 in size
small_spread : (words : List ℕ) → Each (λ e. Near e.weight 4096000000000) (entries_of words) → spread words ≤ 4096000000000 * length (entries_of words)
unfolding spread entries_of
small_spread [] h = omega arith
small_spread (w ∷ []) h = omega arith
small_spread (w ∷ l ∷ rest) h = omega (arith, near_far w 4096000000000 h.0, small_spread rest h.1)

multiplied_factors : (n : ℕ) (words : List ℕ) → Legal Product n words → multiplied (weights_of (entries_of words)) ≡ pos (factors words)
unfolding factors entries_of Legal
multiplied_factors n [] g = refl
multiplied_factors n (w ∷ []) g = refl
multiplied_factors n (w ∷ l ∷ rest) g =
    let low : half ≤ w = omega (arith, g.0.weight.0) in
    ap (λ z. z *ℤ multiplied (weights_of (entries_of rest))) (unbias_natural w low) ∙ ap (λ z. pos (w - half) *ℤ z) (multiplied_factors n rest g.1)

-- ---- the whole sentence

sum_bounded : (c written : ℕ) (words : List ℕ) → written ≤ 4096 → length (entries_of words) ≤ 4096 → Near (unbias c) (1000000000 * written)
    → Each (λ e. Near e.weight (1000000000 * written)) (entries_of words) → ((0 < c) × (c < top)) × ((spread words < c) × (c + spread words < top))
sum_bounded c written words s few near h =
    let f : far c ≤ 1000000000 * written = near_far c (1000000000 * written) near in
    let all = small_spread words
    (each_map (λ e. Near e.weight (1000000000 * written)) (λ e. Near e.weight 4096000000000) (entries_of words) (λ e (z : nat_abs e.weight ≤ 1000000000 * written). omega arith) h) in
    ((omega arith, omega arith), (omega arith, omega arith))

module _ (lim : Limits) (n : ℕ) (upper : Bool) (bound c head written : ℕ) (words : List ℕ) (fit : Fitting lim) (few : length (entries_of words) ≤ 4096) where
  start_bounded : (k : Kind) → RuleWhole lim n (rule_words k upper bound c head written words) → written ≤ 4096 → Legal k n words → In k (start_word k c) × Bounded k (start_word k c) words
  start_bounded Sum r s g =
      sum_bounded c written words s few r.constant
      (each_map (EntryWhole n head m.sum written) (λ e. Near e.weight (1000000000 * written)) (entries_of words) (λ e x. x.weighs.size) r.entries)
  start_bounded Product r s g =
      let p : T (le_z (multiplied (weights_of (entries_of words))) (pos 1000000000000000000)) = r.product refl in
      let q : factors words ≤ 1000000000000000000 = leb→le (factors words) 1000000000000000000 (subst (λ z. T (le_z z (pos 1000000000000000000))) (multiplied_factors n words g) p) in
      (in_empty Product, (omega arith, omega arith))
  start_bounded Count r s g =
      sum_bounded c written words s few r.constant
      (each_map (EntryWhole n head m.count written) (λ e. Near e.weight (1000000000 * written)) (entries_of words) (λ e x. x.weighs.size) r.entries)
  start_bounded Max r s g = (in_empty Max, tt)
  start_bounded Min r s g = (in_empty Min, tt)

  pub sound_from : (k : Kind) → RuleWhole lim n (rule_words k upper bound c head written words) → Sound n k bound c head words
  sound_from k r =
      let s : written ≤ 4096 = omega (arith, r.few, fit.each) in
      let g : Legal k n words = legal_from k n head written s words r.entries in
      let p = start_bounded k r s g in
      let f : far bound ≤ 1000000000000000000 = near_far bound 1000000000000000000 r.bound in
      record {
        legal = g;
        once = r.once;
        headless = each_map (EntryWhole n head (meant k) written) (λ e. ¬ (m.entry_atom e ≡ head)) (entries_of words) (λ e x. x.other) r.entries;
        start_in = p.0;
        rooms = λ v u. bounded_room k n u v (start_word k c) words g p.1;
        bound_low = omega arith;
        bound_high = omega arith;
        head_low = r.head_low;
        head_high = r.head_high;
      }
