-- Entry i of the columns may be taken after the i before it: what was asked of all entries is so of these, and the product of some of the
-- weights is at most that of all. Before any entry nothing is held.
use mathlib.Core.Path.{◌≡◌, refl, sym, ap, ◌∙◌, subst}
use mathlib.Core.Bool.{Bool, false}
use mathlib.Core.List.{List, [], ◌∷◌, ◌++◌}
use Prim.Native.Nat.{ℕ, zero, suc, ◌+◌, ◌≤◌, ◌<◌}
use native.Mathlib.Omega.{arith}
use native.Mathlib.Numerals.{add-one}
use lib.IntN.{ℤ, pos, negsuc, nat_abs}
use lib.ListN.{length, get_or, take, drop, replicate, length-replicate, get_or-replicate, take-append-drop}
use lib.Seq.{take-suc, length-take-le}
use lib.Signed.{le_z, mag}
use lib.Dec.{T}
use Rattle.numbers.specs.Words.{half, bias, unbias, literal_word, literal_of}
use Rattle.numbers.proofs.Integers.{le_z_trans}
use Rattle.numbers.proofs.Words.{unbias_of, unbias_zero, literal_of_word}
use Rattle.meaning.specs.Meaning.{atom, Entry, entry_atom, Kind, sum, product, count, maximum, minimum, members, multiplied, Each}
use Rattle.meaning.specs.Merge.{turned_all, freed_all, turned, constant, collect}
use Rattle.meaning.proofs.Gather.{each_map}
use Rattle.kinds.specs.Kinds.{weight_fits}
use Rattle.meaning.proofs.Trails.{atom_size}
use Rattle.kinds.proofs.Weights.{fits_weighable, fits_size}
use Rattle.area.specs.Layout.{entry_of}
use Rattle.area.specs.Whole.{weights_of}
use Rattle.columns.specs.Columns.{paired}
use Rattle.columns.specs.Refusals.{some_entry}
use Rattle.columns.proofs.Paired as lists
use Rattle.columns.proofs.MergedSizes.{Positive, multiplied_positive}
use Rattle.gather.specs.Inner.Gather.{Mergeable}
use Rattle.gather.specs.Inner.Gather.{slot, Gathered, Takeable}
use Rattle.gather.proofs.Held.{entries_none}
use Rattle.gather.proofs.Bounds.{factor, multiplied_append}
use Rattle.gather.proofs.Putting.{each_at}

-- ---- the entries of the columns

pub paired_length : (ws ls : List ℤ) → length ls ≡ length ws → length (paired ws ls) ≡ length ws
paired_length ws ls e = lists.paired_length ws ls (sym e) ∙ e

paired_at : (ws ls : List ℤ) (i : ℕ) (d : Entry) → length ls ≡ length ws → i < length ws → get_or (paired ws ls) i d ≡ record { weight = get_or ws i (pos 0); literal = get_or ls i (pos 0) }
unfolding paired
paired_at [] ls i d e h = absurd (omega arith)
paired_at (w ∷ ws) [] i d e h = absurd (omega arith)
paired_at (w ∷ ws) (l ∷ ls) zero d e h = refl
paired_at (w ∷ ws) (l ∷ ls) (suc i) d e h = paired_at ws ls i d (omega arith) (omega arith)

take_none : {A : Type 0} (xs : List A) → take 0 xs ≡ []
take_none [] = refl
take_none (x ∷ xs) = refl

module _ {A : Type 0} (P : A → Type 0) where
  each_take : (i : ℕ) (xs : List A) → Each P xs → Each P (take i xs)
  each_take zero xs h = subst (λ (ys : List A). Each P ys) (sym (take_none xs)) tt
  each_take (suc i) [] h = tt
  each_take (suc i) (x ∷ xs) h = (h.0, each_take i xs h.1)

  each_drop : (i : ℕ) (xs : List A) → Each P xs → Each P (drop i xs)
  each_drop zero [] h = tt
  each_drop zero (x ∷ xs) h = h
  each_drop (suc i) [] h = tt
  each_drop (suc i) (x ∷ xs) h = each_drop i xs h.1

-- the product of the first of them
first_product : (es : List Entry) (i : ℕ) → Each Positive es → T (le_z (multiplied (weights_of (take i es))) (multiplied (weights_of es)))
first_product es i h = subst (λ (m : ℤ). T (le_z (multiplied (weights_of (take i es))) m))
    (sym (multiplied_append (take i es) (drop i es)) ∙ ap (λ xs. multiplied (weights_of xs)) (take-append-drop i es))
    (factor (multiplied (weights_of (take i es))) (multiplied (weights_of (drop i es)))
    (multiplied_positive (take i es) (each_take Positive i es h)) (multiplied_positive (drop i es) (each_drop Positive i es h)))

-- ---- entry i

mag_size : (w : ℤ) → mag w ≤ nat_abs w
mag_size (pos n) = omega arith
mag_size (negsuc n) = omega arith

literal_word_range : (l : ℤ) → 1 ≤ atom l → atom l ≤ 4096 → (2 ≤ literal_word l) × (literal_word l ≤ 8193)
literal_word_range (pos a) h g = (omega arith, omega arith)
literal_word_range (negsuc a) h g = (omega arith, omega arith)

module _ {part : List ℕ} {kind : Kind} {ws ls : List ℤ} (m : Mergeable part kind ws ls) (i : ℕ) (h : i < length ws) where
  at_place : (P : Entry → Type 0) → Each P (paired ws ls) → P (record { weight = get_or ws i (pos 0); literal = get_or ls i (pos 0) })
  at_place P e = subst P (paired_at ws ls i (entry_of 0 0) m.same h) (each_at P (paired ws ls) i (entry_of 0 0) (omega (arith, paired_length ws ls m.same)) e)

  fits_at : T (weight_fits kind (get_or ws i (pos 0)))
  fits_at = at_place (λ e. T (weight_fits kind e.weight)) m.weights

  pub weight_small : nat_abs (get_or ws i (pos 0)) ≤ 1000000000000000000
  weight_small = omega (arith, fits_size kind (get_or ws i (pos 0)) fits_at)

  literal_range : (1 ≤ atom (get_or ls i (pos 0))) × (atom (get_or ls i (pos 0)) ≤ 4096)
  literal_range = at_place (λ e. (1 ≤ entry_atom e) × (entry_atom e ≤ 4096)) m.literals

  pub literal_small : nat_abs (get_or ls i (pos 0)) ≤ 4096
  literal_small = let r = literal_range.1 in omega (arith, atom_size (get_or ls i (pos 0)))

  module _ {x l : ℕ} (x_is : x ≡ bias (get_or ws i (pos 0))) (l_is : l ≡ literal_word (get_or ls i (pos 0))) where
    weight_back : unbias x ≡ get_or ws i (pos 0)
    weight_back = ap unbias x_is ∙ unbias_of (get_or ws i (pos 0)) (omega (arith, mag_size (get_or ws i (pos 0)), fits_size kind (get_or ws i (pos 0)) fits_at))

    literal_back : literal_of l ≡ get_or ls i (pos 0)
    literal_back = ap literal_of l_is ∙ literal_of_word (get_or ls i (pos 0))

    pub one_more : take (i + 1) (paired ws ls) ≡ take i (paired ws ls) ++ (entry_of x l ∷ [])
    one_more = ap (λ n. take n (paired ws ls)) (add-one i) ∙ take-suc (paired ws ls) i (entry_of 0 0) (omega (arith, paired_length ws ls m.same))
        ∙ ap (λ e. take i (paired ws ls) ++ (e ∷ [])) (paired_at ws ls i (entry_of 0 0) m.same h)
        ∙ ap (λ w. take i (paired ws ls) ++ (record { weight = w; literal = get_or ls i (pos 0) } ∷ [])) (sym weight_back)
        ∙ ap (λ v. take i (paired ws ls) ++ (record { weight = unbias x; literal = v } ∷ [])) (sym literal_back)

    first_length : length (take i (paired ws ls)) ≡ i
    first_length = length-take-le i (paired ws ls) (omega (arith, paired_length ws ls m.same))

    product_most : kind ≡ product → T (le_z (multiplied (weights_of (take i (paired ws ls) ++ (entry_of x l ∷ [])))) (pos 1000000000000000000))
    product_most e = rw (sym one_more)
        (le_z_trans (multiplied (weights_of (take (i + 1) (paired ws ls)))) (multiplied (weights_of (paired ws ls))) (pos 1000000000000000000)
        (first_product (paired ws ls) (i + 1) (each_map (λ y. T (weight_fits kind y.weight)) (λ y. T (le_z (pos 1) y.weight)) (paired ws ls)
        (λ y f. fits_weighable product y.weight (subst (λ (k : Kind). T (weight_fits k y.weight)) e f)) m.weights))
        (m.product e))

    pub takeable : (words : ℕ) → words ≡ length part → Takeable kind (take i (paired ws ls)) x l words
    takeable words e = record {
      few = let f = m.few in omega (arith, first_length);
      room = let r = m.room in omega (arith, first_length);
      low = rw l_is (literal_word_range (get_or ls i (pos 0)) literal_range.0 literal_range.1).0;
      high = rw l_is (literal_word_range (get_or ls i (pos 0)) literal_range.0 literal_range.1).1;
      fits = rw weight_back fits_at;
      fit = each_take (λ e. T (weight_fits kind e.weight)) i (paired ws ls) m.weights;
      product = product_most;
    }

-- ---- before any

none_collected : (k : Kind) → [] ≡ collect k [] (turned k (members k []))
unfolding collect turned_all
none_collected k = elim k as (λ k. ◌≡◌ {A = List Entry} [] (collect k [] (turned k (members k [])))) [ sum ↦ refl | product ↦ refl | count ↦ refl | maximum ↦ refl | minimum ↦ refl ]

none_freed : (k : Kind) → pos 0 ≡ constant k (members k [])
unfolding freed_all
none_freed k = elim k as (λ k. pos 0 ≡ constant k (members k [])) [ sum ↦ refl | product ↦ refl | count ↦ refl | maximum ↦ refl | minimum ↦ refl ]

word_high : (l : ℤ) → atom l ≤ 4096 → literal_word l < 8194
word_high (pos a) h = omega arith
word_high (negsuc a) h = omega arith

pub gathered_none : (kind : Kind) (es : List Entry) (part table : List ℕ) (seen : List Bool) → table ≡ replicate 8194 0 → seen ≡ replicate 8194 false → Gathered kind (take 0 es) part table seen 0 half
unfolding slot some_entry
gathered_none kind es part table seen t s = rw (take_none es, t, s) (record {
  collected = record {
    entries = entries_none part ∙ none_collected kind;
    literals = λ i h. absurd (omega arith);
    few = omega arith;
    constant_is = unbias_zero ∙ none_freed kind;
  };
  places = rw (entries_none part) (record { size = length-replicate {A = ℕ} 8194 0; each = λ l h. get_or-replicate {A = ℕ} 8194 (literal_word l) 0 0 (word_high l h) });
  seen_is = record { size = length-replicate 8194 false; each = λ l h. get_or-replicate 8194 (literal_word l) false false (word_high l h) };
  small = λ m. rw (entries_none part) tt;
  near = rw unbias_zero (omega arith);
})
