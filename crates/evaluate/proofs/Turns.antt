-- The test on an entry of weight w is right: with the entry's furthest contribution replaced by its nearest one, the comparison loses its
-- truth exactly where the test says so.
use mathlib.Core.Path.{◌≡◌, refl, sym, ◌∙◌, ap}
use mathlib.Core.Bool.{Bool, true, false, not, cond, ◌&&◌, and-true, and-false}
use mathlib.Core.List.{List}
use mathlib.Core.Logic.{⊎_elim}
use Prim.Native.Nat.{ℕ, ◌+◌, ◌-◌, ◌*◌, ◌/◌, ◌≤◌, ◌<◌, min, max}
use native.Mathlib.Omega.{arith}
use native.Mathlib.Nat.{mul-one, div-one}
use lib.Dec.{eqb, leb}
use borrow.Author.Tests.{leb-true, leb-false, le-leb, lt-leb, not-true}
use Rattle.numbers.specs.Words.{half, top}
use Rattle.numbers.proofs.Words.{cases}
use Rattle.kinds.specs.declared.Kind.{Kind}
use Rattle.kinds.specs.declared.Kind.TheVariants.{Sum, Product, Count, Max, Min}
use Rattle.extremes.specs.Inner.Words.{empty_word, start_word, furthest_word, nearest_word, folded}
use Rattle.evaluate.specs.Inner.Words.{best_kind, second_best, keeps, shifted, scaled, turns_word, leaves_second}
use Rattle.extremes.specs.Inner.Room.{Room}
use Rattle.extremes.proofs.Values.{In}
use Rattle.evaluate.proofs.Swaps.{Swapped, sum_swap, product_swap}
use Rattle.evaluate.proofs.Seconds.{best_swap, empty_swap}

-- ---- sums, counts and products: the new value itself

shifted_is : (u : Bool) (e f w : ℕ) → f + furthest_word u w half ≡ e + nearest_word u w half → f ≡ shifted u e w
shifted_is u e f w h = omega arith

scaled_is : (u : Bool) (e f w : ℕ) → half < w → half + (e - half) * (nearest_word u w (half + 1) - half) / (furthest_word u w (half + 1) - half) ≡ f → f ≡ scaled u e w
scaled_is true e f w p h =
    let far : max w (half + 1) ≡ w = omega arith in
    let near : min w (half + 1) - half ≡ 1 = omega arith in
    sym h ∙ rw (far, near, mul-one (e - half))
scaled_is false e f w p h =
    let far : min w (half + 1) - half ≡ 1 = omega arith in
    let near : max w (half + 1) ≡ w = omega arith in
    sym h ∙ rw (far, near, div-one ((e - half) * (w - half)))

pub product_turned : (u : Bool) (w : ℕ) → half < w → {xs ys : List ℕ} → Swapped (furthest_word u w (half + 1)) (nearest_word u w (half + 1)) xs ys
    → folded Product (half + 1) ys ≡ scaled u (folded Product (half + 1) xs) w
product_turned u w p {xs} {ys} s =
    scaled_is u (folded Product (half + 1) xs) (folded Product (half + 1) ys) w p
    (product_swap (half + 1) (furthest_word u w (half + 1)) (nearest_word u w (half + 1)) s (omega arith) (above u))
  where
    above : (u : Bool) → half < furthest_word u w (half + 1)
    above true = omega arith
    above false = omega arith

-- ---- a maximum up and a minimum down: the second best, where the entry was the best

-- the empty value does not count
empty_keeps : (limit : ℕ) → limit ≤ top → (u : Bool) (x : ℕ) → keeps u limit (furthest_word u x (empty_word (best_kind u))) ≡ keeps u limit x
empty_keeps limit small true x = let e : max x 0 ≡ x = omega arith in ap (leb limit) e
empty_keeps limit small false x =
    ⊎_elim
    (λ (h : limit ≤ x). ap not (le-leb limit (min x top) (omega arith) ∙ sym (le-leb limit x h)))
    (λ (h : x < limit). let e : min x top ≡ x = omega arith in ap (λ y. not (leb limit y)) e)
    (cases x limit)

-- the furthest is the weight, and the nearest the empty value
weight_sides : (u : Bool) (w : ℕ) → w < top → (furthest_word u w (empty_word (best_kind u)) ≡ w) × (nearest_word u w (empty_word (best_kind u)) ≡ empty_word (best_kind u))
weight_sides true w h = (omega arith, omega arith)
weight_sides false w h = (omega arith, omega arith)

empty_empty : (u : Bool) → furthest_word u (empty_word (best_kind u)) (empty_word (best_kind u)) ≡ empty_word (best_kind u)
empty_empty true = refl
empty_empty false = refl

-- what is left is the second best s, where the entry was the best, or the best e
left_told : (limit : ℕ) → limit ≤ top → (u b : Bool) (e s : ℕ) → keeps u limit e ≡ true
    → not (keeps u limit (furthest_word u (cond b s e) (empty_word (best_kind u)))) ≡ (not (keeps u limit s) && b)
left_told limit small u true e s h = ap not (empty_keeps limit small u s) ∙ sym (and-true (not (keeps u limit s)))
left_told limit small u false e s h = ap not (empty_keeps limit small u e ∙ h) ∙ sym (and-false (not (keeps u limit s)))

second_told : (u : Bool) (limit w : ℕ) → limit ≤ top → w < top → {xs ys : List ℕ}
    → Swapped (furthest_word u w (empty_word (best_kind u))) (nearest_word u w (empty_word (best_kind u))) xs ys → keeps u limit (folded (best_kind u) (empty_word (best_kind u)) xs) ≡ true
    → not (keeps u limit (folded (best_kind u) (empty_word (best_kind u)) ys))
    ≡ (not (keeps u limit (second_best u (empty_word (best_kind u)) (empty_word (best_kind u)) xs)) && eqb w (folded (best_kind u) (empty_word (best_kind u)) xs))
second_told u limit w small high {xs} s h =
    let start = empty_word (best_kind u) in
    let E = folded (best_kind u) start xs in
    ap (λ f. not (keeps u limit f))
    (sym (best_swap u (furthest_word u w start) (nearest_word u w start) start start s (empty_empty u)) ∙ rw ((weight_sides u w high).0, (weight_sides u w high).1))
    ∙ left_told limit small u (eqb w E) E (second_best u start start xs) h

-- ---- a maximum down and a minimum up: the weight comes in

comes_in : (u : Bool) (limit e w : ℕ) → keeps u limit e ≡ true → not (keeps u limit (nearest_word u e w)) ≡ not (keeps u limit w)
comes_in true limit e w h =
    ⊎_elim
    (λ (p : limit ≤ w). ap not (le-leb limit (min e w) (omega (arith, leb-true limit e h)) ∙ sym (le-leb limit w p)))
    (λ (p : w < limit). ap not (lt-leb limit (min e w) (omega arith) ∙ sym (lt-leb limit w p)))
    (cases w limit)
comes_in false limit e w h =
    ⊎_elim
    (λ (p : limit ≤ w). ap (λ c. not (not c)) (le-leb limit (max e w) (omega arith) ∙ sym (le-leb limit w p)))
    (λ (p : w < limit). ap (λ c. not (not c)) (lt-leb limit (max e w) (omega (arith, leb-false limit e (not-true (leb limit e) h))) ∙ sym (lt-leb limit w p)))
    (cases w limit)

-- ---- every kind

pub turned_loses : (k : Kind) (u : Bool) (limit c w : ℕ) → limit ≤ top → w < top → In k w → {xs ys : List ℕ}
    → Swapped (furthest_word u w (empty_word k)) (nearest_word u w (empty_word k)) xs ys → Room k (start_word k c) xs → Room k (start_word k c) ys
    → keeps u limit (folded k (start_word k c) xs) ≡ true → not (keeps u limit (folded k (start_word k c) ys))
    ≡ (not (leaves_second k u && keeps u limit (second_best u (empty_word (best_kind u)) (empty_word (best_kind u)) xs)) && turns_word k u limit (folded k (start_word k c) xs) w)
turned_loses Sum u limit c w small high i {xs} {ys} s p q h =
    ap (λ f. not (keeps u limit f)) (shifted_is u (folded Sum c xs) (folded Sum c ys) w (sum_swap Sum (λ a b. refl) (λ a b r. r.0) (furthest_word u w half) (nearest_word u w half) c s p q))
turned_loses Product u limit c w small high i s p q h = ap (λ f. not (keeps u limit f)) (product_turned u w i.0 s)
turned_loses Count u limit c w small high i {xs} {ys} s p q h =
    ap (λ f. not (keeps u limit f)) (shifted_is u (folded Count c xs) (folded Count c ys) w (sum_swap Count (λ a b. refl) (λ a b r. r.0) (furthest_word u w half) (nearest_word u w half) c s p q))
turned_loses Max true limit c w small high i s p q h = second_told true limit w small high s h
turned_loses Max false limit c w small high i {xs} s p q h =
    let y : max w 0 ≡ w = omega arith in
    ap (λ f. not (keeps false limit f)) (empty_swap true (min w 0) (max w 0) 0 (omega arith) s ∙ ap (max (folded Max 0 xs)) y) ∙ comes_in false limit (folded Max 0 xs) w h
turned_loses Min true limit c w small high i {xs} s p q h =
    let y : min w top ≡ w = omega arith in
    ap (λ f. not (keeps true limit f)) (empty_swap false (max w top) (min w top) top (omega arith) s ∙ ap (min (folded Min top xs)) y) ∙ comes_in true limit (folded Min top xs) w h
turned_loses Min false limit c w small high i s p q h = second_told false limit w small high s h
