-- Turning an open entry of sound words does not wrap: the value with the entry turned is itself a fold that does not.
use mathlib.Core.Path.{◌≡◌, refl, ◌∙◌}
use mathlib.Core.Bool.{Bool, true, false, true≢false}
use mathlib.Core.List.{List, [], ◌∷◌}
use Prim.Native.Nat.{ℕ, ◌+◌, ◌/◌, ◌≤◌, ◌<◌}
use native.Mathlib.Omega.{arith}
use Rattle.numbers.specs.Words.{half, top}
use Rattle.kinds.specs.declared.Kind.{Kind}
use Rattle.kinds.specs.declared.Kind.TheVariants.{Sum, Product, Count, Max, Min}
use Rattle.extremes.specs.Inner.Words.{empty_word, start_word, furthest_word, nearest_word, folded, extreme_word}
use Rattle.evaluate.specs.Inner.Words.{scaled, opposite_word, wanted_word}
use Rattle.extremes.specs.Inner.Room.{Room}
use Rattle.evaluate.specs.Inner.Room.{Turns, Turnable}
use Rattle.extremes.proofs.Values.{In}
use Rattle.evaluate.proofs.Swaps.{Swapped, sum_swap}
use Rattle.evaluate.proofs.Turns.{product_turned}
use Rattle.evaluate.proofs.Puts.{opposite, put, Member, first, later, member_proper, put_swaps, wanted_is}
use Rattle.extremes.proofs.Sound.{Sound, extreme_in}

turns_sum : (u : Bool) (e f w : ℕ) → e < top → w < top → f + furthest_word u w half ≡ e + nearest_word u w half
    → (furthest_word u w half ≤ e + nearest_word u w half) × (e + nearest_word u w half < top + top)
turns_sum true e f w p q s = (omega arith, omega arith)
turns_sum false e f w p q s = (omega arith, omega arith)

turns_product : (u : Bool) (e f w : ℕ) → In Product e → In Product f → half < w → f ≡ scaled u e w → Turns Product u e w
turns_product true e f w p q h s = (h, omega arith, p.1, λ x. absurd (true≢false x))
turns_product false e f w p q h s = (h, omega arith, p.1, λ x. omega arith)

turns_any : (k : Kind) (u : Bool) (c w : ℕ) {xs ys : List ℕ} → In k w → w < top → In k (folded k (start_word k c) xs) → In k (folded k (start_word k c) ys)
    → Room k (start_word k c) xs → Room k (start_word k c) ys
    → Swapped (furthest_word u w (empty_word k)) (nearest_word u w (empty_word k)) xs ys → Turns k u (folded k (start_word k c) xs) w
turns_any Sum u c w {xs} {ys} i high p q a b s =
    turns_sum u (folded Sum c xs) (folded Sum c ys) w p.1 high (sum_swap Sum (λ a b. refl) (λ a b h. h.0) (furthest_word u w half) (nearest_word u w half) c s a b)
turns_any Product u c w {xs} {ys} i high p q a b s = turns_product u (folded Product (half + 1) xs) (folded Product (half + 1) ys) w p q i.0 (product_turned u w i.0 s)
turns_any Count u c w {xs} {ys} i high p q a b s =
    turns_sum u (folded Count c xs) (folded Count c ys) w p.1 high (sum_swap Count (λ a b. refl) (λ a b h. h.0) (furthest_word u w half) (nearest_word u w half) c s a b)
turns_any Max u c w i high p q a b s = tt
turns_any Min u c w i high p q a b s = tt

module _ {n : ℕ} {k : Kind} {bound c head : ℕ} {words : List ℕ} (sound : Sound n k bound c head words) (u : Bool) (v : ℕ → ℕ) where
  turns_at : (w l : ℕ) → Member w l words → v (l / 2) ≡ 0 → Turns k u (extreme_word k u v c words) w
  turns_at w l e open_is =
      let f = member_proper k n e sound.legal in
      let g = wanted_is u (empty_word k) w l f.literal in
      let o = opposite_word (wanted_word u (empty_word k) w l) in
      turns_any k u c w f.weight f.high
      (extreme_in sound u v)
      (extreme_in sound u (put v o))
      (sound.rooms v u) (sound.rooms (put v o) u)
      (put_swaps k n u v e sound.legal sound.once open_is o (nearest_word u w (empty_word k)) ((opposite (wanted_word u (empty_word k) w l) g.real).atom ∙ g.atom) g.loses)

  turnable_from : (ws : List ℕ) → ((w l : ℕ) → Member w l ws → Member w l words) → Turnable k u (extreme_word k u v c words) v ws
  unfolding Turnable
  turnable_from [] f = tt
  turnable_from (w ∷ []) f = tt
  turnable_from (w ∷ l ∷ rest) f = (turns_at w l (f w l first), turnable_from rest (λ w' l' e. f w' l' (later e)))

  pub turnable_all : Turnable k u (extreme_word k u v c words) v words
  turnable_all = turnable_from words (λ w l e. e)
