-- The laws of the order on values and of each kind's combination, once for both directions. A combination is associative and
-- commutative, the empty value is its unit, and it is monotone (a product at natural numbers, which its weights are).
use mathlib.Core.Path.{◌≡◌, refl, sym, ◌∙◌, ap, subst}
use mathlib.Core.Bool.{Bool, true, false, not, cond}
use lib.IntN.{ℤ, pos, ◌+ℤ◌, ◌*ℤ◌, +ℤ_comm, +ℤ_assoc, +ℤ_idr, one, *ℤ_comm, *ℤ-one}
use lib.Signed.{le_z}
use lib.Dec.{T}
use Rattle.numbers.specs.Extended.{Extended, below, at, above, le_e, Direction, down, up, further}
use Rattle.numbers.proofs.Integers.{ints, *ℤ_assoc, le_z_refl, le_z_trans, le_z_total, sum_mono, Natural, product_natural, product_mono}
use Rattle.meaning.specs.Meaning.{Kind, sum, product, count, maximum, minimum, empty, Entry, truth, weighable, Side, lower, upper, comparison}
use Rattle.meaning.specs.Computed.{both, combine, starting, given, further_of, towards}

-- ---- tests

pub T_true : {b : Bool} → b ≡ true → T b
T_true e = subst T (sym e) tt

pub T_false : {b : Bool} → b ≡ false → T b → ⊥
T_false e t = subst T e t

pub is_true : {b : Bool} → T b → b ≡ true
is_true {b} = elim b as (λ b. T b → b ≡ true) [ true ↦ λ t. refl | false ↦ absurd ]

pub is_false : {b : Bool} → (T b → ⊥) → b ≡ false
is_false {b} = elim b as (λ b. (T b → ⊥) → b ≡ false) [ true ↦ λ f. absurd (f tt) | false ↦ λ f. refl ]

-- ---- the order on values

pub le_e_refl : (v : Extended) → T (le_e v v)
le_e_refl v = elim v as (λ v. T (le_e v v)) [ below ↦ tt | at a ↦ le_z_refl a | above ↦ tt ]

pub le_e_trans : (u v w : Extended) → T (le_e u v) → T (le_e v w) → T (le_e u w)
le_e_trans below v w h k = tt
le_e_trans (at a) below w h k = absurd h
le_e_trans (at a) (at b) w h k = elim w as (λ w. T (le_e (at b) w) → T (le_e (at a) w)) [ below ↦ absurd | at c ↦ le_z_trans a b c h | above ↦ λ k. tt ] k
le_e_trans (at a) above w h k = elim w as (λ w. T (le_e above w) → T (le_e (at a) w)) [ below ↦ absurd | at c ↦ absurd | above ↦ λ k. tt ] k
le_e_trans above below w h k = absurd h
le_e_trans above (at b) w h k = absurd h
le_e_trans above above w h k = k

pub le_e_total : (v w : Extended) → T (not (le_e v w)) → T (le_e w v)
le_e_total below w h = absurd h
le_e_total (at a) w h = elim w as (λ w. T (not (le_e (at a) w)) → T (le_e w (at a))) [ below ↦ λ h. tt | at b ↦ le_z_total a b | above ↦ λ h. absurd h ] h
le_e_total above w h = elim w as (λ w. T (not (le_e above w)) → T (le_e w above)) [ below ↦ λ h. tt | at b ↦ λ h. tt | above ↦ λ h. absurd h ] h

pub le_e_antisym : (v w : Extended) → T (le_e v w) → T (le_e w v) → v ≡ w
le_e_antisym below w h k = elim w as (λ w. T (le_e w below) → below ≡ w) [ below ↦ λ k. refl | at b ↦ absurd | above ↦ absurd ] k
le_e_antisym (at a) below h k = absurd h
le_e_antisym (at a) (at b) h k = ap at (omega ints)
le_e_antisym (at a) above h k = absurd k
le_e_antisym above w h k = elim w as (λ w. T (le_e above w) → above ≡ w) [ below ↦ absurd | at b ↦ absurd | above ↦ λ h. refl ] h

-- ---- the further of two, in either direction

-- what holds of each where it is picked holds of the one picked
module _ (P : Extended → Type 0) (v w : Extended) where
  pick : (c : Bool) → (T c → P v) → (T (not c) → P w) → P (cond c v w)
  pick true y n = y tt
  pick false y n = n tt

pub further_refl : (d : Direction) (v : Extended) → T (further d v v)
further_refl d v = elim d as (λ d. T (further d v v)) [ down ↦ le_e_refl v | up ↦ le_e_refl v ]

pub further_trans : (d : Direction) (u v w : Extended) → T (further d u v) → T (further d v w) → T (further d u w)
further_trans up u v w h k = le_e_trans u v w h k
further_trans down u v w h k = le_e_trans w v u k h

pub further_antisym : (d : Direction) (v w : Extended) → T (further d v w) → T (further d w v) → v ≡ w
further_antisym up v w h k = le_e_antisym v w h k
further_antisym down v w h k = le_e_antisym v w k h

pub furthest_first : (d : Direction) (v w : Extended) → T (further d v (further_of d v w))
furthest_first up v w = pick (λ x. T (le_e v x)) w v (le_e v w) (λ t. t) (λ n. le_e_refl v)
furthest_first down v w = pick (λ x. T (le_e x v)) v w (le_e v w) (λ t. le_e_refl v) (λ n. le_e_total v w n)

pub furthest_second : (d : Direction) (v w : Extended) → T (further d w (further_of d v w))
furthest_second up v w = pick (λ x. T (le_e w x)) w v (le_e v w) (λ t. le_e_refl w) (λ n. le_e_total v w n)
furthest_second down v w = pick (λ x. T (le_e x w)) v w (le_e v w) (λ t. t) (λ n. le_e_refl w)

-- it is one of the two
pub furthest_of : (P : Extended → Type 0) (d : Direction) (v w : Extended) → P v → P w → P (further_of d v w)
furthest_of P up v w p q = pick P w v (le_e v w) (λ t. q) (λ n. p)
furthest_of P down v w p q = pick P v w (le_e v w) (λ t. p) (λ n. q)

module _ (d : Direction) where
  furthest_within : (v w x : Extended) → T (further d v x) → T (further d w x) → T (further d (further_of d v w) x)
  furthest_within v w x h k = furthest_of (λ y. T (further d y x)) d v w h k

  furthest_mono : (v v' w w' : Extended) → T (further d v v') → T (further d w w') → T (further d (further_of d v w) (further_of d v' w'))
  furthest_mono v v' w w' h k = furthest_within v w (further_of d v' w') (further_trans d v v' (further_of d v' w') h (furthest_first d v' w'))
      (further_trans d w w' (further_of d v' w') k (furthest_second d v' w'))

  pub furthest_comm : (v w : Extended) → further_of d v w ≡ further_of d w v
  furthest_comm v w = further_antisym d (further_of d v w) (further_of d w v) (half v w) (half w v)
    where
      half : (v w : Extended) → T (further d (further_of d v w) (further_of d w v))
      half v w = furthest_within v w (further_of d w v) (furthest_second d w v) (furthest_first d w v)

  furthest_assoc : (u v w : Extended) → further_of d (further_of d u v) w ≡ further_of d u (further_of d v w)
  furthest_assoc u v w =
      let uv = further_of d u v in
      let vw = further_of d v w in
      let l = further_of d uv w in
      let r = further_of d u vw in
      further_antisym d l r (furthest_within uv w r
      (furthest_within u v r (furthest_first d u vw) (further_trans d v vw r (furthest_first d v w) (furthest_second d u vw)))
      (further_trans d w vw r (furthest_second d v w) (furthest_second d u vw))) (furthest_within u vw l
      (further_trans d u uv l (furthest_first d u v) (furthest_first d uv w))
      (furthest_within v w l (further_trans d v uv l (furthest_second d u v) (furthest_first d uv w)) (furthest_second d uv w)))

-- a comparison that has the truth b keeps it further towards b
pub towards_keeps : (s : Side) (z : ℤ) (b : Bool) (v w : Extended) → comparison s z v ≡ b → T (further (towards s b) v w) → comparison s z w ≡ b
towards_keeps lower z true v w e h = is_true (le_e_trans (at z) v w (T_true e) h)
towards_keeps lower z false v w e h = is_false (λ t. T_false e (le_e_trans (at z) w v t h))
towards_keeps upper z true v w e h = is_true (le_e_trans w v (at z) h (T_true e))
towards_keeps upper z false v w e h = is_false (λ t. T_false e (le_e_trans v w (at z) h t))

-- ---- an operation on integers, at values

-- a property of integers, of those values that are integers
abbrev OfAt : (ℤ → Type 0) → Extended → Type 0
OfAt P below = Unit {0}
OfAt P (at a) = P a
OfAt P above = Unit {0}

module _ (f : ℤ → ℤ → ℤ) where
  both_comm : ((a b : ℤ) → f a b ≡ f b a) → (v w : Extended) → both f v w ≡ both f w v
  both_comm c below w = elim w as (λ w. both f below w ≡ both f w below) [ below ↦ refl | at b ↦ refl | above ↦ refl ]
  both_comm c (at a) w = elim w as (λ w. both f (at a) w ≡ both f w (at a)) [ below ↦ refl | at b ↦ ap at (c a b) | above ↦ refl ]
  both_comm c above w = elim w as (λ w. both f above w ≡ both f w above) [ below ↦ refl | at b ↦ refl | above ↦ refl ]

  both_assoc : ((a b c : ℤ) → f (f a b) c ≡ f a (f b c)) → (u v w : Extended) → both f (both f u v) w ≡ both f u (both f v w)
  both_assoc s below v w = refl
  both_assoc s (at a) below w = refl
  both_assoc s (at a) (at b) w = elim w as (λ w. both f (both f (at a) (at b)) w ≡ both f (at a) (both f (at b) w)) [ below ↦ refl | at c ↦ ap at (s a b c) | above ↦ refl ]
  both_assoc s (at a) above w = elim w as (λ w. both f (both f (at a) above) w ≡ both f (at a) (both f above w)) [ below ↦ refl | at c ↦ refl | above ↦ refl ]
  both_assoc s above below w = refl
  both_assoc s above (at b) w = elim w as (λ w. both f (both f above (at b)) w ≡ both f above (both f (at b) w)) [ below ↦ refl | at c ↦ refl | above ↦ refl ]
  both_assoc s above above w = elim w as (λ w. both f (both f above above) w ≡ both f above (both f above w)) [ below ↦ refl | at c ↦ refl | above ↦ refl ]

  both_unit : (z : ℤ) → ((a : ℤ) → f a z ≡ a) → (v : Extended) → both f v (at z) ≡ v
  both_unit z u v = elim v as (λ v. both f v (at z) ≡ v) [ below ↦ refl | at a ↦ ap at (u a) | above ↦ refl ]

  both_of : (P : ℤ → Type 0) → ((a b : ℤ) → P a → P b → P (f a b)) → (v w : Extended) → OfAt P v → OfAt P w → OfAt P (both f v w)
  both_of P keep below w p q = tt
  both_of P keep (at a) w p q = elim w as (λ w. OfAt P w → OfAt P (both f (at a) w)) [ below ↦ λ q. tt | at b ↦ keep a b p | above ↦ λ q. tt ] q
  both_of P keep above w p q = elim w as (λ w. OfAt P (both f above w)) [ below ↦ tt | at b ↦ tt | above ↦ tt ]

  module _ (P : ℤ → Type 0) (comm : (a b : ℤ) → f a b ≡ f b a)
      (mono : (a b c : ℤ) → P a → P c → T (le_z a b) → T (le_z (f a c) (f b c))) where
    both_left : (v v' w : Extended) → OfAt P v → OfAt P w → T (le_e v v') → T (le_e (both f v w) (both f v' w))
    both_left below v' w p q h = tt
    both_left (at a) below w p q h = absurd h
    both_left (at a) (at b) below p q h = tt
    both_left (at a) (at b) (at c) p q h = mono a b c p q h
    both_left (at a) (at b) above p q h = tt
    both_left (at a) above w p q h = elim w as (λ w. T (le_e (both f (at a) w) (both f above w))) [ below ↦ tt | at c ↦ tt | above ↦ tt ]
    both_left above below w p q h = absurd h
    both_left above (at b) w p q h = absurd h
    both_left above above w p q h = le_e_refl (both f above w)

    both_mono : (v v' w w' : Extended) → OfAt P v → OfAt P v' → OfAt P w → T (le_e v v') → T (le_e w w') → T (le_e (both f v w) (both f v' w'))
    both_mono v v' w w' p p' q h k = le_e_trans (both f v w) (both f v' w) (both f v' w') (both_left v v' w p q h)
        (rw (both_comm comm v' w, both_comm comm v' w') (both_left w w' v' q p' k))

-- ---- the five kinds

pub combine_comm : (k : Kind) (v w : Extended) → combine k v w ≡ combine k w v
combine_comm sum = both_comm ◌+ℤ◌ +ℤ_comm
combine_comm product = both_comm ◌*ℤ◌ *ℤ_comm
combine_comm count = both_comm ◌+ℤ◌ +ℤ_comm
combine_comm maximum = furthest_comm up
combine_comm minimum = furthest_comm down

pub combine_assoc : (k : Kind) (u v w : Extended) → combine k (combine k u v) w ≡ combine k u (combine k v w)
combine_assoc sum = both_assoc ◌+ℤ◌ +ℤ_assoc
combine_assoc product = both_assoc ◌*ℤ◌ *ℤ_assoc
combine_assoc count = both_assoc ◌+ℤ◌ +ℤ_assoc
combine_assoc maximum = furthest_assoc up
combine_assoc minimum = furthest_assoc down

pub combine_swap : (k : Kind) (u v w : Extended) → combine k (combine k u v) w ≡ combine k (combine k u w) v
combine_swap k u v w = combine_assoc k u v w ∙ ap (combine k u) (combine_comm k v w) ∙ sym (combine_assoc k u w v)

pub combine_empty : (k : Kind) (v : Extended) → combine k v (empty k) ≡ v
unfolding one
combine_empty sum v = both_unit ◌+ℤ◌ (pos 0) +ℤ_idr v
combine_empty product v = both_unit ◌*ℤ◌ (pos 1) *ℤ-one v
combine_empty count v = both_unit ◌+ℤ◌ (pos 0) +ℤ_idr v
combine_empty maximum v = elim v as (λ v. combine maximum v (empty maximum) ≡ v) [ below ↦ refl | at a ↦ refl | above ↦ refl ]
combine_empty minimum v = elim v as (λ v. combine minimum v (empty minimum) ≡ v) [ below ↦ refl | at a ↦ refl | above ↦ refl ]

pub empty_combine : (k : Kind) (v : Extended) → combine k (empty k) v ≡ v
empty_combine k v = combine_comm k (empty k) v ∙ combine_empty k v

-- the values at which a kind's combination is monotone: a product's are not negative
abbrev pub Proper : Kind → Extended → Type 0
Proper sum v = Unit {0}
Proper product v = OfAt Natural v
Proper count v = Unit {0}
Proper maximum v = Unit {0}
Proper minimum v = Unit {0}

pub combine_proper : (k : Kind) (v w : Extended) → Proper k v → Proper k w → Proper k (combine k v w)
combine_proper k v w = elim k as (λ k. Proper k v → Proper k w → Proper k (combine k v w))
    [ sum ↦ λ p q. tt | product ↦ both_of ◌*ℤ◌ Natural product_natural v w | count ↦ λ p q. tt | maximum ↦ λ p q. tt | minimum ↦ λ p q. tt ]

pub given_proper : (k : Kind) (e : Entry) (b : Bool) → T (weighable k e.weight) → Proper k (given k e b)
given_proper sum e b h = tt
given_proper product e b h = pick (OfAt Natural) (at e.weight) (at (pos 1)) (truth e.literal b) (λ t. le_z_trans (pos 0) (pos 1) e.weight tt h) (λ n. tt)
given_proper count e b h = tt
given_proper maximum e b h = tt
given_proper minimum e b h = tt

pub starting_proper : (k : Kind) (c : ℤ) → Proper k (starting k c)
starting_proper k c = elim k as (λ k. Proper k (starting k c)) [ sum ↦ tt | product ↦ tt | count ↦ tt | maximum ↦ tt | minimum ↦ tt ]

always : (v : Extended) → OfAt (λ z. Unit {0}) v
always v = elim v as (λ v. OfAt (λ z. Unit {0}) v) [ below ↦ tt | at a ↦ tt | above ↦ tt ]

plus_mono : (v v' w w' : Extended) → T (le_e v v') → T (le_e w w') → T (le_e (both ◌+ℤ◌ v w) (both ◌+ℤ◌ v' w'))
plus_mono v v' w w' h k = both_mono ◌+ℤ◌ (λ z. Unit {0}) +ℤ_comm (λ a b c p q h. sum_mono a b c c h (le_z_refl c)) v v' w w' (always v) (always v') (always w) h k

combine_mono : (k : Kind) (v v' w w' : Extended) → Proper k v → Proper k v' → Proper k w → T (le_e v v') → T (le_e w w') → T (le_e (combine k v w) (combine k v' w'))
combine_mono sum v v' w w' p p' q h k = plus_mono v v' w w' h k
combine_mono product v v' w w' p p' q h k = both_mono ◌*ℤ◌ Natural *ℤ_comm (λ a b c p q h. product_mono a b c c p q h (le_z_refl c)) v v' w w' p p' q h k
combine_mono count v v' w w' p p' q h k = plus_mono v v' w w' h k
combine_mono maximum v v' w w' p p' q h k = furthest_mono up v v' w w' h k
combine_mono minimum v v' w w' p p' q h k = furthest_mono down v' v w' w h k

pub further_combine : (d : Direction) (k : Kind) (v v' w w' : Extended) → Proper k v → Proper k v' → Proper k w → Proper k w' → T (further d v v')
    → T (further d w w') → T (further d (combine k v w) (combine k v' w'))
further_combine up k v v' w w' p p' q q' h j = combine_mono k v v' w w' p p' q h j
further_combine down k v v' w w' p p' q q' h j = combine_mono k v' v w' w p' p q' h j
