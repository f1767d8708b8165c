-- The slot of a literal, 1 more than the place of its entry or 0: `put` joins at the slot, or puts the entry at the end where there is none.
use mathlib.Core.Path.{◌≡◌, refl, ap, ◌∙◌}
use mathlib.Core.Bool.{Bool, true, false, cond}
use mathlib.Core.List.{List, [], ◌∷◌, ◌++◌}
use Prim.Native.Nat.{ℕ, zero, suc, ◌<◌}
use native.Mathlib.Omega.{arith}
use lib.IntN.{ℤ}
use lib.ListN.{length, get_or, set}
use Rattle.meaning.specs.Meaning.{Entry, Kind, same}
use Rattle.meaning.specs.Merge.{put}
use Rattle.meaning.proofs.Members.{same→eq, eq→same, join}
use Rattle.meaning.proofs.Orders.{is_true, is_false}
use Rattle.gather.specs.Inner.Gather.{after, slot}

after_zero : (n : ℕ) → after n ≡ 0 → n ≡ 0
after_zero zero e = refl
after_zero (suc n) e = absurd (omega arith)

-- a literal with no entry goes to the end
pub put_new : (k : Kind) (xs : List Entry) (e : Entry) → slot xs e.literal ≡ 0 → put k xs e ≡ xs ++ (e ∷ [])
unfolding put slot
put_new k [] e h = refl
put_new k (x ∷ xs) e h =
    elim (same x.literal e.literal) as (λ b. cond b 1 (after (slot xs e.literal)) ≡ 0 → cond b (join k x e ∷ xs) (x ∷ put k xs e) ≡ x ∷ (xs ++ (e ∷ [])))
    [ true ↦ λ q. absurd (omega arith) | false ↦ λ q. ap (λ r. x ∷ r) (put_new k xs e (after_zero (slot xs e.literal) q)) ] h

-- an entry that is there keeps its place
pub record Found (k : Kind) (xs : List Entry) (e d : Entry) (i : ℕ) : Type 0 where
  pub low : i < length xs
  pub put_is : put k xs e ≡ set xs i (join k (get_or xs i d) e)

pub put_old : (k : Kind) (xs : List Entry) (e d : Entry) (i : ℕ) → slot xs e.literal ≡ suc i → Found k xs e d i
unfolding put slot
put_old k [] e d i h = absurd (omega arith)
put_old k (x ∷ xs) e d i h =
    let p = by (same x.literal e.literal) (slot xs e.literal) i (put_old k xs e d) refl h in record { low = p.0; put_is = p.1 }
  where
    by : (b : Bool) (s j : ℕ) → ((m : ℕ) → slot xs e.literal ≡ suc m → Found k xs e d m) → slot xs e.literal ≡ s → cond b 1 (after s) ≡ suc j
        → (j < length (x ∷ xs)) × (cond b (join k x e ∷ xs) (x ∷ put k xs e) ≡ set (x ∷ xs) j (join k (get_or (x ∷ xs) j d) e))
    by true s zero ih r q = (omega arith, refl)
    by true s (suc j) ih r q = absurd (omega arith)
    by false zero j ih r q = absurd (omega arith)
    by false (suc s) zero ih r q = absurd (omega arith)
    by false (suc s) (suc j) ih r q = let o = ih j (omega arith) in (omega (arith, o.low), ap (λ r. x ∷ r) o.put_is)

-- ---- the slots after one entry more

same_refl : (l : ℤ) → same l l ≡ true
same_refl l = is_true (eq→same l l refl)

pub slot_other : (k : Kind) (xs : List Entry) (e : Entry) (l : ℤ) → (e.literal ≡ l → ⊥) → slot (put k xs e) l ≡ slot xs l
unfolding put slot
slot_other k [] e l d = let f : same e.literal l ≡ false = is_false (λ t. d (same→eq e.literal l t)) in rw f
slot_other k (x ∷ xs) e l d =
    elim (same x.literal e.literal) as (λ b. slot (cond b (join k x e ∷ xs) (x ∷ put k xs e)) l ≡ cond (same x.literal l) 1 (after (slot xs l)))
    [ true ↦ refl | false ↦ ap (λ s. cond (same x.literal l) 1 (after s)) (slot_other k xs e l d) ]

pub slot_new : (k : Kind) (xs : List Entry) (e : Entry) → slot xs e.literal ≡ 0 → slot (put k xs e) e.literal ≡ suc (length xs)
unfolding put slot
slot_new k [] e h = ap (λ b. cond b 1 0) (same_refl e.literal)
slot_new k (x ∷ xs) e h =
    elim (same x.literal e.literal) as (λ b. same x.literal e.literal ≡ b → cond b 1 (after (slot xs e.literal)) ≡ 0 → slot
    (cond b (join k x e ∷ xs) (x ∷ put k xs e)) e.literal ≡ suc (suc (length xs))) [
      | true ↦ λ f q. absurd (omega arith)
      | false ↦ λ f q. ap (λ b. cond b 1 (after (slot (put k xs e) e.literal))) f ∙ ap after (slot_new k xs e (after_zero (slot xs e.literal) q))
    ]
    refl h

pub slot_old : (k : Kind) (xs : List Entry) (e : Entry) (i : ℕ) → slot xs e.literal ≡ suc i → slot (put k xs e) e.literal ≡ suc i
unfolding put slot
slot_old k [] e i h = absurd (omega arith)
slot_old k (x ∷ xs) e i h = go (same x.literal e.literal) refl (slot xs e.literal) i (slot_old k xs e) refl h
  where
    go : (b : Bool) → same x.literal e.literal ≡ b → (s j : ℕ) → ((m : ℕ) → slot xs e.literal ≡ suc m → slot (put k xs e) e.literal ≡ suc
        m) → slot xs e.literal ≡ s → cond b 1 (after s) ≡ suc j
        → slot (cond b (join k x e ∷ xs) (x ∷ put k xs e)) e.literal ≡ suc j
    go true f s j ih r q = ap (λ b. cond b 1 (after (slot xs e.literal))) f ∙ q
    go false f zero j ih r q = absurd (omega arith)
    go false f (suc s) zero ih r q = absurd (omega arith)
    go false f (suc s) (suc j) ih r q = ap (λ b. cond b 1 (after (slot (put k xs e) e.literal))) f ∙ ap after (ih j (omega arith))
