-- What the rows of a book always have: literals of atoms 1 to N, each atom once, levels that do not rise going back, and every derived
-- literal forced by its reason over the rows before it. A trail of such rows is consistent, and each step keeps them so.
use mathlib.Core.Path.{◌≡◌, refl, sym, ◌∙◌, ap, subst}
use mathlib.Core.Bool.{false, cond}
use mathlib.Core.Logic.{inl, inr}
use mathlib.Core.List.{List, [], ◌∷◌}
use Prim.Native.Nat.{ℕ, ◌≤◌}
use native.Mathlib.Omega.{arith}
use lib.IntN.{ℤ}
use lib.Dec.{leb, leb→le}
use borrow.Author.Tests.{le-leb}
use Rattle.meaning.specs.Meaning.{atom, Sentence, Consistent, On, Each}
use Rattle.meaning.specs.Merge.{rule_of, scope}
use Rattle.book.specs.Rows.{Row, a_row, trail, up_to}
use Rattle.meaning.proofs.Trails.{put_on}
use Rattle.book.specs.Means.{ForcesFirst, Speaker}
use Rattle.book.specs.Sound.{Within, Scoped, Sits, Sound}
use Rattle.book.proofs.Number.{numbered_each, in_each}
use Rattle.book.proofs.Inside.{ForcedInside, first_forced_inside}
use Rattle.book.proofs.Tests.{either}

module _ (n : ℕ) (ss : List Sentence) where
  pub consistent : (v : ℕ) (rs : List Row) → Sound n ss v rs → Consistent (trail rs)
  consistent v [] h = ((λ a. false), tt)
  consistent v (r ∷ rs) h = put_on r.literal (trail rs) h.0.off (consistent r.level rs h.1)

  lowered : (v v' : ℕ) (r : Row) (rs : List Row) → r.level ≤ v' → Sits n ss v r rs → Sits n ss v' r rs
  lowered v v' r rs p x = record { low = p; atom_within = x.atom_within; off = x.off; reason_is = x.reason_is }

  pub sound_higher : (v v' : ℕ) (rs : List Row) → v ≤ v' → Sound n ss v rs → Sound n ss v' rs
  sound_higher v v' [] p h = tt
  sound_higher v v' (r ∷ rs) p h = let q = h.0.low in (lowered v v' r rs (omega (arith, q, p)) h.0, h.1)

  -- ---- take back

  pub up_to_all : (v k : ℕ) (rs : List Row) → v ≤ k → Sound n ss v rs → up_to k rs ≡ rs
  unfolding up_to
  up_to_all v k [] p h = refl
  up_to_all v k (r ∷ rs) p h =
      let q = h.0.low in
      let low : r.level ≤ k = omega (arith, q, p) in
      ap (λ b. cond b (r ∷ up_to k rs) (up_to k rs)) (le-leb r.level k low) ∙ ap (λ x. r ∷ x) (up_to_all r.level k rs low h.1)

  pub up_to_sound : (v k : ℕ) (rs : List Row) → Sound n ss v rs → Sound n ss k (up_to k rs)
  unfolding up_to
  up_to_sound v k [] h = tt
  up_to_sound v k (r ∷ rs) h =
      either (Sound n ss k) (leb r.level k)
      (λ t. let p = leb→le r.level k t in subst (λ x. Sound n ss k (r ∷ x)) (sym (up_to_all r.level k rs p h.1)) (lowered v k r rs p h.0, h.1))
      (λ _. up_to_sound r.level k rs h.1)

  -- ---- a literal more

  pub give_sound : (v : ℕ) (rs : List Row) (l : ℤ) → Within n (atom l) → ¬ (On (atom l) (trail rs)) → Sound n ss v rs → Sound n ss v (a_row l v 0 ∷ rs)
  give_sound v rs l i o h = (record { low = omega arith; atom_within = i; off = o; reason_is = inl refl }, h)

  pub derive_sound : Each (Scoped n) ss → (v : ℕ) (rs : List Row) (k : ℕ) (l : ℤ) → Sound n ss v rs → Speaker (trail rs) (ForcesFirst (trail rs) l) ss k → Sound n ss v (a_row l v k ∷ rs)
  derive_sound w v rs k l h x = (
    record {
      low = omega arith;
      atom_within = in_each (Within n) (atom l) (scope (rule_of s)) p.inside (numbered_each (Scoped n) k ss s x.number w);
      off = p.open_there.off;
      reason_is = inr (record { sentence = s; number = x.number; inside = p.inside; forces = p.forces });
    },
    h,
  )
    where
      s : Sentence
      s = x.sentence

      p : ForcedInside x.sentence (trail rs) (scope (rule_of x.sentence)) l
      p = first_forced_inside x.sentence (trail rs) (scope (rule_of x.sentence)) l x.speaks.1
