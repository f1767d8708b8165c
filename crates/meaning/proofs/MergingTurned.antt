-- Turning negative literals and dropping weight 0 keep the total. A weight w on -a gives w where a is false: that is w in the constant,
-- and -w where a is true. A weight 0 adds nothing.
use mathlib.Core.Path.{◌≡◌, refl, sym, ◌∙◌, ap}
use mathlib.Core.Bool.{Bool, true, false, not, cond}
use mathlib.Core.List.{List, [], ◌∷◌}
use lib.IntN.{ℤ, pos, negsuc, neg_ℤ, ◌+ℤ◌, +ℤ_idl}
use lib.Dec.{T}
use Rattle.numbers.proofs.Integers.{ints, sum_parts, neg_parts}
use Rattle.meaning.specs.Meaning.{atom, Assignment, holds, Entry, chosen, total, same}
use Rattle.meaning.specs.Merge.{turned_by, freed_by, turned_all, freed_all, nonzero}
use Rattle.meaning.proofs.Members.{same→eq}

-- where a test puts a weight in front or not
total_cond : (b : Bool) (w : ℤ) (ws : List ℤ) → total (cond b (w ∷ ws) ws) ≡ cond b w (pos 0) +ℤ total ws
total_cond b w ws = elim b as (λ b. total (cond b (w ∷ ws) ws) ≡ cond b w (pos 0) +ℤ total ws) [ true ↦ refl | false ↦ sym (+ℤ_idl (total ws)) ]

-- what one entry gives, turned
turned_by_value : (σ : Assignment) (w l : ℤ)
    → cond (holds σ l) w (pos 0) ≡ freed_by w l +ℤ cond (holds σ (turned_by w l).literal) (turned_by w l).weight (pos 0)
turned_by_value σ w (pos a) = sym (+ℤ_idl (cond (σ a) w (pos 0)))
turned_by_value σ w (negsuc a) = elim (σ (atom (negsuc a))) as (λ b. cond (not b) w (pos 0) ≡ w +ℤ cond b (neg_ℤ w) (pos 0))
    [ true ↦ omega (ints, neg_parts w, sum_parts w (neg_ℤ w)) | false ↦ omega (ints, sum_parts w (pos 0)) ]

pub turned_total : (σ : Assignment) (es : List Entry) → total (chosen σ es) ≡ freed_all es +ℤ total (chosen σ (turned_all es))
unfolding turned_all freed_all
turned_total σ [] = refl
turned_total σ (e ∷ es) =
    let t = turned_by e.weight e.literal in
    total_cond (holds σ e.literal) e.weight (chosen σ es)
    ∙ regroup (cond (holds σ e.literal) e.weight (pos 0)) (freed_by e.weight e.literal) (cond (holds σ t.literal) t.weight (pos 0))
    (total (chosen σ es)) (freed_all es) (total (chosen σ (turned_all es))) (turned_by_value σ e.weight e.literal) (turned_total σ es)
    ∙ ap (λ x. (freed_by e.weight e.literal +ℤ freed_all es) +ℤ x) (sym (total_cond (holds σ t.literal) t.weight (chosen σ (turned_all es))))
  where
    regroup : (a f u b g v : ℤ) → a ≡ f +ℤ u → b ≡ g +ℤ v → a +ℤ b ≡ (f +ℤ g) +ℤ (u +ℤ v)
    regroup a f u b g v h i = omega (ints, sum_parts a b, sum_parts f u, sum_parts g v, sum_parts f g, sum_parts u v, sum_parts (f +ℤ g) (u +ℤ v))

pub nonzero_total : (σ : Assignment) (es : List Entry) → total (chosen σ (nonzero es)) ≡ total (chosen σ es)
unfolding nonzero
nonzero_total σ [] = refl
nonzero_total σ (e ∷ es) = go (same e.weight (pos 0)) (same→eq e.weight (pos 0)) (nonzero_total σ es)
  where
    drop : (b : Bool) (w x : ℤ) → w ≡ pos 0 → x ≡ cond b w (pos 0) +ℤ x
    drop b w x h = elim b as (λ b. x ≡ cond b w (pos 0) +ℤ x) [ true ↦ omega (ints, sum_parts w x) | false ↦ sym (+ℤ_idl x) ]

    go : (b : Bool) → (T b → e.weight ≡ pos 0) → total (chosen σ (nonzero es)) ≡ total (chosen σ es)
        → total (chosen σ (cond b (nonzero es) (e ∷ nonzero es))) ≡ total (chosen σ (e ∷ es))
    go true zero ih = ih ∙ drop (holds σ e.literal) e.weight (total (chosen σ es)) (zero tt) ∙ sym (total_cond (holds σ e.literal) e.weight (chosen σ es))
    go false zero ih = total_cond (holds σ e.literal) e.weight (chosen σ (nonzero es))
        ∙ ap (λ x. cond (holds σ e.literal) e.weight (pos 0) +ℤ x) ih ∙ sym (total_cond (holds σ e.literal) e.weight (chosen σ es))
