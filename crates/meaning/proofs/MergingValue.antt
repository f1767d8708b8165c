-- Joining the entries of one literal keeps the value, whichever literals are true: two entries of one literal contribute together or not
-- at all, the weight that joins them gives what the two give, and the order of contributions does not matter.
use mathlib.Core.Path.{◌≡◌, refl, sym, ◌∙◌, ap}
use mathlib.Core.Bool.{Bool, true, false, cond}
use mathlib.Core.List.{List, [], ◌∷◌}
use lib.IntN.{ℤ, pos}
use lib.Signed.{le_z}
use lib.Dec.{T}
use Rattle.numbers.specs.Extended.{Extended, below, at, above}
use Rattle.meaning.specs.Meaning.{Assignment, holds, Entry, chosen, Kind, sum, product, count, maximum, minimum, aggregate, empty, multiplied, same, weights_of}
use Rattle.meaning.specs.Merge.{joined, put, collect, merge}
use Rattle.meaning.specs.Computed.{combine, gather}
use Rattle.meaning.proofs.Orders.{combine_assoc, combine_empty, empty_combine}
use Rattle.meaning.proofs.Gather.{gather_last, gather_chosen}
use Rattle.meaning.proofs.Members.{join, same→eq}

at_cond : (b : Bool) (v w : ℤ) → at (cond b v w) ≡ cond b (at v) (at w)
at_cond b v w = elim b as (λ b. at (cond b v w) ≡ cond b (at v) (at w)) [ true ↦ refl | false ↦ refl ]

at_joined : (k : Kind) (v w : ℤ) → at (joined k v w) ≡ combine k (at v) (at w)
at_joined k v w = elim k as (λ k. at (joined k v w) ≡ combine k (at v) (at w)) [ sum ↦ refl | product ↦ refl | count ↦ refl | maximum ↦ at_cond (le_z v w) w v | minimum ↦ at_cond (le_z v w) v w ]

-- over any choice of literals
module _ (k : Kind) (t : ℤ → Bool) where
  abbrev given_by : Entry → Extended
  given_by e = cond (t e.literal) (at e.weight) (empty k)

  join_value : (x e : Entry) → x.literal ≡ e.literal → given_by (join k x e) ≡ combine k (given_by x) (given_by e)
  join_value x e same =
      (elim (t x.literal) as (λ b. cond b (at (joined k x.weight e.weight)) (empty k) ≡ combine k (cond b (at x.weight) (empty k)) (cond b (at e.weight) (empty k)))
      [ true ↦ at_joined k x.weight e.weight | false ↦ sym (empty_combine k (empty k)) ])
      ∙ ap (λ l. combine k (given_by x) (cond (t l) (at e.weight) (empty k))) same

  put_value : (v : Extended) (xs : List Entry) (e : Entry) → gather k given_by v (put k xs e) ≡ combine k (gather k given_by v xs) (given_by e)
  unfolding gather put
  put_value v [] e = refl
  put_value v (x ∷ xs) e = go (same x.literal e.literal) (same→eq x.literal e.literal) (put_value (combine k v (given_by x)) xs e)
    where
      go : (b : Bool) → (T b → x.literal ≡ e.literal)
          → gather k given_by (combine k v (given_by x)) (put k xs e) ≡ combine k (gather k given_by (combine k v (given_by x)) xs) (given_by e)
          → gather k given_by v (cond b (join k x e ∷ xs) (x ∷ put k xs e)) ≡ combine k (gather k given_by (combine k v (given_by x)) xs) (given_by e)
      go true eq ih = ap (λ u. gather k given_by u xs) (ap (combine k v) (join_value x e (eq tt)) ∙ sym (combine_assoc k v (given_by x) (given_by e)))
          ∙ gather_last k given_by (combine k v (given_by x)) (given_by e) xs
      go false eq ih = ih

  collect_value : (v : Extended) (xs es : List Entry) → gather k given_by v (collect k xs es) ≡ gather k given_by (gather k given_by v xs) es
  unfolding gather collect
  collect_value v xs [] = refl
  collect_value v xs (e ∷ es) = collect_value v (put k xs e) es ∙ ap (λ u. gather k given_by u es) (put_value v xs e)

-- ---- over the literals that an assignment makes true

aggregate_gather : (k : Kind) (σ : Assignment) (es : List Entry) → aggregate k (chosen σ es) ≡ gather k (given_by k (holds σ)) (empty k) es
aggregate_gather k σ es = sym (gather_chosen k σ (empty k) es ∙ empty_combine k (aggregate k (chosen σ es)))

pub collect_keeps_value : (k : Kind) (es : List Entry) (σ : Assignment) → aggregate k (chosen σ (collect k [] es)) ≡ aggregate k (chosen σ es)
unfolding gather
collect_keeps_value k es σ = aggregate_gather k σ (collect k [] es) ∙ collect_value k (holds σ) (empty k) [] es ∙ sym (aggregate_gather k σ es)

-- ---- over all: the product of the weights

multiplied_gather : (v : Extended) (es : List Entry) → gather product (given_by product (λ l. true)) v es ≡ combine product v (at (multiplied (weights_of es)))
unfolding gather
multiplied_gather v [] = sym (combine_empty product v)
multiplied_gather v (e ∷ es) =
    multiplied_gather (combine product v (at e.weight)) es ∙ combine_assoc product v (at e.weight) (at (multiplied (weights_of es)))

weights_gather : (es : List Entry) → at (multiplied (weights_of es)) ≡ gather product (given_by product (λ l. true)) (empty product) es
weights_gather es = sym (multiplied_gather (empty product) es ∙ empty_combine product (at (multiplied (weights_of es))))

integer : Extended → ℤ
integer below = pos 0
integer (at z) = z
integer above = pos 0

pub merge_product : (es : List Entry) → multiplied (weights_of (merge product es).entries) ≡ multiplied (weights_of es)
unfolding gather integer
merge_product es = ap integer (weights_gather (collect product [] es) ∙ collect_value product (λ l. true) (empty product) [] es ∙ sym (weights_gather es))
