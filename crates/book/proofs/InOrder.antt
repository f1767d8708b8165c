-- The literals of a trail that pass a test, the first put on first: exactly those, in the order of the trail, and none twice where the
-- trail has none twice.
use mathlib.Core.Path.{◌≡◌, refl, sym, subst}
use mathlib.Core.Bool.{Bool, true, false, cond}
use mathlib.Core.Logic.{◌⊎◌, inl, inr, ⊎_elim}
use mathlib.Core.List.{List, [], ◌∷◌, ◌++◌, reverse, reverse-cons}
use lib.IntN.{ℤ}
use lib.Dec.{T}
use Rattle.book.specs.Rows.{in_order}
use Rattle.book.specs.Means.{Among, NoTwice, Subsequence, ends, takes, skips}
use Rattle.book.proofs.Tests.{either}

-- ---- one literal more at the end

among_end : (o l : ℤ) (xs : List ℤ) → Among o (xs ++ (l ∷ [])) → Among o xs ⊎ (o ≡ l)
among_end o l [] (inl e) = inr e
among_end o l [] (inr x) = absurd x
among_end o l (y ∷ ys) (inl e) = inl (inl e)
among_end o l (y ∷ ys) (inr x) = ⊎_elim (λ z. inl (inr z)) inr (among_end o l ys x)

among_front : (o l : ℤ) (xs : List ℤ) → Among o xs → Among o (xs ++ (l ∷ []))
among_front o l [] x = absurd x
among_front o l (y ∷ ys) (inl e) = inl e
among_front o l (y ∷ ys) (inr x) = inr (among_front o l ys x)

among_last : (l : ℤ) (xs : List ℤ) → Among l (xs ++ (l ∷ []))
among_last l [] = inl refl
among_last l (y ∷ ys) = inr (among_last l ys)

-- ---- those that pass

pub order_from : (p : ℤ → Bool) (t : List ℤ) (o : ℤ) → Among o (in_order p t) → Among o t × T (p o)
unfolding in_order
order_from p [] o h = absurd h
order_from p (l ∷ t) o h =
    let wider : Among o (in_order p t) → Among o (l ∷ t) × T (p o) = λ k. let x = order_from p t o k in (inr x.0, x.1) in
    either (λ xs. Among o xs → Among o (l ∷ t) × T (p o)) (p l)
    (λ y k. ⊎_elim wider (λ e. (inl e, subst (λ x. T (p x)) (sym e) y)) (among_end o l (in_order p t) k)) (λ _. wider) h

pub order_all : (p : ℤ → Bool) (t : List ℤ) (o : ℤ) → Among o t → T (p o) → Among o (in_order p t)
unfolding in_order
order_all p [] o a h = a
order_all p (l ∷ t) o a h = go (p l) (λ e. subst (λ x. T (p x)) e h) a (λ k. order_all p t o k h)
  where
    go : (b : Bool) → (o ≡ l → T b) → (o ≡ l) ⊎ Among o t → (Among o t → Among o (in_order p t)) → Among o (cond b (in_order p t ++ (l ∷ [])) (in_order p t))
    go true y (inl e) ih = subst (λ x. Among x (in_order p t ++ (l ∷ []))) (sym e) (among_last l (in_order p t))
    go true y (inr k) ih = among_front o l (in_order p t) (ih k)
    go false y (inl e) ih = absurd (y e)
    go false y (inr k) ih = ih k

-- ---- none twice

no_twice_end : (l : ℤ) (xs : List ℤ) → ¬ (Among l xs) → NoTwice xs → NoTwice (xs ++ (l ∷ []))
no_twice_end l [] n d = ((λ x. x), tt)
no_twice_end l (x ∷ xs) n d =
    ((λ k. ⊎_elim d.0 (λ e. n (inl (sym e))) (among_end x l xs k)), no_twice_end l xs (λ k. n (inr k)) d.1)

pub order_no_twice : (p : ℤ → Bool) (t : List ℤ) → NoTwice t → NoTwice (in_order p t)
unfolding in_order
order_no_twice p [] d = tt
order_no_twice p (l ∷ t) d =
    let ih = order_no_twice p t d.1 in
    either NoTwice (p l) (λ _. no_twice_end l (in_order p t) (λ k. d.0 (order_from p t l k).0) ih) (λ _. ih)

-- ---- in the order of the trail

take_end : {xs ys : List ℤ} (l : ℤ) → Subsequence xs ys → Subsequence (xs ++ (l ∷ [])) (ys ++ (l ∷ []))
take_end l ends = takes ends
take_end l (takes s) = takes (take_end l s)
take_end l (skips s) = skips (take_end l s)

skip_end : {xs ys : List ℤ} (l : ℤ) → Subsequence xs ys → Subsequence xs (ys ++ (l ∷ []))
skip_end l ends = skips ends
skip_end l (takes s) = takes (skip_end l s)
skip_end l (skips s) = skips (skip_end l s)

pub order_ordered : (p : ℤ → Bool) (t : List ℤ) → Subsequence (in_order p t) (reverse t)
unfolding in_order
order_ordered p [] = ends
order_ordered p (l ∷ t) =
    let ih = order_ordered p t in
    subst (Subsequence (in_order p (l ∷ t))) (sym (reverse-cons l t))
    (either (λ xs. Subsequence xs (reverse t ++ (l ∷ []))) (p l) (λ _. take_end l ih) (λ _. skip_end l ih))
