-- What the table's tests on rows tell: whether an atom or a literal is on the trail, and that a call is refused and changes nothing,
-- or has its effect where no refusal applies.
use mathlib.Core.Path.{◌≡◌, refl, sym, ap, subst}
use mathlib.Core.Bool.{Bool, true, false, not, cond, ◌&&◌}
use mathlib.Core.Logic.{inl, inr, ⊎_elim}
use mathlib.Core.List.{List, [], ◌∷◌}
use Prim.Native.Nat.{ℕ}
use lib.IntN.{ℤ}
use lib.Dec.{T, T_not, eqb, eqb_refl}
use Rattle.meaning.specs.Meaning.{atom, same, On, Each}
use Rattle.book.specs.Rows.{any}
use Rattle.book.specs.Table.{State, Call, refused, Refusal, Outcome, unchanged, decided, refuse_if, refusals, effect, reply}
use Rattle.book.specs.Means.{Among}
use Rattle.meaning.proofs.Members.{same→eq}

-- by a test: what holds of both branches, each where its test holds, holds of the choice
pub either : {A : Type 0} (P : A → Type 0) (b : Bool) {x y : A} → (T b → P x) → (T (not b) → P y) → P (cond b x y)
either P true f g = f tt
either P false f g = g tt

pub either₂ : {A B : Type 0} (P : A → B → Type 0) (b : Bool) {x y : A} {x' y' : B} → (T b → P x x') → (T (not b) → P y y') → P (cond b x y) (cond b x' y')
either₂ P true f g = f tt
either₂ P false f g = g tt

-- ---- membership of literals

pub among_on : (l : ℤ) (t : List ℤ) → Among l t → On (atom l) t
among_on l [] h = h
among_on l (x ∷ xs) (inl e) = inl (ap atom (sym e))
among_on l (x ∷ xs) (inr h) = inr (among_on l xs h)

pub any_told : (p : ℤ → Bool) (ls : List ℤ) → T (any p ls) → (m : ℤ) × Among m ls × T (p m)
unfolding any
any_told p [] h = absurd h
any_told p (x ∷ xs) h =
    either (λ b. T b → (m : ℤ) × Among m (x ∷ xs) × T (p m)) (p x) (λ t _. (x, inl refl, t))
    (λ _ k. let y = any_told p xs k in (y.0, inr y.1, y.2)) h

pub any_tells : (p : ℤ → Bool) (ls : List ℤ) (m : ℤ) → Among m ls → T (p m) → T (any p ls)
unfolding any
any_tells p [] m a h = a
any_tells p (x ∷ xs) m a h =
    either T (p x) (λ _. tt)
    (λ n. ⊎_elim (λ e. absurd (T_not (p x) n (subst (λ y. T (p y)) e h))) (λ k. any_tells p xs m k h) a)

-- none, and none further on
module _ (p : ℤ → Bool) (x : ℤ) (xs : List ℤ) (t : T (not (any p (x ∷ xs)))) where
  pub none_first : T (not (p x))
  unfolding any
  none_first = go (p x) t
    where
      go : (b : Bool) → T (not (cond b true (any p xs))) → T (not b)
      go true t = absurd t
      go false t = tt

  pub none_rest : T (not (any p xs))
  unfolding any
  none_rest = either (λ b. T (not b) → T (not (any p xs))) (p x) (λ _ n. absurd n) (λ _ n. n) t

pub on_tells : (a : ℕ) (t : List ℤ) → On a t → T (any (λ l. eqb (atom l) a) t)
unfolding any
on_tells a [] o = o
on_tells a (l ∷ t) o =
    either T (eqb (atom l) a) (λ _. tt)
    (λ n. ⊎_elim (λ e. absurd (T_not (eqb (atom l) a) n (subst (λ x. T (eqb (atom l) x)) e (eqb_refl (atom l))))) (on_tells a t) o)

pub stands_told : (l : ℤ) (t : List ℤ) → T (any (same l) t) → Among l t
stands_told l t h = let x = any_told (same l) t h in subst (λ k. Among k t) (sym (same→eq l x.0 x.2)) x.1

-- ---- tests of two parts

pub both_told : (b c : Bool) → T (not (not (b && c))) → T b × T c
both_told true true h = (tt, tt)
both_told true false h = absurd h
both_told false c h = absurd h

-- ---- refused, or not

abbrev pub Passed : List Refusal → Type 0
Passed rs = Each (λ r. T (not r.applies)) rs

-- what holds of the unchanged state, and of the effect where no refusal applies, holds of the outcome
decided_is : (P : Outcome → Type 0) (q : State) (rs : List Refusal) (o : Outcome) → ((c n : ℕ) → P (unchanged q (refused c n))) → (Passed rs → P o) → P (decided q rs o)
decided_is P q [] o u f = f tt
decided_is P q (r ∷ rs) o u f = either P r.applies (λ _. u r.code r.value) (λ t. decided_is P q rs o u (λ p. f (t, p)))

-- two effects that are one where no refusal applies
pub decided_under : (q : State) (rs : List Refusal) (o o' : Outcome) → (Passed rs → o ≡ o') → decided q rs o ≡ decided q rs o'
decided_under q [] o o' f = f tt
decided_under q (r ∷ rs) o o' f = either₂ ◌≡◌ r.applies (λ _. refl) (λ t. decided_under q rs o o' (λ p. f (t, p)))

pub reply_is : (P : Outcome → Type 0) (q : State) (x : Call) → ((c n : ℕ) → P (unchanged q (refused c n))) → (Passed (refusals q x) → P (effect q x)) → P (reply q x)
unfolding reply
reply_is P q x u f = decided_is P q (refuse_if 9 q.broken ∷ refusals q x) (effect q x) u (λ p. f p.1)
