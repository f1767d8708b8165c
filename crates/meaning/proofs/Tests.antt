-- What the tests of Checks.antt mean: a consistent trail, an admissible sentence, equal values.
use mathlib.Core.Path.{◌≡◌, refl, ◌∙◌, ap, subst}
use mathlib.Core.Bool.{Bool, true, false, not, cond, ◌&&◌}
use mathlib.Core.List.{List, [], ◌∷◌}
use Prim.Native.Nat.{◌≤◌}
use lib.IntN.{ℤ}
use lib.Dec.{T, T_not, eqb, eqb_refl, leb, leb→le}
use Rattle.numbers.specs.Extended.{Extended, le_e}
use Rattle.meaning.specs.Meaning.{Said, silent, conflict, forced, atom, truth, Consistent, Entry, entry_atom, Kind, Sentence, same, Each, weighable, mixes, OneSigned, Admissible}
use Rattle.meaning.specs.Computed.{Standing, free, fixed, standing_of}
use Rattle.meaning.proofs.Checks.{allows, consistent, every, agreeing, one_signed, fits, signs, admissible, same_value, same_said}
use Rattle.meaning.proofs.Orders.{is_true, le_e_antisym}
use Rattle.meaning.proofs.Trails.{fixed_agrees, put_on_free}
use Rattle.meaning.proofs.Verdicts.{and_first, and_second}
use Rattle.meaning.proofs.Members.{same→eq}

-- ---- a trail: each literal is put on a free atom, or once more

pub consistent_is : (t : List ℤ) → T (consistent t) → Consistent t
consistent_is [] h = ((λ a. false), tt)
consistent_is (l ∷ t) h = go (standing_of t (atom l)) refl (and_first (allows (standing_of t (atom l)) l) (consistent t) h)
    (consistent_is t (and_second (allows (standing_of t (atom l)) l) (consistent t) h))
  where
    go : (x : Standing) → standing_of t (atom l) ≡ x → T (allows x l) → Consistent t → Consistent (l ∷ t)
    go free e h c = put_on_free l t e c
    go (fixed b) e h c = (c.0, (ap (truth l) (fixed_agrees c.0 t (atom l) b c.1 e) ∙ is_true h, c.1))

-- ---- a sentence

pub every_is : {A : Type 0} (p : A → Bool) (P : A → Type 0) → ((x : A) → T (p x) → P x) → (xs : List A) → T (every p xs) → Each P xs
every_is p P f [] h = tt
every_is p P f (x ∷ xs) h = (f x (and_first (p x) (every p xs) h), every_is p P f xs (and_second (p x) (every p xs) h))

agreeing_is : (e x : Entry) → T (agreeing e x) → entry_atom x ≡ entry_atom e → x.literal ≡ e.literal
agreeing_is e x h q = same→eq x.literal e.literal
    ((elim (eqb (entry_atom x) (entry_atom e)) as (λ b. T b → T (cond b (same x.literal e.literal) true) → T (same x.literal e.literal))
    [ true ↦ λ t h. h | false ↦ λ t. absurd t ]) (subst (λ a. T (eqb (entry_atom x) a)) q (eqb_refl (entry_atom x))) h)

one_signed_is : (es : List Entry) → T (one_signed es) → OneSigned es
one_signed_is [] h = tt
one_signed_is (e ∷ es) h = (
  every_is (agreeing e) (λ x. entry_atom x ≡ entry_atom e → x.literal ≡ e.literal) (agreeing_is e) es (and_first (every (agreeing e) es) (one_signed es) h),
  one_signed_is es (and_second (every (agreeing e) es) (one_signed es) h),
)

signs_is : (k : Kind) (es : List Entry) → T (signs k es) → T (not (mixes k)) → OneSigned es
signs_is k es h n =
    one_signed_is es ((elim (mixes k) as (λ b. T (cond b true (one_signed es)) → T (not b) → T (one_signed es)) [ true ↦ λ h n. absurd n | false ↦ λ h n. h ]) h n)

pub admissible_is : (s : Sentence) → T (admissible s) → Admissible s
admissible_is s h =
    let k = s.kind in
    let es = s.entries in
    let all = and_first (every (fits s.head k) es) (signs k es) h in
    record {
      literals = every_is (fits s.head k) (λ e. 1 ≤ entry_atom e) (λ e t. leb→le 1 (entry_atom e) (and_first (leb 1 (entry_atom e)) (rest e) t)) es all;
      weights = every_is (fits s.head k) (λ e. T (weighable k e.weight))
          (λ e t. and_first (weighable k e.weight) (not (eqb (entry_atom e) s.head)) (and_second (leb 1 (entry_atom e)) (rest e) t)) es all;
      headless = every_is (fits s.head k) (λ e. ¬ (entry_atom e ≡ s.head))
          (λ e t q. T_not (eqb (entry_atom e) s.head) (and_second (weighable k e.weight) (not (eqb (entry_atom e) s.head)) (and_second (leb 1 (entry_atom e)) (rest e) t))
          (subst (λ a. T (eqb (entry_atom e) a)) q (eqb_refl (entry_atom e)))) es all;
      signs = signs_is k es (and_second (every (fits s.head k) es) (signs k es) h);
    }
  where
    rest : Entry → Bool
    rest e = weighable s.kind e.weight && not (eqb (entry_atom e) s.head)

-- ---- equality of values, and of what is said

pub same_value_is : (v w : Extended) → T (same_value v w) → v ≡ w
same_value_is v w h = le_e_antisym v w (and_first (le_e v w) (le_e w v) h) (and_second (le_e v w) (le_e w v) h)

pub same_said_is : (x y : Said) → T (same_said x y) → x ≡ y
same_said_is silent y = elim y as (λ y. T (same_said silent y) → silent ≡ y) [ silent ↦ λ h. refl | conflict ↦ absurd | forced m ↦ absurd ]
same_said_is conflict y = elim y as (λ y. T (same_said conflict y) → conflict ≡ y) [ silent ↦ absurd | conflict ↦ λ h. refl | forced m ↦ absurd ]
same_said_is (forced l) y = elim y as (λ y. T (same_said (forced l) y) → (forced l) ≡ y) [ silent ↦ absurd | conflict ↦ absurd | forced m ↦ λ h. ap forced (same→eq l m h) ]
