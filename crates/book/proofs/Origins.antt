-- The origins of a literal are given literals that were put on no later than it, and it follows from them and all sentences: by
-- induction over the rows, since a derived literal follows from its causes, which stand before it.
use mathlib.Core.Path.{◌≡◌, refl, sym, ◌∙◌, ap, subst}
use mathlib.Core.Bool.{Bool, true, false, cond}
use mathlib.Core.Logic.{◌⊎◌, inl, inr, ⊎_elim}
use mathlib.Core.List.{List, [], ◌∷◌}
use Prim.Native.Nat.{ℕ}
use native.Mathlib.Omega.{arith}
use lib.IntN.{ℤ}
use lib.Dec.{T, eqb, eqb→eq}
use borrow.Author.Tests.{eq-eqb, ne_eqb}
use Rattle.meaning.specs.Meaning.{Assignment, atom, holds, same, Sentence, Satisfied, On, Each}
use Rattle.meaning.specs.Merge.{rule_of, scope}
use Rattle.book.specs.Rows.{Row, trail, causes, Standpoint, row_of, numbered, any, comes_from, origins}
use Rattle.book.specs.Table.{Judged, scopes}
use Rattle.meaning.proofs.Orders.{is_true, is_false}
use Rattle.meaning.proofs.Members.{same→eq, eq→same}
use Rattle.book.proofs.Number.{numbered_each, numbered_positive}
use Rattle.book.specs.Means.{Among, NoTwice, GivenNoLater, OriginList}
use Rattle.book.proofs.Tests.{either, either₂, among_on, any_told, any_tells}
use Rattle.book.specs.Sound.{JudgesAll, RowReasoned, Sound, Blind}
use Rattle.book.proofs.Sound.{consistent}
use Rattle.book.proofs.Blind.{causes_from, agrees_each, each_agrees, forced_by_causes}
use Rattle.book.proofs.Explained.{scope_numbered}
use Rattle.book.proofs.InOrder.{order_from, order_all, order_no_twice, order_ordered}

-- ---- what the test of an origin tells, over any scopes

module _ (sc : List (List ℕ)) where
  -- the test at the literal's own row
  abbrev own : Row → List Row → ℤ → ℤ → Bool
  own r rs l o = cond (eqb r.reason 0) (same l o) (any (λ m. comes_from sc rs m o) (causes (trail rs) (numbered [] r.reason sc)))

  own_told : (r : Row) (rs : List Row) (l o : ℤ) → T (own r rs l o) → ((r.reason ≡ 0) × (l ≡ o)) ⊎ ((m : ℤ) × T (comes_from sc rs m o))
  own_told r rs l o h =
      either (λ b. T b → ((r.reason ≡ 0) × (l ≡ o)) ⊎ ((m : ℤ) × T (comes_from sc rs m o))) (eqb r.reason 0) (λ y k. inl (eqb→eq r.reason 0 y, same→eq l o k))
      (λ _ k. let x = any_told (λ m. comes_from sc rs m o) (causes (trail rs) (numbered [] r.reason sc)) k in inr (x.0, x.2)) h

  from_among : (rs : List Row) (l o : ℤ) → T (comes_from sc rs l o) → Among o (trail rs)
  unfolding comes_from
  from_among [] l o h = absurd h
  from_among (r ∷ rs) l o h =
      either (λ b. T b → Among o (trail (r ∷ rs))) (same r.literal l)
      (λ y k. ⊎_elim (λ x. inl (sym (same→eq r.literal l y ∙ x.1))) (λ x. inr (from_among rs x.0 o x.1)) (own_told r rs l o k))
      (λ _ k. inr (from_among rs l o k)) h

  from_no_later : (rs : List Row) (l o : ℤ) → T (comes_from sc rs l o) → Among o (l ∷ trail (row_of l rs).before)
  unfolding comes_from row_of
  from_no_later [] l o h = absurd h
  from_no_later (r ∷ rs) l o h =
      either₂ (λ b (x : Standpoint). T b → Among o (l ∷ trail x.before)) (same r.literal l)
      (λ _ k. ⊎_elim (λ x. inl (sym x.1)) (λ x. inr (from_among rs x.0 o x.1)) (own_told r rs l o k)) (λ _. from_no_later rs l o) h

-- ---- over sound rows

module _ (n : ℕ) (ss : List Sentence) where
  differs : (v : ℕ) (r : Row) (rs : List Row) (o : ℤ) → Sound n ss v (r ∷ rs) → Among o (trail rs) → same r.literal o ≡ false
  differs v r rs o h a = is_false (λ y. h.0.off (subst (λ x. On (atom x) (trail rs)) (sym (same→eq r.literal o y)) (among_on o (trail rs) a)))

  row_later : (v : ℕ) (r : Row) (rs : List Row) (o : ℤ) → Sound n ss v (r ∷ rs) → Among o (trail rs) → row_of o (r ∷ rs) ≡ row_of o rs
  unfolding row_of
  row_later v r rs o h a = ap {B = Standpoint} (λ b. cond b (record { mine = r; before = rs }) (row_of o rs)) (differs v r rs o h a)

  row_here : (r : Row) (rs : List Row) (o : ℤ) → r.literal ≡ o → row_of o (r ∷ rs) ≡ record { mine = r; before = rs }
  unfolding row_of
  row_here r rs o e =
      ap {B = Standpoint} (λ b. cond b (record { mine = r; before = rs }) (row_of o rs)) (is_true {b = same r.literal o} (eq→same r.literal o e))

  trail_no_twice : (v : ℕ) (rs : List Row) → Sound n ss v rs → NoTwice (trail rs)
  trail_no_twice v [] h = tt
  trail_no_twice v (r ∷ rs) h = ((λ a. h.0.off (among_on r.literal (trail rs) a)), trail_no_twice r.level rs h.1)

  from_given : (sc : List (List ℕ)) (v : ℕ) (rs : List Row) (l o : ℤ) → Sound n ss v rs → T (comes_from sc rs l o) → (row_of o rs).mine.reason ≡ 0
  unfolding comes_from
  from_given sc v [] l o h k = absurd k
  from_given sc v (r ∷ rs) l o h k =
      let earlier : (m : ℤ) → T (comes_from sc rs m o) → (row_of o (r ∷ rs)).mine.reason ≡ 0 =
      λ m i. ap (λ (p : Standpoint). p.mine.reason) (row_later v r rs o h (from_among sc rs m o i)) ∙ from_given sc r.level rs m o h.1 i in
      either (λ b. T b → (row_of o (r ∷ rs)).mine.reason ≡ 0) (same r.literal l)
      (λ y i. ⊎_elim (λ x. ap (λ (p : Standpoint). p.mine.reason) (row_here r rs o (same→eq r.literal l y ∙ x.1)) ∙ x.0) (λ x. earlier x.0 x.1) (own_told sc r rs l o i))
      (λ _ i. earlier l i) k

  module _ (js : List Judged) (blind : Each Blind ss) (m : JudgesAll ss js) where
    abbrev sc : List (List ℕ)
    sc = scopes js

    -- an assignment that satisfies all sentences and gives the origins of l gives l
    from_entails : (σ : Assignment) → Each (Satisfied σ) ss → (v : ℕ) (rs : List Row) → Sound n ss v rs
        → (l : ℤ) → Among l (trail rs) → ((o : ℤ) → T (comes_from sc rs l o) → holds σ o ≡ true) → holds σ l ≡ true
    unfolding comes_from
    from_entails σ sat v [] h l a g = absurd a
    from_entails σ sat v (r ∷ rs) h l (inr a) g =
        from_entails σ sat r.level rs h.1 l a (λ o k. g o (subst (λ b. T (cond b (own sc r rs l o) (comes_from sc rs l o))) (sym (differs v r rs l h a)) k))
    from_entails σ sat v (r ∷ rs) h l (inl e) g = go h.0.reason_is (from_entails σ sat r.level rs h.1)
      where
        at_own : (o : ℤ) → T (own sc r rs l o) → T (cond (same r.literal l) (own sc r rs l o) (comes_from sc rs l o))
        at_own o k =
            subst (λ b. T (cond b (own sc r rs l o) (comes_from sc rs l o)))
            (sym (is_true {b = same r.literal l} (eq→same r.literal l (sym e)))) k

        itself : r.reason ≡ 0 → T (own sc r rs l l)
        itself z =
            subst (λ b. T (cond b (same l l) (any (λ m. comes_from sc rs m l) (causes (trail rs) (numbered [] r.reason sc)))))
            (sym (eq-eqb r.reason 0 z)) (eq→same l l refl)

        through : (o k : ℤ) (z : RowReasoned n ss r rs) → Among k (causes (trail rs) (scope (rule_of z.sentence))) → T (comes_from sc rs k o) → T (own sc r rs l o)
        through o k z i c =
            let p = numbered_positive r.reason ss z.sentence z.number in
            subst (λ b. T (cond b (same l o) (any (λ m. comes_from sc rs m o) (causes (trail rs) (numbered [] r.reason sc)))))
            (sym (ne_eqb r.reason 0 (λ y. omega (arith, p, y))))
            (any_tells (λ m. comes_from sc rs m o) (causes (trail rs) (numbered [] r.reason sc)) k
            (subst (λ x. Among k (causes (trail rs) x)) (sym (scope_numbered r.reason ss js z.sentence m z.number)) i) c)

        go : (r.reason ≡ 0) ⊎ RowReasoned n ss r rs → ((k : ℤ) → Among k (trail rs) → ((o : ℤ) → T (comes_from sc rs k o) → holds σ o ≡ true) → holds σ k ≡ true) → holds σ l ≡ true
        go (inl z) ih = g l (at_own l (itself z))
        go (inr z) ih =
            ap (holds σ) e
            ∙ forced_by_causes z.sentence (numbered_each Blind r.reason ss z.sentence z.number blind) (trail rs) (consistent n ss r.level rs h.1) σ
            (numbered_each (Satisfied σ) r.reason ss z.sentence z.number sat)
            (each_agrees σ (causes (trail rs) (scope (rule_of z.sentence)))
            (λ k i. ih k (causes_from (trail rs) (scope (rule_of z.sentence)) k i) (λ o c. g o (at_own o (through o k z i c)))))
            r.literal z.inside z.forces

    each_of : (P : ℤ → Type 0) (ls : List ℤ) → ((o : ℤ) → Among o ls → P o) → Each P ls
    each_of P [] f = tt
    each_of P (x ∷ xs) f = (f x (inl refl), each_of P xs (λ o k. f o (inr k)))

    pub originates : (v : ℕ) (rows : List Row) → Sound n ss v rows → (l : ℤ) → Among l (trail rows) → OriginList ss rows l (origins sc rows l)
    originates v rows h l a = record {
      given = each_of (GivenNoLater rows l) (origins sc rows l) (λ o k.
          let x = order_from (comes_from sc rows l) (trail rows) o k in
          record { no_later = from_no_later sc rows l o x.1; given = from_given sc v rows l o h x.1 });
      entailed = λ σ g sat. from_entails σ sat v rows h l a (λ o k.
          agrees_each σ (origins sc rows l) o g (order_all (comes_from sc rows l) (trail rows) o (from_among sc rows l o k) k));
      once = order_no_twice (comes_from sc rows l) (trail rows) (trail_no_twice v rows h);
      ordered = order_ordered (comes_from sc rows l) (trail rows);
    }
