-- The book's origins are the given literals that are reached: a literal has one position on the trail of a whole area, so that the test
-- of the book at a literal is the test at its own row, and its causes stand at positions before it.
use mathlib.Core.Path.{◌≡◌, refl, sym, ◌∙◌, ap, ap₂, subst}
use mathlib.Core.Bool.{Bool, true, false, not, cond, ◌&&◌}
use mathlib.Core.Logic.{◌⊎◌, inl, inr, ⊎_elim}
use mathlib.Core.List.{List, [], ◌∷◌, ◌++◌}
use Prim.Native.Nat.{ℕ, zero, suc, ◌-◌, ◌<◌, ◌≤◌}
use native.Mathlib.Omega.{arith}
use native.Mathlib.Nat.{eq-or-lt_of_le}
use lib.ListN.{get_or}
use lib.IntN.{ℤ}
use lib.Dec.{T, eqb, eqb→eq, T_not}
use borrow.Author.Tests.{eq-eqb, ne_eqb, eqb-false}
use Rattle.types.specs.declared.Limits.{Limits}
use Rattle.numbers.proofs.Words.{same_test}
use Rattle.meaning.specs.Meaning.{atom, same}
use Rattle.meaning.specs.Merge.{scope}
use Rattle.meaning.proofs.Orders.{is_true, is_false, T_true}
use Rattle.meaning.proofs.Verdicts.{and_first, and_second}
use Rattle.meaning.proofs.Members.{same→eq, eq→same}
use Rattle.book.specs.Rows.{trail, causes, numbered, any, comes_from, in_order}
use Rattle.book.specs.Table.{scopes}
use Rattle.book.specs.Book.{Counters, judged_all}
use Rattle.book.specs.Means.{Among}
use Rattle.book.proofs.Tests.{any_told, any_tells}
use Rattle.book.proofs.Blind.{causes_from}
use Rattle.area.specs.Layout.{atoms_of, sentences_of, length_of, literal_at, row_at, rows_from, record_at, rule_at, theory_of}
use Rattle.area.specs.Whole.{Whole}
use Rattle.trail_check.proofs.Rows.{atom_of, place_unique}
use Rattle.causes.proofs.Rows.{among_row}
use Rattle.causes.proofs.Gives.{scope_numbered}
use Rattle.marking.specs.Inner.Marks.{Marked, Cause, Reached, start, next, Adds}
use Rattle.chosen.specs.Inner.Chosen.{origin_marked, chosen_literals}

-- ---- of any lists

marked_told : (m : List ℕ) (i : ℕ) → T (not (eqb (get_or m i 0) 0)) → Marked m i
marked_told m i t =
    let d : ¬ (get_or m i 0 ≡ 0) = λ z. T_not (eqb (get_or m i 0) 0) t (T_true (eq-eqb (get_or m i 0) 0 z)) in omega (arith, d)

chosen_tells : (w : List ℕ) (n : ℕ) (m : List ℕ) (i : ℕ) → Marked m i → (row_at w n i).reason ≡ 0 → T (origin_marked w n m i)
chosen_tells w n m i x e =
    subst T (sym (ap₂ {A = Bool} {B = Bool} (λ b d. not b && d) (ne_eqb (get_or m i 0) 0 (λ z. omega arith)) (eq-eqb (row_at w n i).reason 0 e))) tt

module _ (lim : Limits) (w : List ℕ) (c : Counters) (h : Whole lim w c) where
  abbrev n : ℕ
  n = atoms_of w

  abbrev S : ℕ
  S = sentences_of w

  abbrev len : ℕ
  len = length_of w

  abbrev lit : ℕ → ℤ
  lit i = (row_at w n i).literal

  abbrev sc : List (List ℕ)
  sc = scopes (judged_all (theory_of w))

  one_position : (i j : ℕ) → i < len → j < len → lit i ≡ lit j → i ≡ j
  one_position i j l m e =
      place_unique w n len i j l m h.trail_right.atoms (sym (atom_of (literal_at w n i)) ∙ ap {A = ℤ} atom e ∙ atom_of (literal_at w n j))

  -- ---- the test at a literal's own row

  abbrev from : ℕ → ℤ → ℤ → Bool
  from k l o = comes_from sc (rows_from w n k) l o

  -- the causes that the row at p names
  abbrev own_causes : ℕ → List ℤ
  own_causes p = causes (trail (rows_from w n p)) (numbered [] (row_at w n p).reason sc)

  -- the test at a row, for literal l
  abbrev row_test : ℕ → ℤ → ℤ → Bool
  row_test p l o = cond (eqb (row_at w n p).reason 0) (same l o) (any (λ m. from p m o) (own_causes p))

  abbrev own : ℕ → ℤ → Bool
  own p o = row_test p (lit p) o

  at_own_row : (p k : ℕ) (o : ℤ) → p < k → k ≤ len → from k (lit p) o ≡ own p o
  unfolding comes_from rows_from
  at_own_row p zero o l m = let b : ⊥ = omega arith in absurd b
  at_own_row p (suc k) o l m =
      ⊎_elim {A = p ≡ k} {B = p < k}
      (λ (e : p ≡ k). subst (λ j. from (suc k) (lit j) o ≡ own j o) (sym e) here)
      (λ (q : p < k). earlier q ∙ at_own_row p k o q (omega arith))
      (eq-or-lt_of_le (omega arith))
    where
      here : from (suc k) (lit k) o ≡ own k o
      here = ap {A = Bool} (λ b. cond b (own k o) (from k (lit k) o)) (is_true {b = same (lit k) (lit k)} (eq→same (lit k) (lit k) refl))

      earlier : p < k → from (suc k) (lit p) o ≡ from k (lit p) o
      earlier q =
          ap {A = Bool} (λ b. cond b (row_test k (lit p) o) (from k (lit p) o))
          (is_false {b = same (lit k) (lit p)} (λ t. let e = one_position k p (omega arith) (omega arith) (same→eq (lit k) (lit p) t) in omega arith))

  own_given : (p : ℕ) (o : ℤ) → (row_at w n p).reason ≡ 0 → lit p ≡ o → T (own p o)
  own_given p o e d =
      subst (λ b. T (cond b (same (lit p) o) (any (λ m. from p m o) (own_causes p))))
      (sym (eq-eqb (row_at w n p).reason 0 e)) (eq→same (lit p) o d)

  module _ (p s : ℕ) (l : p < len) (e : (row_at w n p).reason ≡ suc s) where
    own_scope : numbered [] (row_at w n p).reason sc ≡ scope (rule_at w n S (record_at n s))
    own_scope = ap {A = ℕ} (λ k. numbered [] k sc) e ∙ scope_numbered w s (omega (arith, (h.reasons p l).few))

    own_derived : (o m : ℤ) → Among m (causes (trail (rows_from w n p)) (scope (rule_at w n S (record_at n s)))) → T (from p m o) → T (own p o)
    own_derived o m a t =
        subst (λ b. T (cond b (same (lit p) o) (any (λ m. from p m o) (own_causes p))))
        (sym (ne_eqb (row_at w n p).reason 0 (λ z. omega arith)))
        (any_tells (λ m. from p m o) (own_causes p) m
        (subst (λ x. Among m (causes (trail (rows_from w n p)) x)) (sym own_scope) a) t)

  -- what the test at position p tells: it was given and is o, or o comes from a cause
  own_told : (p : ℕ) (o : ℤ) → p < len → T (own p o) → (((row_at w n p).reason ≡ 0) × (lit p ≡ o)) ⊎ ((i : ℕ) × Cause w n S p i × T (from p (lit i) o))
  own_told p o l t = go (eqb (row_at w n p).reason 0) (λ y. eqb→eq (row_at w n p).reason 0 y) (λ e. eqb-false (row_at w n p).reason 0 e) t
    where
      derived : (s : ℕ) → (row_at w n p).reason ≡ suc s → T (any (λ m. from p m o) (own_causes p)) → (i : ℕ) × Cause w n S p i × T (from p (lit i) o)
      derived s e u =
          let x = any_told (λ m. from p m o) (own_causes p) u in
          let y = among_row w n x.0 p (causes_from (trail (rows_from w n p)) (numbered [] (row_at w n p).reason sc) x.0 x.1) in (
            y.0,
            record {
              sentence = s;
              reason = e;
              named = record {
                earlier = y.1;
                among = subst (λ m. Among m (causes (trail (rows_from w n p)) (scope (rule_at w n S (record_at n s))))) (sym y.2)
                    (subst (λ a. Among x.0 (causes (trail (rows_from w n p)) a)) (own_scope p s l e) x.1);
              };
            },
            subst (λ m. T (from p m o)) (sym y.2) x.2,
          )

      go : (b : Bool) → (T b → (row_at w n p).reason ≡ 0) → (b ≡ false → ¬ ((row_at w n p).reason ≡ 0))
          → T (cond b (same (lit p) o) (any (λ m. from p m o) (own_causes p)))
          → (((row_at w n p).reason ≡ 0) × (lit p ≡ o)) ⊎ ((i : ℕ) × Cause w n S p i × T (from p (lit i) o))
      go true y z u = inl (y tt, same→eq (lit p) o u)
      go false y z u = let d = z refl in inr (derived ((row_at w n p).reason - 1) (omega (arith, d)) u)

  -- ---- along causes

  through : (k j : ℕ) (o : ℤ) → k < len → Cause w n S k j → T (from len (lit j) o) → T (from len (lit k) o)
  through k j o l x t =
      let f = x.named.earlier in
      subst T (sym (at_own_row k len o l (omega arith)))
      (own_derived k x.sentence l x.reason o (lit j) x.named.among
      (subst T (at_own_row j len o (omega arith) (omega arith) ∙ sym (at_own_row j k o f (omega arith))) t))

  -- a given literal that is reached, and its position
  record Found (p : ℕ) (m : List ℕ) (o : ℤ) : Type 0 where
    pub position : ℕ
    pub within : position < len
    pub literal_is : lit position ≡ o
    pub given : (row_at w n position).reason ≡ 0
    pub reached : Reached w n S p m position

  module _ (p : ℕ) (top : p < len) (m : List ℕ) where
    -- what comes from a reached literal comes from the one that is marked
    back : ((i : ℕ) → Marked m i → i ≡ p) → (o : ℤ) (j : ℕ) → Reached w n S p m j → T (from len (lit j) o) → T (from len (lit p) o)
    back sole o j (start x) t = subst (λ i. T (from len (lit i) o)) (sole j x) t
    back sole o j (next {k} l r x) t = back sole o k r (through k j o (omega arith) x t)

    -- by so many steps at most
    forth : (o : ℤ) (steps q k : ℕ) → q < steps → q ≤ p → q < k → k ≤ len → Reached w n S p m q → T (from k (lit q) o) → Found p m o
    forth o zero q k a b d e r t = let x : ⊥ = omega arith in absurd x
    forth o (suc steps) q k a b d e r t =
        ⊎_elim
        (λ x. record { position = q; within = omega arith; literal_is = x.1; given = x.0; reached = r })
        (λ x.
        let f = x.1.named.earlier in
        forth o steps x.0 q (omega arith) (omega arith) f (omega arith) (next {k = q} b r x.1) x.2)
        (own_told q o (omega arith) (subst T (at_own_row q k o d e) t))

    -- ---- the test of the code is that of the book

    module _ (one : Marked m p) (sole : (i : ℕ) → Marked m i → i ≡ p) (m' : List ℕ) (a : Adds (Reached w n S p m) m m') where
      chosen_is : (j : ℕ) → j < len → origin_marked w n m' j ≡ from len (lit p) (lit j)
      chosen_is j l = same_test (origin_marked w n m' j) (from len (lit p) (lit j)) told tells
        where
          told : T (origin_marked w n m' j) → T (from len (lit p) (lit j))
          told t =
              let b = not (eqb (get_or m' j 0) 0) in
              let d = eqb (row_at w n j).reason 0 in
              let y : Reached w n S p m j = ⊎_elim start (λ r. r) (a.only j (marked_told m' j (and_first b d t))) in
              back sole (lit j) j y
              (subst T (sym (at_own_row j len (lit j) l (omega arith))) (own_given j (lit j) (eqb→eq (row_at w n j).reason 0 (and_second b d t)) refl))

          tells : T (from len (lit p) (lit j)) → T (origin_marked w n m' j)
          tells t =
              let x = forth (lit j) len p len top (omega arith) top (omega arith) (start one) t in
              let e = one_position x.position j x.within l x.literal_is in
              chosen_tells w n m' j (subst (Marked m') e (a.added x.position x.reached)) (subst (λ i. (row_at w n i).reason ≡ 0) e x.given)

      pub chosen_origins : (k : ℕ) → k ≤ len → chosen_literals w n m' k ≡ in_order (from len (lit p)) (trail (rows_from w n k))
      unfolding chosen_literals in_order rows_from
      chosen_origins zero l = refl
      chosen_origins (suc k) l =
          ap₂ {A = Bool} {B = List ℤ} (λ b ls. cond b (ls ++ (lit k ∷ [])) ls) (chosen_is k (omega arith)) (chosen_origins k (omega arith))
