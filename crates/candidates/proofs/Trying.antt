-- An open literal, tried: opening a level is refused at the highest, or the literal is given there. Which of the two is read off the code;
-- rows and atoms of the opened state are those before, so that the literal is still open.
use mathlib.Core.Path.{◌≡◌, refl, sym, ap, ◌∙◌, subst}
use mathlib.Core.Bool.{Bool, true, false, not, cond, ◌||◌}
use mathlib.Core.List.{List}
use Prim.Native.Nat.{ℕ, suc, ◌≤◌}
use native.Mathlib.Omega.{arith}
use lib.ListN.{length}
use lib.IntN.{ℤ}
use lib.Dec.{T, leb}
use Rattle.std.specs.Prelude.{Result, Ok, Err}
use Rattle.types.specs.declared.Limits.{Limits}
use Rattle.types.specs.declared.Counters as t
use Rattle.meaning.specs.Meaning.{atom}
use Rattle.book.specs.Rows.{Row}
use Rattle.book.specs.Table.{open_level, give, refused, done, Returned, returned_by, State, no_atom, on_trail, Outcome, unchanged, giving, opening, following, reply, a_step}
use Rattle.book.specs.Book.{Counters, judged_all}
use Rattle.book.proofs.Making.{give_taken}
use Rattle.area.specs.Layout.{atoms_of, level_of, rows_of, theory_of}
use Rattle.area.specs.Whole.{Whole}
use Rattle.calls.specs.declared.Refusal.{Refusal}
use Rattle.calls.specs.declared.Refusal.TheVariants.{NotWhole, NoAtom, OnTrail, NotOnTrail, Given, HighestLevel, LevelAbove, NoSentence, NoConflict, TooShort}
use Rattle.calls.specs.Refusals.{code_of}
use Rattle.calls.specs.Calls.{area_state, counted, counters_after, is_refusal, unmoved, refused_returned, done_returned, Moved, Acts}
use Rattle.candidates.specs.Inner.Candidates.{LevelRefused, LiteralGiven, Tried}
use Rattle.give.proofs.Moves.{rows_count, state_after, moved_twice}

-- a refusal has a code
coded : (e : Refusal) → ¬ (code_of e ≡ 0)
coded NotWhole z = omega arith
coded NoAtom z = omega arith
coded OnTrail z = omega arith
coded NotOnTrail z = omega arith
coded Given z = omega arith
coded HighestLevel z = omega arith
coded LevelAbove z = omega arith
coded NoSentence z = omega arith
coded NoConflict z = omega arith
coded (TooShort needed) z = omega arith

moves_false : {o : Outcome} {q : Outcome} → q ≡ o → is_refusal o.answer ≡ false → T (not (is_refusal q.answer || false))
moves_false {o} e f = subst (λ (x : Outcome). T (not (is_refusal x.answer || false))) (sym e) (subst (λ (b : Bool). T (not (b || false))) (sym f) tt)

module _ (lim : Limits) (w : List ℕ) where
  abbrev q : State
  q = area_state lim w

  abbrev highest : Bool
  highest = leb lim.levels (level_of w)

  abbrev replied : Bool → Outcome
  replied b = cond b (unchanged q (refused 14 0)) (opening q)

  open_is : reply q (a_step open_level) ≡ replied highest
  unfolding reply
  open_is = refl

  module _ (w₁ : List ℕ) (c c₁ : Counters) (h : Whole lim w c) where
    told_code : (p : Returned) → Acts lim w w₁ c c₁ open_level p → (b : Bool) → highest ≡ b → p.code ≡ (returned_by (replied b).answer).code
    told_code p a b e =
        ap (λ (x : Returned). x.code) (a.answer.told h) ∙ ap (λ (o : Outcome). (returned_by o.answer).code) (open_is ∙ ap {A = Bool} replied e)

    pub level_refused : (e : Refusal) → Acts lim w w₁ c c₁ open_level (refused_returned e) → LevelRefused lim w w₁
    level_refused e a = go highest refl
      where
        go : (b : Bool) → highest ≡ b → LevelRefused lim w w₁
        go true q =
            let kept : unmoved (area_state lim w) open_level ≡ true = ap (λ (o : Outcome). is_refusal o.answer || false) (open_is ∙ ap {A = Bool} replied q) in
            record { highest = q; area_same = (a.kept h (subst T (sym kept) tt)).0 }
        go false q = absurd (coded e (told_code (refused_returned e) a false q))

    module _ (a : Acts lim w w₁ c c₁ open_level (returned_by done)) where
      below : highest ≡ false
      below = go highest refl
        where
          go : (b : Bool) → highest ≡ b → highest ≡ false
          go true q = let k = told_code (returned_by done) a true q in absurd (omega (arith, k))
          go false q = q

      opened : reply q (a_step open_level) ≡ opening q
      opened = open_is ∙ ap {A = Bool} replied below

      pub moved : Moved lim w w₁ c₁ (opening q)
      moved = subst (λ (o : Outcome). Moved lim w w₁ c₁ o) opened (a.moved h (moves_false opened refl))

      -- ---- giving

      module _ (l : ℤ) (known : no_atom q l ≡ false) (off : on_trail q (atom l) ≡ false) (w₂ : List ℕ) (c₂ : Counters) (p₂ : Returned) (g : Acts lim w₁ w₂ c₁ c₂ (give l) p₂) where
        abbrev given : Outcome
        given = giving (following q (opening q)) l

        give_is : reply (area_state lim w₁) (a_step (give l)) ≡ given
        give_is =
            ap (λ (s : State). reply s (a_step (give l))) (state_after moved)
            ∙ give_taken (atoms_of w) lim.levels (judged_all (theory_of w)) (suc (level_of w)) (rows_of w) l known off

        given_moved : Moved lim w₁ w₂ c₂ given
        given_moved = subst (λ (o : Outcome). Moved lim w₁ w₂ c₂ o) give_is (g.moved moved.whole (moves_false give_is refl))

        given_code : p₂.code ≡ 0
        given_code = ap (λ (x : Returned). x.code) (g.answer.told moved.whole) ∙ ap (λ (o : Outcome). (returned_by o.answer).code) give_is

        one_more : c.length_is ≤ c₂.length_is
        one_more =
            let e : length (rows_of w₂) ≡ suc (length (rows_of w)) = ap {A = List Row} length given_moved.rows in
            omega (arith, e, rows_count lim w c h, rows_count lim w₂ c₂ given_moved.whole)

        literal_given : LiteralGiven lim w w₂ c c₂ l
        literal_given = record { below = below; moved = moved_twice moved given_moved; longer = one_more }

-- what the give answers: it is not refused
pub tried : (lim : Limits) (w w₁ : List ℕ) (c : Counters) (d : t.Counters) (h : Whole lim w c) (a : Acts lim w w₁ c (counted d) open_level (returned_by done)) (l : ℤ)
    → no_atom (area_state lim w) l ≡ false → on_trail (area_state lim w) (atom l) ≡ false → (w₂ : List ℕ) (r : Result t.Counters Refusal)
    → Acts lim w₁ w₂ (counted d) (counted (counters_after d r)) (give l) (done_returned r) → Tried lim w w₂ c l r
tried lim w w₁ c d h a l known off w₂ (Ok f) g = literal_given lim w w₁ c (counted d) h a l known off w₂ (counted f) (done_returned (Ok f)) g
tried lim w w₁ c d h a l known off w₂ (Err e) g = absurd (coded e (given_code lim w w₁ c (counted d) h a l known off w₂ (counted d) (refused_returned e) g))
