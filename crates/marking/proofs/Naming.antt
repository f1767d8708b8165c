-- The causes that a sentence names, marked place by place: what is marked is named, and what is named is marked or still to come. A literal
-- has one position, so that the mark of a cause is that of its position.
use mathlib.Core.Path.{◌≡◌, refl, sym, ◌∙◌, ap, subst}
use mathlib.Core.Logic.{◌⊎◌, inl, inr, ⊎_elim}
use mathlib.Core.List.{List, ◌∷◌}
use Prim.Native.Nat.{ℕ, ◌+◌, ◌<◌, ◌≤◌}
use native.Mathlib.Omega.{arith}
use native.Mathlib.Decide.{ℕ_discrete}
use lib.IntN.{ℤ}
use lib.ListN.{length, get_or, drop, set, length-set}
use lib.Seq.{get_or-set_same, get_or-set_other}
use Rattle.std.specs.Prelude.{None}
use Rattle.meaning.specs.Meaning.{atom}
use Rattle.meaning.specs.Merge.{scope}
use Rattle.book.specs.Rows.{trail, pick, causes}
use Rattle.book.specs.Means.{Among}
use Rattle.area.specs.Layout.{row_at, rows_from, record_at, merged_at, rule_at}
use Rattle.causes.specs.Inner.Causes.{CauseStands, CauseAt}
use Rattle.causes.proofs.Places.{scope_length, causes_next, causes_end}
use Rattle.causes.proofs.Positions.{position_unique}
use Rattle.marking.specs.Inner.Marks.{Marked, Markable, CauseNamed, Adds}

-- ---- one mark more

module _ (m : List ℕ) (r : ℕ) (room : r < length m) where
  pub mark_set : Marked (set m r 1) r
  mark_set = omega (arith, get_or-set_same m r 1 0 room)

  mark_kept : (i : ℕ) → Marked m i → Marked (set m r 1) i
  mark_kept i h = go (ℕ_discrete i r)
    where
      go : Dec (i ≡ r) → Marked (set m r 1) i
      go (yes e) = subst (Marked (set m r 1)) (sym e) mark_set
      go (no d) = omega (arith, get_or-set_other m r i 1 0 d)

  pub mark_only : (i : ℕ) → Marked (set m r 1) i → Marked m i ⊎ (i ≡ r)
  mark_only i h = go (ℕ_discrete i r)
    where
      go : Dec (i ≡ r) → Marked m i ⊎ (i ≡ r)
      go (yes e) = inr e
      go (no d) = inl (omega (arith, get_or-set_other m r i 1 0 d))

-- ---- place by place

module _ (w : List ℕ) (n S s limit : ℕ) (m₀ : List ℕ) where
  abbrev lit : ℕ → ℤ
  lit i = (row_at w n i).literal

  abbrev sc : List ℕ
  sc = scope (rule_at w n S (record_at n s))

  -- the causes from a place on
  abbrev from : ℕ → List ℤ
  from place = causes (trail (rows_from w n limit)) (drop place sc)

  -- the marks m once the places before `place` are handled, from the marks m₀
  pub record Naming (place : ℕ) (m : List ℕ) : Type 0 where
    pub size : length m ≡ length m₀
    pub kept : (i : ℕ) → Marked m₀ i → Marked m i
    pub only : (i : ℕ) → Marked m i → Marked m₀ i ⊎ CauseNamed w n S s limit i
    pub left : (i : ℕ) → CauseNamed w n S s limit i → Marked m i ⊎ Among (lit i) (from place)
    pub rest : (l : ℤ) → Among l (from place) → Among l (from 0)

  pub none_named : Naming 0 m₀
  none_named = record { size = refl; kept = λ i h. h; only = λ i h. inl h; left = λ i h. inr h.among; rest = λ l h. h }

  module _ (ready : Markable w n S limit m₀) (number : s < S) (place : ℕ) (m : List ℕ) (x : Naming place m) where
    places : length sc ≡ merged_at w (record_at n s) + 1
    places = scope_length w n S (record_at n s) (ready.sentence s number)

    pub all_named : merged_at w (record_at n s) < place → Adds (CauseNamed w n S s limit) m₀ m
    all_named h =
        let e = causes_end (trail (rows_from w n limit)) sc place (omega (arith, places)) in
        record { size = x.size; kept = x.kept; added = λ i p. ⊎_elim (λ y. y) (λ a. absurd (subst (Among (lit i)) e a)) (x.left i p); only = x.only }

    module _ (inside : place ≤ merged_at w (record_at n s)) where
      next_from : from place ≡ pick (trail (rows_from w n limit)) (get_or sc place 0) (from (place + 1))
      next_from = causes_next (trail (rows_from w n limit)) sc place (omega (arith, places))

      pub nothing_named : CauseAt w n (get_or sc place 0) limit None → Naming (place + 1) m
      nothing_named absent =
          let e : from place ≡ from (place + 1) = next_from ∙ absent (from (place + 1)) in
          record {
            size = x.size;
            kept = x.kept;
            only = x.only;
            left = λ i p. ⊎_elim inl (λ a. inr (subst (Among (lit i)) e a)) (x.left i p);
            rest = λ l a. x.rest l (subst (Among l) (sym e) a);
          }

      module _ (r : ℕ) (c : CauseStands w n (get_or sc place 0) limit r) where
        pub cause_room : r < length m
        cause_room = omega (arith, x.size, ready.position, ready.room, c.inside)

        pub cause_named : Naming (place + 1) (set m r 1)
        cause_named =
            let e : from place ≡ lit r ∷ from (place + 1) = next_from ∙ c.picked (from (place + 1)) in
            record {
              size = length-set m r 1 ∙ x.size;
              kept = λ i y. mark_kept m r cause_room i (x.kept i y);
              only = λ i y. ⊎_elim
                  (λ z. x.only i z)
                  (λ q. inr (record { earlier = omega (arith, c.inside); among = x.rest (lit i) (subst (Among (lit i)) (sym e) (inl (ap {A = ℕ} lit q))) }))
                  (mark_only m r cause_room i y);
              left = λ i p. ⊎_elim
                  (λ y. inl (mark_kept m r cause_room i y))
                  (λ a. here_or_later i p (subst (Among (lit i)) e a))
                  (x.left i p);
              rest = λ l a. x.rest l (subst (Among l) (sym e) (inr a));
            }
          where
            one_position : (i : ℕ) → CauseNamed w n S s limit i → lit i ≡ lit r → i ≡ r
            one_position i p q =
                let f = p.earlier in
                position_unique w n ready.rows ready.trail_asked i r (omega (arith, ready.position, f))
                (omega (arith, ready.position, c.inside)) (ap {A = ℤ} atom q)

            here_or_later : (i : ℕ) → CauseNamed w n S s limit i → (lit i ≡ lit r) ⊎ Among (lit i) (from (place + 1))
                → Marked (set m r 1) i ⊎ Among (lit i) (from (place + 1))
            here_or_later i p (inl q) = inl (subst (Marked (set m r 1)) (sym (one_position i p q)) (mark_set m r cause_room))
            here_or_later i p (inr a) = inr a
