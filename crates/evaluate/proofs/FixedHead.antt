-- What a sentence with a fixed head says first. It conflicts where the comparison does not have the head's truth at the extreme towards
-- it. Otherwise an open entry's wanted literal leaves the extreme as it is, so that only its opposite can be refuted: by the entry's
-- contribution replaced, which cannot be where the other extreme or the second best keeps the truth.
use mathlib.Core.Path.{◌≡◌, refl, sym, ◌∙◌, ap}
use mathlib.Core.Bool.{Bool, true, false, not, cond, ◌&&◌, and-false}
use mathlib.Core.Logic.{inl, inr}
use mathlib.Core.List.{List, [], ◌∷◌}
use Prim.Native.Nat.{ℕ, ◌+◌, ◌/◌, ◌%◌, ◌≤◌}
use native.Mathlib.Omega.{arith}
use native.Mathlib.Decide.{ℕ_discrete}
use lib.IntN.{ℤ, pos, neg_ℤ, neg_ℤ-neg_ℤ}
use lib.Dec.{eqb}
use borrow.Author.Tests.{eqb-true}
use Rattle.numbers.specs.Words.{top, literal_of}
use Rattle.meaning.specs.Meaning.{atom}
use Rattle.meaning.specs.Meaning as m
use Rattle.meaning.specs.Merge.{Rule, entry_atoms, scope}
use Rattle.meaning.specs.Computed.{free, fixed, standing_of, refuted_at, refuted, due, first_due, first_said}
use Rattle.meaning.proofs.Trails.{atom_half, opposite_atom}
use Rattle.meaning.proofs.Verdicts.{refuted_entry}
use Rattle.area.specs.Layout.{standing_word, entries_of}
use Rattle.kinds.specs.declared.Kind.{Kind}
use Rattle.kinds.specs.declared.Kind.TheVariants.{Sum, Product, Count, Max, Min}
use Rattle.evaluate.specs.declared.Said.{Said}
use Rattle.evaluate.specs.declared.Said.TheVariants.{Silent, Conflict, Forced}
use Rattle.evaluate.specs.Inner.Sentence.{said_of}
use Rattle.extremes.specs.Inner.Words.{empty_word, start_word, furthest_word, nearest_word, contributions, folded, extreme_word}
use Rattle.evaluate.specs.Inner.Words.{best_kind, second_best, second_word, limit_word, upwards, keeps, turns_word, opposite_word, wanted_word, scanned, leaves_second, entries_say, body_says}
use Rattle.extremes.proofs.Contributions.{Proper, ShowsIn}
use Rattle.evaluate.proofs.Swaps.{same_swap}
use Rattle.evaluate.proofs.Turns.{turned_loses}
use Rattle.evaluate.proofs.Ranges.{Agreeing, range_keeps}
use Rattle.evaluate.proofs.Puts.{Opposite, opposite, value_other, put, put_shows, Member, first, later, member_proper, member_off, put_swaps, Wanted, wanted_is}
use Rattle.evaluate.proofs.Dues.{said_cond, passed_over, one_literal, set_undue, free_due}
use Rattle.extremes.proofs.Sound.{rule_words, Sound}
use Rattle.evaluate.proofs.Comparisons.{kept_at}

-- the second best is of the kind's own contributions, where it counts
second_same : (k : Kind) (u : Bool) (limit : ℕ) (v : ℕ → ℕ) (ws : List ℕ)
    → (leaves_second k u && keeps u limit (second_best u (empty_word (best_kind u)) (empty_word (best_kind u)) (contributions k u v ws))) ≡ (leaves_second k u && keeps u limit (second_word u v ws))
second_same k true limit v ws = elim k as (λ k. (leaves_second k true && keeps true limit (second_best true (empty_word (best_kind true)) (empty_word (best_kind true)) (contributions k true v ws))) ≡ (leaves_second k true && keeps true limit (second_word true v ws))) [ Sum ↦ refl | Product ↦ refl | Count ↦ refl | Max ↦ refl | Min ↦ refl ]
second_same k false limit v ws = elim k as (λ k. (leaves_second k false && keeps false limit (second_best false (empty_word (best_kind false)) (empty_word (best_kind false)) (contributions k false v ws))) ≡ (leaves_second k false && keeps false limit (second_word false v ws))) [ Sum ↦ refl | Product ↦ refl | Count ↦ refl | Max ↦ refl | Min ↦ refl ]

limit_small : (upper : Bool) (bound : ℕ) → bound + 1 ≤ top → limit_word upper bound ≤ top
limit_small true bound h = h
limit_small false bound h = omega arith

put_agrees : (v : ℕ → ℕ) (o : ℕ) → v (o / 2) ≡ 0 → (a : ℕ) → Agreeing (v a) (put v o a)
put_agrees v o e a = go (ℕ_discrete a (o / 2))
  where
    go : Dec (a ≡ o / 2) → Agreeing (v a) (put v o a)
    go (yes q) = inl (ap v q ∙ e)
    go (no d) = inr (inr (sym (value_other v (o / 2) (1 + o % 2) a d)))

module _ {n : ℕ} {k : Kind} {bound c head : ℕ} {words : List ℕ} (sound : Sound n k bound c head words) (upper : Bool) (written : ℕ)
    (v : ℕ → ℕ) (t : List ℤ) (sh : ShowsIn n v t) (b : Bool) (hb : standing_of t head ≡ fixed b) where
  abbrev R : Rule
  R = rule_words k upper bound c head written words

  abbrev limit : ℕ
  limit = limit_word upper bound

  abbrev u : Bool
  u = upwards upper b

  -- the extreme towards the head's truth, over any values
  abbrev E : (ℕ → ℕ) → ℕ
  E x = extreme_word k u x c words

  abbrev wanted : ℕ → ℕ → ℕ
  wanted w l = wanted_word u (empty_word k) w l

  -- the extreme with an entry turned
  abbrev turned : ℕ → ℕ → ℕ
  turned w l = E (put v (opposite_word (wanted w l)))

  small : limit ≤ top
  small = limit_small upper bound (omega (arith, sound.bound_high))

  trail_refuted : refuted R t ≡ not (keeps u limit (E v))
  trail_refuted = ap (refuted_at R t) hb ∙ ap not (kept_at sound upper written b v t sh)

  entry_refuted : {w l : ℕ} → Member w l words → (o : ℕ) → 2 ≤ o → o / 2 ≡ l / 2 → refuted R (literal_of o ∷ t) ≡ not (keeps u limit (E (put v o)))
  entry_refuted e o h a =
      refuted_entry R t (literal_of o) b (λ q. member_off k n head e sound.legal sound.headless (sym (q ∙ atom_half o ∙ a))) hb
      ∙ ap not (kept_at sound upper written b (put v o) (literal_of o ∷ t) (put_shows n v t o h sh))

  -- ---- one open entry

  module _ {w l : ℕ} (e : Member w l words) (open_is : v (l / 2) ≡ 0) where
    proper : Proper k n w l
    proper = member_proper k n e sound.legal

    g : Wanted u (empty_word k) w l (wanted w l)
    g = wanted_is u (empty_word k) w l proper.literal

    other : Opposite (wanted w l) (opposite_word (wanted w l))
    other = opposite (wanted w l) g.real

    unturned : E (put v (wanted w l)) ≡ E v
    unturned = ap (folded k (start_word k c)) (sym (same_swap (put_swaps k n u v e sound.legal sound.once open_is (wanted w l) (furthest_word u w (empty_word k)) g.atom g.gives)))

    entry_free : standing_of t (atom (literal_of (wanted w l))) ≡ free
    entry_free = ap (standing_of t) (atom_half (wanted w l) ∙ g.atom) ∙ sh (l / 2) (omega (arith, proper.literal)) proper.atom_high ∙ ap standing_word open_is

    due_wanted : due R t (literal_of (wanted w l)) ≡ not (keeps u limit (turned w l))
    due_wanted =
        free_due R t (literal_of (wanted w l)) entry_free ∙ ap (λ z. refuted R (z ∷ t)) (sym other.literal)
        ∙ entry_refuted e (opposite_word (wanted w l)) other.real (other.atom ∙ g.atom)

    due_opposite : keeps u limit (E v) ≡ true → due R t (neg_ℤ (literal_of (wanted w l))) ≡ false
    due_opposite fine =
        free_due R t (neg_ℤ (literal_of (wanted w l))) (ap (standing_of t) (opposite_atom (literal_of (wanted w l))) ∙ entry_free)
        ∙ ap (λ z. refuted R (z ∷ t)) (neg_ℤ-neg_ℤ (literal_of (wanted w l)))
        ∙ entry_refuted e (wanted w l) g.real g.atom ∙ ap (λ z. not (keeps u limit z)) unturned ∙ ap not fine

    -- the two ways to know whether the entry turns
    turned_test : keeps u limit (E v) ≡ true
        → not (keeps u limit (turned w l)) ≡ (not (leaves_second k u && keeps u limit (second_word u v words)) && turns_word k u limit (E v) w)
    turned_test fine =
        turned_loses k u limit c w small proper.high proper.weight
        (put_swaps k n u v e sound.legal sound.once open_is (opposite_word (wanted w l)) (nearest_word u w (empty_word k)) (other.atom ∙ g.atom) g.loses)
        (sound.rooms v u) (sound.rooms (put v (opposite_word (wanted w l))) u) fine
        ∙ ap (λ x. not x && turns_word k u limit (E v) w) (second_same k u limit v words)

    turned_range : keeps u limit (extreme_word k (not u) v c words) ≡ true → not (keeps u limit (turned w l)) ≡ false
    turned_range h =
        range_keeps k u limit c v (put v (opposite_word (wanted w l))) words (put_agrees v (opposite_word (wanted w l)) (ap v (other.atom ∙ g.atom) ∙ open_is)) h

  -- ---- any scan by a test that tells of each open entry whether it turns

  module _ (fine : keeps u limit (E v) ≡ true) (scan : List ℕ → Said) (test : ℕ → Bool) (none : scan [] ≡ Silent) (one : (w : ℕ) → scan (w ∷ []) ≡ Silent)
      (more : (w l : ℕ) (rest : List ℕ) → scan (w ∷ l ∷ rest) ≡ cond (eqb (v (l / 2)) 0 && test w) (Forced (wanted w l)) (scan rest))
      (right : (w l : ℕ) → Member w l words → v (l / 2) ≡ 0 → not (keeps u limit (turned w l)) ≡ test w) where
    scan_told : (ws : List ℕ) → ((w l : ℕ) → Member w l ws → Member w l words) → first_due R t (entry_atoms (entries_of ws)) ≡ said_of (scan ws)
    unfolding entries_of first_due
    scan_told [] f = ap said_of (sym none)
    scan_told (w ∷ []) f = ap said_of (sym (one w))
    scan_told (w ∷ l ∷ rest) f = go (eqb (v (l / 2)) 0) refl (scan_told rest (λ w' l' e. f w' l' (later e))) ∙ ap said_of (sym (more w l rest))
      where
        low : 2 ≤ l
        low = (member_proper k n (f w l first) sound.legal).literal

        here_at : standing_of t (atom (literal_of l)) ≡ standing_word (v (l / 2))
        here_at = ap (standing_of t) (atom_half l) ∙ sh (l / 2) (omega (arith, low)) (member_proper k n (f w l first) sound.legal).atom_high

        go : (x : Bool) → eqb (v (l / 2)) 0 ≡ x → first_due R t (entry_atoms (entries_of rest)) ≡ said_of (scan rest)
            → first_due R t (atom (literal_of l) ∷ entry_atoms (entries_of rest)) ≡ said_of (cond (x && test w) (Forced (wanted w l)) (scan rest))
        go true p ih =
            let z : v (l / 2) ≡ 0 = eqb-true (v (l / 2)) 0 p in
            let g = wanted_is u (empty_word k) w l low in
            one_literal R t (atom (literal_of l)) (entry_atoms (entries_of rest)) (literal_of (wanted w l)) (atom_half (wanted w l) ∙ g.atom ∙ sym (atom_half l)) (due_opposite (f w l first) z fine)
            ∙ ap (λ d. cond d (m.forced (literal_of (wanted w l))) (first_due R t (entry_atoms (entries_of rest)))) (due_wanted (f w l first) z ∙ right w l (f w l first) z)
            ∙ ap (cond (test w) (m.forced (literal_of (wanted w l)))) ih
            ∙ sym (said_cond (test w) (Forced (wanted w l)) (scan rest))
        go false p ih =
            let set : standing_of t (atom (literal_of l)) ≡ fixed (eqb (v (l / 2) % 2) 1) = here_at ∙ ap (λ y. cond y free (fixed (eqb (v (l / 2) % 2) 1))) p in
            passed_over R t (atom (literal_of l)) (entry_atoms (entries_of rest)) (set_undue R t (pos (atom (literal_of l))) (eqb (v (l / 2) % 2) 1) set)
            (set_undue R t (neg_ℤ (pos (atom (literal_of l)))) (eqb (v (l / 2) % 2) 1) (ap (standing_of t) (opposite_atom (pos (atom (literal_of l)))) ∙ set))
            ∙ ih

  -- ---- the answer

  entries_told : keeps u limit (E v) ≡ true → first_due R t (entry_atoms (entries_of words)) ≡ said_of (cond (keeps u limit (extreme_word k (not u) v c words)) Silent (entries_say k u limit (E v) v words))
  unfolding scanned
  entries_told fine = go (keeps u limit (extreme_word k (not u) v c words)) refl (leaves_second k u && keeps u limit (second_word u v words)) refl
    where
      quiet : ((w l : ℕ) → Member w l words → v (l / 2) ≡ 0 → not (keeps u limit (turned w l)) ≡ false) → first_due R t (entry_atoms (entries_of words)) ≡ m.silent
      quiet right =
          scan_told fine (λ ws. Silent) (λ w. false) refl (λ w. refl) (λ w l rest. sym (ap (λ x. cond x (Forced (wanted w l)) Silent) (and-false (eqb (v (l / 2)) 0)))) right words (λ w l e. e)

      told : (s : Bool) → (leaves_second k u && keeps u limit (second_word u v words)) ≡ s
          → (w l : ℕ) → Member w l words → v (l / 2) ≡ 0 → not (keeps u limit (turned w l)) ≡ (not s && turns_word k u limit (E v) w)
      told s q w l e o = turned_test e o fine ∙ ap (λ x. not x && turns_word k u limit (E v) w) q

      go : (x : Bool) → keeps u limit (extreme_word k (not u) v c words) ≡ x → (s : Bool) → (leaves_second k u && keeps u limit (second_word u v words)) ≡ s
          → first_due R t (entry_atoms (entries_of words)) ≡ said_of (cond x Silent (cond s Silent (scanned k u limit (E v) v words)))
      go true p s q = quiet (λ w l e o. turned_range e o p)
      go false p true q = quiet (told true q)
      go false p false q =
          scan_told fine (scanned k u limit (E v) v) (turns_word k u limit (E v)) refl (λ w. refl) (λ w l rest. refl) (told false q) words (λ w l e. e)

  pub says_fixed : first_said R t ≡ said_of (body_says k u limit (E v) (extreme_word k (not u) v c words) v words)
  unfolding first_said
  says_fixed = go (keeps u limit (E v)) refl
    where
      go : (x : Bool) → keeps u limit (E v) ≡ x
          → cond (refuted R t) m.conflict (first_due R t (scope R)) ≡ said_of (cond x (cond (keeps u limit (extreme_word k (not u) v c words)) Silent (entries_say k u limit (E v) v words)) Conflict)
      go true p =
          ap (λ x. cond x m.conflict (first_due R t (scope R))) (trail_refuted ∙ ap not p)
          ∙ passed_over R t head (entry_atoms (entries_of words)) (set_undue R t (pos head) b hb) (set_undue R t (neg_ℤ (pos head)) b (ap (standing_of t) (opposite_atom (pos head)) ∙ hb))
          ∙ entries_told p
      go false p = ap (λ x. cond x m.conflict (first_due R t (scope R))) (trail_refuted ∙ ap not p)
