-- The refusal of a give on a whole area, by its tests: no atom has the literal's number (10), or the atom's value word is not 0 (11). And what
-- it leaves otherwise: the literal is put on at the current level with no reason.
use mathlib.Core.Path.{◌≡◌, refl, sym, ◌∙◌, ap, subst}
use mathlib.Core.Bool.{Bool, false, not, ◌&&◌, ◌||◌}
use mathlib.Core.List.{List}
use Prim.Native.Nat.{ℕ, ◌+◌, ◌/◌, ◌≤◌}
use native.Mathlib.Omega.{arith}
use lib.IntN.{ℤ, pos, negsuc}
use lib.Dec.{T, eqb, leb}
use borrow.Author.Tests.{eqb-true, leb-true, not-false}
use Rattle.std.proofs.lemmas.Bool.{and_parts}
use Rattle.types.specs.declared.Limits.{Limits}
use Rattle.numbers.specs.Words.{literal_word}
use Rattle.numbers.proofs.Words.{literal_of_word}
use Rattle.meaning.specs.Meaning.{atom}
use Rattle.literals.specs.Inner.Literals.{unknown}
use Rattle.literals.proofs.Atoms.{known_within}
use Rattle.book.specs.Table.{give, done, returned_by, State, Outcome, effect, reply, a_step}
use Rattle.book.specs.Book.{Counters}
use Rattle.area.specs.Layout.{atoms_of, sentences_of, value_at}
use Rattle.whole.specs.Parts.{counters_with}
use Rattle.calls.specs.Calls.{area_state, is_refusal, Moved, Acts}
use Rattle.give.specs.Inner.Trail.{Advanceable, Advanced}
use Rattle.whole.specs.Inner.Usable.{Usable}
use Rattle.give.specs.Inner.Refused.{refusal_code}
use Rattle.give.proofs.Moves.{moved_as}
use Rattle.give.proofs.Advancing.{advanced_rows}
use Rattle.calls.proofs.Acting.{acts_moved}
use Rattle.give.proofs.OnTrail.{on_trail_value, taken_on_trail, open_off_trail}
use Rattle.give.proofs.Refused.{none_applies, replied}

-- ---- the word of a literal

pub literal_word_atom : (l : ℤ) → literal_word l / 2 ≡ atom l
literal_word_atom (pos a) = omega arith
literal_word_atom (negsuc a) = omega arith

literal_word_low : (l : ℤ) → 1 ≤ atom l → 2 ≤ literal_word l
literal_word_low (pos a) h = omega arith
literal_word_low (negsuc a) h = omega arith

-- a literal that passes the test has an atom
pub within : (n : ℕ) (l : ℤ) → unknown n l ≡ false → (1 ≤ atom l) × (atom l ≤ n)
within n l e =
    let p = and_parts (leb 1 (atom l)) (leb (atom l) n) (not-false (leb 1 (atom l) && leb (atom l) n) e) in
    (leb-true 1 (atom l) p.0, leb-true (atom l) n p.1)

-- the literal has an atom, and it is open
pub record Open (w : List ℕ) (l : ℤ) : Type 0 where
  pub low : 1 ≤ atom l
  pub high : atom l ≤ atoms_of w
  pub free : value_at w (atoms_of w) (atom l) ≡ 0

module _ (lim : Limits) (w : List ℕ) (c : Counters) (u : Usable lim w c) (l : ℤ) where
  abbrev q : State
  q = area_state lim w

  -- ---- the code of the refusal

  -- where it is 0, the atom is open
  pub open_atom : 0 ≡ refusal_code lim w (give l) → Open w l
  open_atom e =
      let passed = none_applies lim w (give l) (sym e) in
      let k = within (atoms_of w) l passed.0 in
      let value = value_at w (atoms_of w) (atom l) in
      let off = sym (on_trail_value lim w c u.whole (atom l) k.0 k.1) ∙ passed.1.0 in
      record { low = k.0; high = k.1; free = eqb-true value 0 (not-false (eqb value 0) off) }

  module _ (low : 1 ≤ atom l) (high : atom l ≤ atoms_of w) where
    pub taken_code : ¬ (value_at w (atoms_of w) (atom l) ≡ 0) → 11 ≡ refusal_code lim w (give l)
    taken_code d = rw (known_within (atoms_of w) l low high, taken_on_trail lim w c u.whole (atom l) low high d) refl

    pub open_code : value_at w (atoms_of w) (atom l) ≡ 0 → 0 ≡ refusal_code lim w (give l)
    open_code e = rw (known_within (atoms_of w) l low high, open_off_trail lim w c u.whole (atom l) low high e) refl

    -- ---- done

    module _ (free : value_at w (atoms_of w) (atom l) ≡ 0) where
      level_small : c.level_is ≤ 4096
      level_small = omega (arith, u.whole.level_is, u.whole.level_limit, u.fitting.levels)

      pub give_advanceable : Advanceable lim w (atoms_of w) (sentences_of w) c.length_is c.level_is (literal_word l) c.level_is
      give_advanceable = record {
        fitting = u.fitting;
        whole = u.whole;
        atoms = refl;
        sentences = refl;
        puttable = record {
          low = literal_word_low l low;
          high = omega (arith, literal_word_atom l);
          free_atom = ap {A = ℕ} (value_at w (atoms_of w)) (literal_word_atom l) ∙ free;
        };
        level_is = omega (arith, level_small);
        few = omega (arith, level_small);
        given = λ z. omega (arith, level_small);
        derived = λ s e. let b : ⊥ = omega (arith, level_small) in absurd b;
      }

      pub has_effect : reply q (a_step (give l)) ≡ effect q (a_step (give l))
      has_effect = (replied lim w (give l)).passes (sym (open_code free))

      module _ (w' : List ℕ) (a : Advanced lim w w' c.length_is c.level_is (literal_word l) c.level_is) where
        moved : Moved lim w w' (counters_with (c.length_is + 1) c.level_is) (effect (area_state lim w) (a_step (give l)))
        moved =
            moved_as a refl (sym a.rows ∙ advanced_rows lim w w' c.length_is c.level_is (literal_word l) c.level_is 0 l a (literal_of_word l) (omega (arith, level_small)))

        pub give_done : Acts lim w w' c (counters_with (c.length_is + 1) c.level_is) (give l) (returned_by done)
        give_done =
            acts_moved lim w c (give l) (returned_by done) w' (counters_with (c.length_is + 1) c.level_is) u.whole
            (subst (λ (b : Bool). T (not b)) (sym (ap {A = Outcome} (λ o. is_refusal o.answer || false) has_effect)) tt)
            (ap {A = Outcome} (λ o. returned_by o.answer) (sym has_effect))
            (subst (λ (o : Outcome). Moved lim w w' (counters_with (c.length_is + 1) c.level_is) o) (sym has_effect) moved)
