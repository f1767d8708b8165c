-- Where the value word of an atom says that its literal stands: at its position, or nowhere where it is 0. Each atom stands once, so that
-- position is the only one.
use mathlib.Core.Path.{◌≡◌, refl, sym, ◌∙◌, ap, subst}
use mathlib.Core.Bool.{Bool, true, false}
use mathlib.Core.List.{List}
use Prim.Native.Nat.{ℕ, ◌+◌, ◌-◌, ◌*◌, ◌/◌, ◌%◌, ◌<◌, ◌≤◌}
use native.Mathlib.Omega.{arith}
use lib.IntN.{ℤ, pos, negsuc}
use lib.Dec.{ltb}
use Rattle.std.specs.Bool.{then_some}
use Rattle.std.specs.Prelude.{Some, None}
use borrow.Author.Tests.{ltb-true, ltb-false}
use Rattle.numbers.specs.Words.{literal_of, literal_word}
use Rattle.numbers.proofs.Words.{literal_of_word}
use Rattle.meaning.specs.Meaning.{atom}
use Rattle.area.specs.Layout.{value_at, literal_at, row_at, rows_from, sign, value_word}
use Rattle.trail_check.proofs.Rows.{atom_of, place_unique}
use Rattle.trail_check.proofs.Values.{sign_of, Found, here, nowhere, found}
use Rattle.causes.specs.Inner.Causes.{TrailAsked, AtomAt, CauseAt, PositionIs}
use Rattle.causes.proofs.Rows.{pick_none, pick_one, row_of_one, stands_at, stands_not}

-- ---- the word of a literal

word_parts : (l : ℤ) → literal_word l ≡ 2 * atom l + sign l
word_parts (pos a) = omega arith
word_parts (negsuc a) = omega arith

module _ (w : List ℕ) (n len : ℕ) (t : TrailAsked w n len) where
  abbrev literal : ℕ → ℤ
  literal i = (row_at w n i).literal

  -- an atom stands at one position
  pub position_unique : (i j : ℕ) → i < len → j < len → atom (literal i) ≡ atom (literal j) → i ≡ j
  position_unique i j l m e = place_unique w n len i j l m t.atoms (sym (atom_of (literal_at w n i)) ∙ e ∙ atom_of (literal_at w n j))

  -- v is the value word of atom a, which was read as r
  module _ {a r v : ℕ} (x : AtomAt n a r) (told : v ≡ value_at w n r) where
    low : 1 ≤ a
    low = omega (arith, x.is, x.low)

    value_is : v ≡ value_word (rows_from w n len) a
    value_is = told ∙ ap {A = ℕ} (value_at w n) x.is ∙ t.values a low (omega (arith, x.is, x.high))

    -- ---- what the value word says

    open_off : v ≡ 0 → (i : ℕ) → i < len → ¬ (atom (literal i) ≡ a)
    open_off z = go (found w n a low len)
      where
        go : Found w n len a → (i : ℕ) → i < len → ¬ (atom (literal i) ≡ a)
        go (here j m e y) i l q = let b : ⊥ = omega (arith, value_is, y) in b
        go (nowhere off y) i l q = off i l (sym (atom_of (literal_at w n i)) ∙ q)

    record Standing (i : ℕ) : Type 0 where
      pub inside : i < len
      pub half : literal_at w n i / 2 ≡ a
      pub word_is : v ≡ 1 + 2 * i + literal_at w n i % 2

    standing : ¬ (v ≡ 0) → Standing ((v - 1) / 2)
    standing d = go (found w n a low len)
      where
        go : Found w n len a → Standing ((v - 1) / 2)
        go (here j m e y) =
            let z : v ≡ 1 + 2 * j + literal_at w n j % 2 = value_is ∙ y in
            let q : j ≡ (v - 1) / 2 = omega arith in
            subst Standing q (record { inside = m; half = e; word_is = z })
        go (nowhere off y) = absurd (d (value_is ∙ y))

    same_atom : (i : ℕ) → Standing i → atom (literal i) ≡ a
    same_atom i s = atom_of (literal_at w n i) ∙ s.half

    only : (i : ℕ) → Standing i → (j : ℕ) → j < len → atom (literal j) ≡ a → j ≡ i
    only i s j m e = position_unique j i m s.inside (e ∙ sym (same_atom i s))

    -- ---- the literal of the atom among the first `limit` rows

    module _ (limit : ℕ) (few : limit ≤ len) where
      cause_none : ((i : ℕ) → i < limit → ¬ (atom (literal i) ≡ a)) → CauseAt w n a limit None
      cause_none off = λ rest. pick_none w n a limit off rest

      pub cause_open : v ≡ 0 → CauseAt w n a limit None
      cause_open z = cause_none (λ i l. open_off z i (omega arith))

      cause_late : ¬ (v ≡ 0) → limit ≤ (v - 1) / 2 → CauseAt w n a limit None
      cause_late d h = cause_none (λ i l e. let q : i ≡ (v - 1) / 2 = only ((v - 1) / 2) (standing d) i (omega arith) e in let b : ⊥ = omega arith in b)

      cause_found : ¬ (v ≡ 0) → (v - 1) / 2 < limit → CauseAt w n a limit (Some ((v - 1) / 2))
      cause_found d h = record {
        inside = h;
        picked = λ rest.
            pick_one w n a ((v - 1) / 2) limit h (same_atom ((v - 1) / 2) (standing d)) (λ j m e. only ((v - 1) / 2) (standing d) j (omega arith) e) rest;
      }

      cause_where : ¬ (v ≡ 0) → (b : Bool) → (b ≡ true → (v - 1) / 2 < limit) → (b ≡ false → limit ≤ (v - 1) / 2)
          → CauseAt w n a limit (then_some b ((v - 1) / 2))
      cause_where d true y z = cause_found d (y refl)
      cause_where d false y z = cause_late d (z refl)

      pub cause_placed : ¬ (v ≡ 0) → CauseAt w n a limit (then_some (ltb ((v - 1) / 2) limit) ((v - 1) / 2))
      cause_placed d = cause_where d (ltb ((v - 1) / 2) limit) (ltb-true ((v - 1) / 2) limit) (ltb-false ((v - 1) / 2) limit)

  -- ---- a literal among all rows

  module _ (l : ℤ) {r u : ℕ} (x : AtomAt n (atom l) r) (told : u ≡ value_at w n r) where
    absent_position : ((i : ℕ) → i < len → ¬ (literal i ≡ l)) → PositionIs w n l len None
    absent_position off = stands_not w n l len off

    pub position_open : u ≡ 0 → PositionIs w n l len None
    position_open z = absent_position (λ i m e. open_off x told z i m (ap {A = ℤ} atom e))

    pub position_opposite : ¬ (u ≡ 0) → ¬ ((u - 1) % 2 ≡ sign l) → PositionIs w n l len None
    position_opposite d other = absent_position (λ i m e.
        let s = standing x told d in
        let q : (u - 1) / 2 ≡ i = sym (only x told ((u - 1) / 2) s i m (ap {A = ℤ} atom e)) in
        let at_i = subst (Standing x told) q s in
        let z : sign l ≡ literal_at w n i % 2 = ap {A = ℤ} sign (sym e) ∙ sign_of (literal_at w n i) (omega (arith, at_i.half, low x told)) in
        other (omega (arith, at_i.word_is)))

    pub position_found : ¬ (u ≡ 0) → (u - 1) % 2 ≡ sign l → PositionIs w n l len (Some ((u - 1) / 2))
    position_found d e =
        let i = (u - 1) / 2 in
        let s = standing x told d in
        let word_is : literal_at w n i ≡ literal_word l = omega (arith, s.half, s.word_is, word_parts l) in
        let is : literal i ≡ l = ap {A = ℕ} literal_of word_is ∙ literal_of_word l in
        record {
          inside = s.inside;
          literal_is = is;
          row_is = row_of_one w n l i len s.inside is (λ j k q. only x told i s j k (ap {A = ℤ} atom q));
          found = stands_at w n l i len s.inside is;
        }
