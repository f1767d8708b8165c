-- A literal of an open atom put on a right trail leaves it right, one row longer: only word 0, the atom's value word and the two words of
-- the new place change. An open atom leaves room, since the rows' atoms with it are different and at most n.
use mathlib.Core.Path.{◌≡◌, sym, ◌∙◌, ap, ap₂, subst}
use mathlib.Core.Bool.{cond}
use mathlib.Core.List.{List, ◌∷◌}
use Prim.Native.Nat.{ℕ, ◌+◌, ◌-◌, ◌*◌, ◌/◌, ◌%◌, ◌<◌, ◌≤◌}
use native.Mathlib.Omega.{arith}
use native.Mathlib.Numerals.{add-one}
use lib.ListN.{length, length-set, set}
use lib.Seq.{get_or-set_same, get_or-set_other}
use lib.Dec.{eqb}
use Rattle.types.specs.declared.Limits.{Limits}
use Rattle.numbers.specs.Words.{literal_of}
use Rattle.meaning.specs.Meaning.{atom}
use Rattle.meaning.specs.Computed.{free, fixed, standing_of}
use Rattle.book.specs.Rows.{Row, a_row, trail}
use Rattle.area.specs.Layout.{word, atoms_of, sentences_of, length_of, level_of, value_at, literal_at, cause_at, row_at, place_at, rows_from, value_word}
use Rattle.area.specs.Whole.{AtomsOnce, Rising}
use Rattle.trail_check.specs.Trail.{TrailOk}
use Rattle.trail_check.proofs.Rows.{rows_kept, rows_length, atom_of}
use Rattle.trail_check.proofs.Values.{sign_of, value_word_same, value_word_other}
use Rattle.trail_check.proofs.Few.{few}
use Rattle.trail_check.proofs.Shown.{shows}
use Rattle.trail.specs.Inner.Step.{TrailReady, put_on, Puttable}
use Rattle.trail.proofs.Fields.{more_atoms, more_sentences, more_length, more_level}
use Rattle.trail.proofs.Rows.{same_or_not, zero_absent}

-- what becomes of each word
record Changed (w w' : List ℕ) (n len literal mark : ℕ) : Type 0 where
  size : length w' ≡ length w
  first : word w' 0 ≡ word w 0 + 4294967296
  value : value_at w' n (literal / 2) ≡ 1 + 2 * len + literal % 2
  here : literal_at w' n len ≡ literal
  marked : cause_at w' n len ≡ mark
  other : (j : ℕ) → ¬ (j ≡ 0) → ¬ (j ≡ n - 1 + literal / 2) → ¬ (j ≡ 2 * n + len) → ¬ (j ≡ 3 * n + len) → word w' j ≡ word w j

-- a trail with one row more
pub record Grown (lim : Limits) (w w' : List ℕ) (n len level literal mark : ℕ) : Type 0 where
  pub stands : TrailReady lim w' n (len + 1) level
  pub rows : rows_from w' n (len + 1) ≡ a_row (literal_of literal) level (mark / 65536 % 65536) ∷ rows_from w n len
  pub place : place_at w' n len ≡ mark / 4294967296
  pub value : value_at w' n (literal / 2) ≡ 1 + 2 * len + literal % 2
  -- what stays
  pub size : length w' ≡ length w
  pub sentences : sentences_of w' ≡ sentences_of w
  pub literals : (i : ℕ) → i < len → literal_at w' n i ≡ literal_at w n i
  pub marks : (i : ℕ) → i < len → cause_at w' n i ≡ cause_at w n i
  pub behind : (i : ℕ) → 4 * n ≤ i → word w' i ≡ word w i
  pub values : (a : ℕ) → 1 ≤ a → a ≤ n → ¬ (a ≡ literal / 2) → value_at w' n a ≡ value_at w n a
  pub standings : (a : ℕ) → 1 ≤ a → a ≤ n → ¬ (a ≡ literal / 2) → standing_of (trail (rows_from w' n (len + 1))) a ≡ standing_of (trail (rows_from w n len)) a

module _ (lim : Limits) (w : List ℕ) (n len level literal : ℕ) (s : TrailReady lim w n len level) (p : Puttable w n literal) where
  -- the rows with any row of the literal
  once_more : (v k : ℕ) → AtomsOnce n (a_row (literal_of literal) v k ∷ rows_from w n len)
  once_more v k = let e : atom (literal_of literal) ≡ literal / 2 = atom_of literal in let low : 1 ≤ literal / 2 = omega (arith, p.low) in (
    (
      omega arith,
      omega (arith, p.high),
      zero_absent (rows_from w n len) (atom (literal_of literal))
          (ap {A = ℕ} (value_word (rows_from w n len)) e ∙ sym (s.trail_ok.values (literal / 2) low p.high) ∙ p.free_atom),
    ),
    s.trail_ok.atoms,
  )

  pub room_left : len < n
  room_left = omega (arith, few n (a_row (literal_of literal) 0 0 ∷ rows_from w n len) (once_more 0 0), rows_length w n len)

  pub atoms_few : n ≤ 4096
  atoms_few = omega (arith, s.header.atoms_high, s.fitting.atoms, s.atoms)

  pub words_there : 4 * n ≤ length w
  words_there = omega (arith, s.header.records, s.atoms)

  -- the level is small, so that word 0 has room for one more row
  pub header_fits : word w 0 + 4294967296 < 18446744073709551616
  header_fits = omega (arith, s.header.level_limit, s.fitting.levels)

  module _ (mark : ℕ) (levelled : mark % 65536 ≡ level) where
    abbrev w' : List ℕ
    w' = put_on w n len literal mark

    c : Changed w w' n len literal mark
    c = let h : ℕ = word w 0 + 4294967296 in let at : ℕ = n - 1 + literal / 2 in let v : ℕ = 1 + 2 * len + literal % 2 in
        let w1 : List ℕ = set w 0 h in let w2 : List ℕ = set w1 at v in let w3 : List ℕ = set w2 (2 * n + len) literal in
        let low : 1 ≤ literal / 2 = omega (arith, p.low) in let high : literal / 2 ≤ n = p.high in let room : 4 * n ≤ length w = words_there in
        let short : len < n = room_left in record {
          size = simp length-set;
          first = get_or-set_other w3 (3 * n + len) 0 mark 0 (omega arith) ∙ get_or-set_other w2 (2 * n + len) 0 literal 0 (omega arith)
              ∙ get_or-set_other w1 at 0 v 0 (omega arith) ∙ get_or-set_same w 0 h 0 (omega arith);
          value = get_or-set_other w3 (3 * n + len) at mark 0 (omega arith) ∙ get_or-set_other w2 (2 * n + len) at literal 0 (omega arith)
              ∙ get_or-set_same w1 at v 0 (simp length-set (omega arith));
          here = get_or-set_other w3 (3 * n + len) (2 * n + len) mark 0 (omega arith) ∙ get_or-set_same w2 (2 * n + len) literal 0 (simp length-set (omega arith));
          marked = get_or-set_same w3 (3 * n + len) mark 0 (simp length-set (omega arith));
          other = λ j a b c d. get_or-set_other w3 (3 * n + len) j mark 0 d ∙ get_or-set_other w2 (2 * n + len) j literal 0 c
              ∙ get_or-set_other w1 at j v 0 b ∙ get_or-set_other w 0 j h 0 a;
        }

    literal_same : (i : ℕ) → i < n → ¬ (i ≡ len) → literal_at w' n i ≡ literal_at w n i
    literal_same i h d = c.other (2 * n + i) (omega arith) (omega (arith, p.high)) (omega arith) (omega (arith, room_left))

    mark_same : (i : ℕ) → i < n → ¬ (i ≡ len) → cause_at w' n i ≡ cause_at w n i
    mark_same i h d = c.other (3 * n + i) (omega arith) (omega (arith, p.high)) (omega (arith, room_left)) (omega arith)

    value_same : (a : ℕ) → 1 ≤ a → a ≤ n → ¬ (a ≡ literal / 2) → value_at w' n a ≡ value_at w n a
    value_same a l h d = c.other (n - 1 + a) (omega arith) (omega arith) (omega arith) (omega arith)

    behind : (i : ℕ) → 4 * n ≤ i → word w' i ≡ word w i
    behind i l = c.other i (omega (arith, room_left)) (omega (arith, p.high, room_left)) (omega (arith, room_left)) (omega (arith, room_left))

    -- ---- the rows

    abbrev new : Row
    new = a_row (literal_of literal) level (mark / 65536 % 65536)

    new_row : row_at w' n len ≡ new
    new_row = ap₂ {A = ℕ} {B = ℕ} (λ x y. a_row (literal_of x) (y % 65536) (y / 65536 % 65536)) c.here c.marked
        ∙ ap {A = ℕ} (λ v. a_row (literal_of literal) v (mark / 65536 % 65536)) levelled

    rows_more : rows_from w' n (len + 1) ≡ new ∷ rows_from w n len
    unfolding rows_from
    rows_more = ap {A = ℕ} (rows_from w' n) (add-one len) ∙ ap₂ {A = Row} {B = List Row} ◌∷◌ new_row
        (rows_kept w w' n len (λ i l. literal_same i (omega (arith, room_left)) (omega arith)) (λ i l. mark_same i (omega (arith, room_left)) (omega arith)))

    values_more : (a : ℕ) → 1 ≤ a → a ≤ n → value_at w' n a ≡ value_word (rows_from w' n (len + 1)) a
    values_more a l h = same_or_not a (literal / 2)
        (λ e. ap {A = ℕ} (value_at w' n) e ∙ c.value
        ∙ omega (arith, sign_of literal p.low, rows_length w n len, value_word_same new (rows_from w n len) a (atom_of literal ∙ sym e))
        ∙ ap (λ rs. value_word rs a) (sym rows_more))
        (λ d. value_same a l h d ∙ s.trail_ok.values a l h ∙ sym (value_word_other new (rows_from w n len) a (λ e. d (sym e ∙ atom_of literal)))
        ∙ ap (λ rs. value_word rs a) (sym rows_more))

    trail_more : TrailOk w' n (len + 1) level
    trail_more = record {
      atoms = subst (AtomsOnce n) (sym rows_more) (once_more level (mark / 65536 % 65536));
      values = values_more;
      rising = subst (Rising level) (sym rows_more) (omega arith, s.trail_ok.rising);
      front = λ i l h. c.other i (omega arith) (omega arith) (omega arith) (omega arith) ∙ s.trail_ok.front i l h;
      literals = λ i l h. literal_same i h (omega arith) ∙ s.trail_ok.literals i (omega arith) h;
      marks = λ i l h. mark_same i h (omega arith) ∙ s.trail_ok.marks i (omega arith) h;
    }

    -- ---- word 0

    length_small : word w 0 / 4294967296 % 65536 < 65535
    length_small = omega (arith, s.header.length_is, room_left, atoms_few)

    atoms_same : atoms_of w' ≡ atoms_of w
    atoms_same = ap {A = ℕ} (λ x. x % 65536) c.first ∙ more_atoms (word w 0)

    sentences_same : sentences_of w' ≡ sentences_of w
    sentences_same = ap {A = ℕ} (λ x. x / 65536 % 65536) c.first ∙ more_sentences (word w 0)

    length_more : length_of w' ≡ len + 1
    length_more = ap {A = ℕ} (λ x. x / 4294967296 % 65536) c.first ∙ more_length (word w 0) length_small ∙ ap {A = ℕ} (λ k. k + 1) s.header.length_is

    level_same : level_of w' ≡ level_of w
    level_same = ap {A = ℕ} (λ x. x / 281474976710656) c.first ∙ more_level (word w 0) length_small

    standing_more : TrailReady lim w' n (len + 1) level
    standing_more = record {
      fitting = s.fitting;
      atoms = atoms_same ∙ s.atoms;
      header = omega (arith, c.size, atoms_same, sentences_same, length_more, level_same, s.header, s.atoms, room_left);
      trail_ok = trail_more;
      fits = omega (arith, c.first, header_fits);
    }

    pub put_stands : Grown lim w w' n len level literal mark
    put_stands = record {
      stands = standing_more;
      rows = rows_more;
      place = ap {A = ℕ} (λ x. x / 4294967296) c.marked;
      value = c.value;
      size = c.size;
      sentences = sentences_same;
      literals = λ i l. literal_same i (omega (arith, room_left)) (omega arith);
      marks = λ i l. mark_same i (omega (arith, room_left)) (omega arith);
      behind = behind;
      values = value_same;
      standings = λ a l h d.
          shows trail_more a l h ∙ ap {A = ℕ} (λ v. cond (eqb v 0) free (fixed (eqb (v % 2) 1))) (value_same a l h d) ∙ sym (shows s.trail_ok a l h);
    }
