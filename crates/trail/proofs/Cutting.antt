-- Rows above a level taken off one by one from the last: what holds at each turn, at its start, from turn to turn and at its end. Levels
-- rise along the trail, so the first row from the end that is not above the level ends it.
use mathlib.Core.Path.{◌≡◌, refl, sym, ◌∙◌, ap}
use mathlib.Core.Bool.{cond}
use mathlib.Core.List.{List}
use Prim.Native.Nat.{ℕ, ◌+◌, ◌-◌, ◌*◌, ◌/◌, ◌%◌, ◌<◌, ◌≤◌}
use native.Mathlib.Omega.{arith}
use lib.ListN.{length, length-set, set}
use lib.Seq.{get_or-set_same, get_or-set_other}
use lib.Dec.{eqb}
use Rattle.meaning.specs.Computed.{free, fixed, standing_of}
use Rattle.book.specs.Rows.{trail, up_to}
use Rattle.area.specs.Layout.{word, value_at, literal_at, cause_at, row_at, rows_from}
use Rattle.area.specs.Whole.{Rising}
use Rattle.trail_check.specs.Trail.{TrailOk}
use Rattle.trail_check.proofs.Rows.{rows_last}
use Rattle.trail_check.proofs.Levels.{rising_row, rising_more, rising_none}
use Rattle.trail_check.proofs.Shown.{shows}
use Rattle.trail.specs.Inner.Step.{Cut}
use Rattle.trail.proofs.Rows.{same_or_not, up_to_all, up_to_less}
use Rattle.trail.proofs.TakenOff.{taken_off, last_low, last_high, off_size, off_literal, off_mark, off_value, off_first, off_behind, off_rows, off_trail}

-- `left` rows are left, and what is to be left of them is what is to be left of all
pub record Cutting (w w' : List ℕ) (n len level k left : ℕ) (touched : List ℕ) : Type 0 where
  pub fits : len ≤ n
  pub atoms : n ≤ 4096
  pub words : 4 * n ≤ length w
  pub size : length w' ≡ length w
  pub few : left ≤ len
  pub rows : up_to k (rows_from w' n left) ≡ up_to k (rows_from w n len)
  pub trail_ok : TrailOk w' n left level
  pub first : word w' 0 ≡ word w 0
  pub behind : (i : ℕ) → 4 * n ≤ i → word w' i ≡ word w i
  pub literals : (i : ℕ) → i < left → literal_at w' n i ≡ literal_at w n i
  pub marks : (i : ℕ) → i < left → cause_at w' n i ≡ cause_at w n i
  pub table : length touched ≡ 4097
  pub values : (a : ℕ) → 1 ≤ a → a ≤ n → word touched a ≡ 0 → value_at w' n a ≡ value_at w n a

pub cutting_starts : (w : List ℕ) (n len level k : ℕ) (touched : List ℕ) → len ≤ n → n ≤ 4096 → 4 * n ≤ length w → TrailOk w n len level
    → length touched ≡ 4097 → Cutting w w n len level k len touched
cutting_starts w n len level k touched fits atoms words ok size = search (refl, arith)

module _ (w w' : List ℕ) (n len level k left : ℕ) (touched : List ℕ) (c : Cutting w w' n len level k left touched) where
  module _ (some : 0 < left) where
    abbrev last : ℕ
    last = literal_at w' n (left - 1) / 2

    fewer : left ≤ n
    fewer = omega (arith, c.few, c.fits)

    room : 4 * n ≤ length w'
    room = omega (arith, c.size, c.words)

    pub literal_there : 2 * n + (left - 1) < length w'
    literal_there = omega (arith, fewer, room)

    pub row_within : (1 ≤ last) × (last ≤ n)
    row_within = (last_low w' n left level c.trail_ok some fewer room, last_high w' n left level c.trail_ok some fewer room)

    rows_less : k < cause_at w' n (left - 1) % 65536 → up_to k (rows_from (taken_off w' n (left - 1)) n (left - 1)) ≡ up_to k (rows_from w n len)
    rows_less above = ap (up_to k) (off_rows w' n left level c.trail_ok some fewer room)
        ∙ sym (up_to_less k (row_at w' n (left - 1)) (rows_from w' n (left - 1)) above) ∙ ap (up_to k) (sym (rows_last w' n left some)) ∙ c.rows

    touched_last : word (set touched last 1) last ≡ 1
    touched_last = get_or-set_same touched last 1 0 (omega (arith, c.table, c.atoms, row_within.1))

    values_less : (a : ℕ) → 1 ≤ a → a ≤ n → word (set touched last 1) a ≡ 0 → value_at (taken_off w' n (left - 1)) n a ≡ value_at w n a
    values_less a l h e = same_or_not a last
        (λ q. let t : word (set touched last 1) a ≡ 1 = ap {A = ℕ} (word (set touched last 1)) q ∙ touched_last in absurd (omega arith))
        (λ d. off_value w' n left level c.trail_ok some fewer room a l h d ∙ c.values a l h (sym (get_or-set_other touched last a 1 0 d) ∙ e))

    -- a row above k goes
    pub cutting_goes_on : k < cause_at w' n (left - 1) % 65536 → Cutting w (taken_off w' n (left - 1)) n len level k (left - 1) (set touched last 1)
    cutting_goes_on above = record {
      fits = c.fits;
      atoms = c.atoms;
      words = c.words;
      size = off_size w' n left level c.trail_ok some fewer room ∙ c.size;
      few = omega (arith, c.few);
      rows = rows_less above;
      trail_ok = off_trail w' n left level c.trail_ok some fewer room;
      first = off_first w' n left level c.trail_ok some fewer room ∙ c.first;
      behind = λ i l. off_behind w' n left level c.trail_ok some fewer room i l ∙ c.behind i l;
      literals = λ i l. off_literal w' n left level c.trail_ok some fewer room i (omega (arith, fewer)) (omega arith) ∙ c.literals i (omega arith);
      marks = λ i l. off_mark w' n left level c.trail_ok some fewer room i (omega (arith, fewer)) (omega arith) ∙ c.marks i (omega arith);
      table = length-set touched last 1 ∙ c.table;
      values = values_less;
    }

  -- no row is left, or one that is not above k
  cutting_ends : Rising k (rows_from w' n left) → (v : ℕ) → Cut w w' n len v k left touched
  cutting_ends low v = record {
    size = c.size;
    few = c.few;
    rows = sym (up_to_all k k (rows_from w' n left) (omega arith) low) ∙ c.rows;
    trail_ok = let t = c.trail_ok in record { atoms = t.atoms; values = t.values; rising = low; front = t.front; literals = t.literals; marks = t.marks };
    first = c.first;
    behind = c.behind;
    kept = λ i l. (c.literals i l, c.marks i l);
    table = c.table;
    values = c.values;
  }

  pub cut_at_none : left ≤ 0 → (v : ℕ) → Cut w w' n len v k left touched
  cut_at_none l = cutting_ends (rising_none w' n left k l)

  pub cut_at_row : 0 < left → cause_at w' n (left - 1) % 65536 ≤ k → (v : ℕ) → Cut w w' n len v k left touched
  cut_at_row l q = cutting_ends (rising_more w' n left k l q (rising_row w' n left level l c.trail_ok.rising).1)

-- an atom that is not marked stands as it stood
pub cut_standing : (w w' : List ℕ) (n len level v k left : ℕ) (touched : List ℕ) → TrailOk w n len level → Cut w w' n len v k left touched
    → (a : ℕ) → 1 ≤ a → a ≤ n → word touched a ≡ 0 → standing_of (trail (rows_from w' n left)) a ≡ standing_of (trail (rows_from w n len)) a
cut_standing w w' n len level v k left touched ok c a l h e =
    shows c.trail_ok a l h ∙ ap {A = ℕ} (λ x. cond (eqb x 0) free (fixed (eqb (x % 2) 1))) (c.values a l h e) ∙ sym (shows ok a l h)
