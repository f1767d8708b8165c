-- What a new length and level in word 0 leave: the other fields and all other words, and with them the trail's words and rows. So a level
-- more, and rows cut with the level lowered, leave right words.
use mathlib.Core.Path.{◌≡◌, sym, ◌∙◌, ap, subst}
use mathlib.Core.List.{List}
use Prim.Native.Nat.{ℕ, ◌+◌, ◌-◌, ◌*◌, ◌/◌, ◌%◌, ◌<◌, ◌≤◌}
use native.Mathlib.Omega.{arith}
use lib.ListN.{length, length-set, set}
use lib.Seq.{get_or-set_same, get_or-set_other}
use Rattle.types.specs.declared.Limits.{Limits}
use Rattle.types.specs.Limits.{Fitting}
use Rattle.book.specs.Rows.{Row}
use Rattle.area.specs.Layout.{word, atoms_of, sentences_of, length_of, level_of, rows_from, value_word}
use Rattle.area.specs.Whole.{AtomsOnce, Rising}
use Rattle.trail_check.specs.Trail.{TrailOk}
use Rattle.trail_check.proofs.Rows.{rows_kept}
use Rattle.trail.specs.Inner.Step.{TrailReady, Cut}
use Rattle.trail.specs.Inner.Header.{header_word}
use Rattle.trail.proofs.Fields.{atoms_field, sentences_field, length_field, level_field}
use Rattle.trail.proofs.Rows.{rising_higher}

-- the list that `set_header` leaves
abbrev pub headed : List ℕ → ℕ → ℕ → ℕ → List ℕ
headed w n len level = set w 0 (header_word n (sentences_of w) len level)

pub record Headed (w w' : List ℕ) (n len level : ℕ) : Type 0 where
  pub size : length w' ≡ length w
  pub first : word w' 0 ≡ header_word n (sentences_of w) len level
  pub atoms : atoms_of w' ≡ n
  pub sentences : sentences_of w' ≡ sentences_of w
  pub length_is : length_of w' ≡ len
  pub level_is : level_of w' ≡ level
  pub other : (i : ℕ) → ¬ (i ≡ 0) → word w' i ≡ word w i

pub header_set : (w : List ℕ) (n len level : ℕ) → 1 ≤ length w → n < 65536 → len < 65536 → Headed w (headed w n len level) n len level
header_set w n len level some a c = let b : sentences_of w < 65536 = omega arith in
    let e : word (headed w n len level) 0 ≡ header_word n (sentences_of w) len level = get_or-set_same w 0 (header_word n (sentences_of w) len level) 0 (omega arith) in
    record {
      size = length-set w 0 (header_word n (sentences_of w) len level);
      first = e;
      atoms = ap {A = ℕ} (λ x. x % 65536) e ∙ atoms_field n (sentences_of w) len level a b c;
      sentences = ap {A = ℕ} (λ x. x / 65536 % 65536) e ∙ sentences_field n (sentences_of w) len level a b c;
      length_is = ap {A = ℕ} (λ x. x / 4294967296 % 65536) e ∙ length_field n (sentences_of w) len level a b c;
      level_is = ap {A = ℕ} (λ x. x / 281474976710656) e ∙ level_field n (sentences_of w) len level a b c;
      other = λ i d. get_or-set_other w 0 i (header_word n (sentences_of w) len level) 0 d;
    }

module _ (w w' : List ℕ) (n len level : ℕ) (some : 1 ≤ n) (h : Headed w w' n len level) where
  pub headed_rows : (k : ℕ) → rows_from w' n k ≡ rows_from w n k
  headed_rows k = rows_kept w w' n k (λ i l. h.other (2 * n + i) (omega arith)) (λ i l. h.other (3 * n + i) (omega arith))

  headed_trail : (v : ℕ) → v ≤ level → TrailOk w n len v → TrailOk w' n len level
  headed_trail v low ok = record {
    atoms = subst (AtomsOnce n) (sym (headed_rows len)) ok.atoms;
    values = λ a l u. h.other (n - 1 + a) (omega arith) ∙ ok.values a l u ∙ ap {A = List Row} (λ rs. value_word rs a) (sym (headed_rows len));
    rising = subst (Rising level) (sym (headed_rows len)) (rising_higher v level (rows_from w n len) low ok.rising);
    front = λ i l u. h.other i (omega arith) ∙ ok.front i l u;
    literals = λ i l u. h.other (2 * n + i) (omega arith) ∙ ok.literals i l u;
    marks = λ i l u. h.other (3 * n + i) (omega arith) ∙ ok.marks i l u;
  }

  -- of words that were right in all but their counters
  headed_stands : (lim : Limits) (v : ℕ) → Fitting lim → n ≤ lim.atoms → sentences_of w ≤ lim.sentences → 4 * n + 8 * sentences_of w ≤ length w
      → len ≤ n → level ≤ lim.levels → v ≤ level → TrailOk w n len v → TrailReady lim w' n len level
  headed_stands lim v f atoms sentences records few limit low ok = record {
    fitting = f;
    atoms = h.atoms;
    header = omega arith;
    trail_ok = headed_trail v low ok;
    fits = omega (arith, h.first, f.levels, f.atoms, f.sentences);
  }

module _ (lim : Limits) (w : List ℕ) (n len level : ℕ) (s : TrailReady lim w n len level) where
  -- one level more
  pub raise_stands : level + 1 ≤ lim.levels → TrailReady lim (headed w n len (level + 1)) n len (level + 1)
  raise_stands l = let t = s.header in headed_stands w (headed w n len (level + 1)) n len (level + 1) (omega (arith, t.atoms_low, s.atoms))
      (header_set w n len (level + 1) (omega (arith, t.atoms_low, t.records)) (omega (arith, s.fitting.atoms)) (omega (arith, t.few, s.fitting.atoms)))
      lim level s.fitting (omega (arith, t.atoms_high, s.atoms)) t.sentences (omega (arith, t.records, s.atoms)) (omega (arith, t.few, s.atoms)) l (omega arith)
      s.trail_ok

  -- rows above level k cut, and then the counters set
  pub cut_stands : (w' : List ℕ) (v k left : ℕ) (touched : List ℕ) → Cut w w' n len v k left touched → k < level → TrailReady lim (headed w' n left k) n left k
  cut_stands w' v k left touched c l = let t = s.header in
      let e : sentences_of w' ≡ sentences_of w = ap {A = ℕ} (λ x. x / 65536 % 65536) c.first in
      headed_stands w' (headed w' n left k) n left k (omega (arith, t.atoms_low, s.atoms))
      (header_set w' n left k (omega (arith, t.atoms_low, t.records, c.size)) (omega (arith, s.fitting.atoms)) (omega (arith, c.few, t.few, s.fitting.atoms)))
      lim k s.fitting (omega (arith, t.atoms_high, s.atoms)) (omega (arith, t.sentences)) (omega (arith, t.records, s.atoms, c.size)) (omega (arith, t.few, s.atoms, c.few))
      (omega (arith, t.level_limit, t.level_is)) (omega arith) c.trail_ok
