-- Words past the need do not count. A list that has the words of a whole area below its need, and is no shorter than the need, is whole with
-- the same counters, and the same atoms, level, rows and theory are read off it: every clause of wholeness looks below the need alone.
use mathlib.Core.Path.{◌≡◌, sym, ap, ap₂, ◌∙◌, subst}
use mathlib.Core.List.{List, ◌++◌}
use Prim.Native.Nat.{ℕ, ◌+◌, ◌*◌, ◌/◌, ◌%◌, ◌<◌, ◌≤◌}
use native.Mathlib.Omega.{arith}
use lib.ListN.{length, length-append, get_or-append}
use lib.IntN.{ℤ}
use lib.Dec.{leb}
use Rattle.types.specs.declared.Limits.{Limits}
use Rattle.numbers.specs.Extended.{up, down}
use Rattle.numbers.specs.Words.{word as word_of}
use Rattle.meaning.specs.Merge.{Rule}
use Rattle.meaning.specs.Computed.{extreme, first_said}
use Rattle.book.specs.Rows.{Row, trail}
use Rattle.book.specs.Book.{Counters}
use Rattle.area.specs.Layout.{word, atoms_of, sentences_of, length_of, rows_from, record_at, rules_from, need_of}
use Rattle.area.specs.Whole.{Whole}
use Rattle.theory_check.proofs.Places.{placed, room_below}
use Rattle.whole.specs.Parts.{Matching, SentenceRight, AllRight, Parts}
use Rattle.whole.specs.Same.{ReadAlike}
use Rattle.whole.proofs.Join.{parts, joined_at}
use Rattle.whole.proofs.Frame.{same_record, entries_inside}
use Rattle.whole.proofs.Theories.{SameTheory, rule_stays, sentence_stays, rules_stay, places_stay}
use Rattle.whole.proofs.Trails.{header_stays, rows_stay, trail_stays, reason_stays}

module _ (lim : Limits) (w w' : List ℕ) (c : Counters) (h : Whole lim w c) (room : need_of w ≤ length w')
    (same : (i : ℕ) → i < need_of w → word w' i ≡ word w i) where
  abbrev n : ℕ
  n = atoms_of w

  abbrev S : ℕ
  S = sentences_of w

  old : Parts lim w c.length_is c.level_is
  old = parts lim w c.length_is c.level_is h

  -- ---- word 0 and the trail

  front : (i : ℕ) → i < 4 * n → word w' i ≡ word w i
  front i l = same i (omega arith)

  first : word w' 0 ≡ word w 0
  first = front 0 (omega (arith, h.theory.atoms_low))

  atoms_same : atoms_of w' ≡ n
  atoms_same = ap {A = ℕ} (λ x. x % 65536) first

  sentences_same : sentences_of w' ≡ S
  sentences_same = ap {A = ℕ} (λ x. x / 65536 % 65536) first

  few : c.length_is ≤ n
  few = old.header.few

  rows_same : rows_from w' n c.length_is ≡ rows_from w n c.length_is
  rows_same = rows_stay w w' n front c.length_is few

  -- ---- the sentences

  theory_same : SameTheory w w' n S
  theory_same = record {
    records = λ s l. same_record w w' (record_at n s) (λ i m u. same i (omega arith)) (h.theory.each s l).tag;
    entries = λ s l. let p = placed lim w n S s old.places l in let q = room_below lim w n S s old.places l in
        entries_inside w w' n S (record_at n s) p.merged p.room (omega (arith, q)) (λ i u. same i (omega (arith, q)));
  }

  abbrev t : List ℤ
  t = trail (rows_from w n c.length_is)

  matching : (s : ℕ) → s < S → Matching w' n S (record_at n s) t
  matching s l = let b = record_at n s in let rule = rule_stays theory_same s l in let m = (old.sentences s l).matching in record {
    bounds = record {
      least = same (b + 4) (omega arith) ∙ m.bounds.least ∙ ap {A = Rule} (λ r. word_of (extreme down r t)) (sym rule);
      greatest = same (b + 5) (omega arith) ∙ m.bounds.greatest ∙ ap {A = Rule} (λ r. word_of (extreme up r t)) (sym rule);
    };
    quiet = λ e. ap {A = Rule} (λ r. first_said r t) rule ∙ m.quiet (ap {A = ℕ} (leb 16) (sym (same (b + 1) (omega arith))) ∙ e);
  }

  right : AllRight lim w' n S c.length_is
  right s l = subst (λ (rs : List Row). SentenceRight lim w' n S (record_at n s) (trail rs)) (sym rows_same)
      (record { words = sentence_stays theory_same lim s l (old.sentences s l).words; matching = matching s l })

  -- ---- all

  pub whole_alike : Whole lim w' c
  whole_alike = joined_at lim w' c.length_is c.level_is n S atoms_same sentences_same
      (header_stays lim w w' c.length_is c.level_is (omega arith) first old.header) (record {
        trail_ok = trail_stays w w' n front c.length_is c.level_is few old.trail_ok;
        places = places_stay theory_same lim room old.places;
        sentences = right;
        reasons = λ i l. reason_stays w w' n front S i theory_same (omega (arith, few)) (old.reasons i l);
      })

  pub read_alike : ReadAlike w w'
  read_alike = record {
    atoms = atoms_same;
    level = ap {A = ℕ} (λ x. x / 281474976710656) first;
    rows = ap₂ {A = ℕ} {B = ℕ} (rows_from w') atoms_same (ap {A = ℕ} (λ x. x / 4294967296 % 65536) first) ∙ rows_stay w w' n front (length_of w) (omega (arith, few, h.length_is));
    theory = ap₂ {A = ℕ} {B = ℕ} (λ m k. rules_from w' m k 0 k) atoms_same sentences_same ∙ rules_stay theory_same 0 S (omega arith);
  }

-- ---- an area and a longer one

module _ (lim : Limits) (part rest : List ℕ) (c : Counters) where
  abbrev all : List ℕ
  all = part ++ rest

  -- cut at its end, not below its need
  module _ (h : Whole lim all c) (room : need_of all ≤ length part) where
    kept : (i : ℕ) → i < need_of all → word part i ≡ word all i
    kept i l = sym (get_or-append part rest 0 i (omega arith))

    pub cut_whole : Whole lim part c
    cut_whole = whole_alike lim all part c h room kept

    pub cut_alike : ReadAlike all part
    cut_alike = read_alike lim all part c h room kept

  -- with words put behind it
  module _ (h : Whole lim part c) where
    grown : (i : ℕ) → i < need_of part → word all i ≡ word part i
    grown i l = get_or-append part rest 0 i (omega (arith, h.enough))

    grown_room : need_of part ≤ length all
    grown_room = omega (arith, h.enough, length-append part rest)

    pub grown_whole : Whole lim all c
    grown_whole = whole_alike lim part all c h grown_room grown

    pub grown_alike : ReadAlike part all
    grown_alike = read_alike lim part all c h grown_room grown
