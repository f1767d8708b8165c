-- A whole area where no sentence has anything to say is whole with its pending marks cleared: a mark is no part of a rule, the bounds
-- stay, and every sentence is silent.
use mathlib.Core.Path.{◌≡◌, sym, ap, ap₂, ◌∙◌, subst}
use mathlib.Core.List.{List}
use Prim.Native.Nat.{ℕ, ◌+◌, ◌*◌, ◌/◌, ◌%◌, ◌<◌, ◌≤◌}
use native.Mathlib.Omega.{arith}
use lib.IntN.{ℤ}
use Rattle.types.specs.declared.Limits.{Limits}
use Rattle.numbers.specs.Extended.{up, down}
use Rattle.numbers.specs.Words.{word as word_of}
use Rattle.meaning.specs.Merge.{Rule}
use Rattle.meaning.specs.Computed.{extreme, first_said}
use Rattle.book.specs.Rows.{Row, trail}
use Rattle.book.specs.Table.{nothing, first_to_speak}
use Rattle.book.specs.Book.{judged_all}
use Rattle.area.specs.Layout.{word, atoms_of, sentences_of, rows_from, rows_of, record_at, rule_at, rules_from, theory_of, entries_before, need_of}
use Rattle.area.specs.Whole.{Whole}
use Rattle.trail_check.specs.Trail.{HeaderOk}
use Rattle.whole.specs.Parts.{counters_with, Matching, SentenceRight, AllRight, Parts}
use Rattle.whole.specs.Same.{SameRecord}
use Rattle.whole.proofs.Join.{parts, joined_at}
use Rattle.whole.proofs.Frame.{drop_same}
use Rattle.whole.proofs.Theories.{SameTheory, theory_behind, rule_stays, sentence_stays, rules_stay, before_stays, places_stay}
use Rattle.whole.proofs.Trails.{header_stays, rows_stay, trail_stays, reason_stays}
use Rattle.refresh.proofs.WholeNext.{RenewedWhole}
use Rattle.derive.specs.Inner.Settle.{Settled}
use Rattle.derive.proofs.Heard.{all_silent}

module _ (lim : Limits) (w w' : List ℕ) (len level : ℕ) (h : Whole lim w (counters_with len level)) (done : Settled w w' (atoms_of w) (sentences_of w))
    (said : first_to_speak 1 (judged_all (theory_of w)) (trail (rows_of w)) ≡ nothing) where
  abbrev n : ℕ
  n = atoms_of w

  abbrev S : ℕ
  S = sentences_of w

  before : Parts lim w len level
  before = parts lim w len level h

  -- ---- words and theory

  front : (i : ℕ) → i < 4 * n → word w' i ≡ word w i
  front i l = done.other i (λ s m e. omega arith)

  behind : (i : ℕ) → 4 * n + 8 * S ≤ i → word w' i ≡ word w i
  behind i l = done.other i (λ s m e. omega arith)

  same_record : (s : ℕ) → s < S → SameRecord w w' (record_at n s)
  same_record s l =
      let b = record_at n s in
      let e = done.tags s l in
      record {
        head = done.other b (λ k m q. omega arith);
        tag = ap {A = ℕ} (λ x. x % 16) e ∙ omega arith;
        tag_low = omega (arith, e);
        bound = done.other (b + 2) (λ k m q. omega arith);
        constant = done.other (b + 3) (λ k m q. omega arith);
        before = done.other (b + 6) (λ k m q. omega arith);
        counts = done.other (b + 7) (λ k m q. omega arith);
      }

  same : SameTheory w w' n S
  same = theory_behind done.size same_record behind

  -- ---- trail and bounds

  few : len ≤ n
  few = before.header.few

  rows_kept : rows_from w' n len ≡ rows_from w n len
  rows_kept = rows_stay w w' n front len few

  abbrev t : List ℤ
  t = trail (rows_from w n len)

  matches : (s : ℕ) → s < S → Matching w' n S (record_at n s) t
  matches s l =
      let b = record_at n s in
      let rule = rule_stays same s l in
      let old = (before.sentences s l).matching.bounds in
      record {
        bounds = record {
          least = done.other (b + 4) (λ k m q. omega arith) ∙ old.least ∙ ap {A = Rule} (λ r. word_of (extreme down r t)) (sym rule);
          greatest = done.other (b + 5) (λ k m q. omega arith) ∙ old.greatest ∙ ap {A = Rule} (λ r. word_of (extreme up r t)) (sym rule);
        };
        quiet = λ _.
            ap {A = Rule} (λ r. first_said r t) rule
            ∙ ap {A = ℕ} (λ k. first_said (rule_at w n S b) (trail (rows_from w n k))) (sym h.length_is)
            ∙ all_silent w (trail (rows_of w)) said s l;
      }

  right : AllRight lim w' n S len
  right s l =
      subst (λ (rs : List Row). SentenceRight lim w' n S (record_at n s) (trail rs)) (sym rows_kept)
      (record { words = sentence_stays same lim s l (before.sentences s l).words; matching = matches s l })

  -- ---- whole

  first : word w' 0 ≡ word w 0
  first = front 0 (omega (arith, h.theory.atoms_low))

  atoms_kept : atoms_of w' ≡ n
  atoms_kept = ap {A = ℕ} (λ x. x % 65536) first

  sentences_kept : sentences_of w' ≡ S
  sentences_kept = ap {A = ℕ} (λ x. x / 65536 % 65536) first

  header : HeaderOk lim w' len level
  header = header_stays lim w w' len level (omega (arith, done.size, before.header.records)) first before.header

  whole : Whole lim w' (counters_with len level)
  whole =
      joined_at lim w' len level n S atoms_kept sentences_kept header
      (record {
        trail_ok = trail_stays w w' n front len level few before.trail_ok;
        places = places_stay same lim (omega (arith, done.size, before.places.room)) before.places;
        sentences = right;
        reasons = λ i l. reason_stays w w' n front S i same (omega (arith, few)) (before.reasons i l);
      })

  pub settled_whole : RenewedWhole lim w w w' len level
  settled_whole = record {
    whole = whole;
    atoms = atoms_kept;
    sentences = sentences_kept;
    theory = ap₂ {A = ℕ} {B = ℕ} (λ m k. rules_from w' m k 0 k) atoms_kept sentences_kept ∙ rules_stay same 0 S (omega arith);
    rows = ap₂ {A = ℕ} {B = ℕ} (rows_from w') atoms_kept header.length_is ∙ rows_kept;
    level_is = header.level_is;
    need =
        ap₂ {A = ℕ} {B = ℕ} (λ m k. 4 * m + 8 * k + 2 * entries_before w' m k) atoms_kept sentences_kept
        ∙ ap {A = ℕ} (λ x. 4 * n + 8 * S + 2 * x) (before_stays same S (omega arith));
    size = done.size;
    rest = drop_same w w' (need_of w) done.size (λ i l. behind i (omega arith));
  }
