-- An accepted load leaves a whole area: the stored sentences are whole and in their places, the trail is empty, and renewing the bounds,
-- with every atom touched, makes each sentence match the empty trail.
use mathlib.Core.Path.{◌≡◌, refl, sym, ap, ap₂, ◌∙◌}
use mathlib.Core.Logic.{◌⊎◌, inl, inr}
use mathlib.Core.List.{List, [], ◌∷◌}
use Prim.Native.Nat.{ℕ, zero, suc, ◌+◌, ◌*◌, ◌-◌, ◌/◌, ◌%◌, ◌<◌, ◌≤◌}
use native.Mathlib.Omega.{arith}
use native.Mathlib.Numerals.{add-one}
use lib.ListN.{length, get_or}
use Rattle.types.specs.declared.Limits.{Limits}
use Rattle.types.specs.Limits.{Fitting}
use Rattle.decide.specs.Below.{sum_first}
use Rattle.decide.proofs.Below.{sum_none, sum_step}
use Rattle.meaning.specs.Merge.{Rule}
use Rattle.meaning.specs.Computed.{standing_of}
use Rattle.book.specs.Book.{rules_of}
use Rattle.area.specs.Layout.{word, atoms_of, sentences_of, level_of, rows_from, rows_of, value_word, record_at, written_at, rules_from, entries_before}
use Rattle.area.specs.Whole.{Whole}
use Rattle.extremes.specs.Inner.Stored.{Shows, standing_word}
use Rattle.trail_check.specs.Trail.{HeaderOk, TrailOk}
use Rattle.theory_check.specs.Theory.{PlacesOk, SentenceOk}
use Rattle.theory_check.proofs.Places.{none_before, one_more}
use Rattle.columns.specs.Columns.{Columns, written_from, sentences_in}
use Rattle.columns.specs.Refusals.{columns_need}
use Rattle.columns.specs.Decides.{Accepted}
use Rattle.whole.specs.Parts.{counters_with, Matching}
use Rattle.refresh.specs.Inner.Refresh.{Refreshable, Untouched, AsBefore, Renewed, Refreshed}
use Rattle.whole.proofs.Join.{joined_at}
use Rattle.whole.proofs.Frame.{drop_same}
use Rattle.whole.proofs.Theories.{SameTheory, theory_behind, rule_stays, sentence_stays, rules_stay, places_stay}
use Rattle.whole.proofs.Trails.{header_stays, trail_stays}
use Rattle.refresh.proofs.Matching.{renewed_matches}
use Rattle.store.specs.Inner.Stored.{AllStored}
use Rattle.load.specs.Load.{Loaded}
use Rattle.store.proofs.Storing.{written_is}

-- ---- word 0 of n atoms and S sentences, an empty trail and level 0

sentences_field : (x n S : ℕ) → n ≤ 4096 → S ≤ 1024 → x ≡ n + 65536 * S → x / 65536 % 65536 ≡ S
sentences_field x n S a b e = let q : x / 65536 ≡ S = omega arith in rw q (omega arith)

length_field : (x n S : ℕ) → n ≤ 4096 → S ≤ 1024 → x ≡ n + 65536 * S → x / 4294967296 % 65536 ≡ 0
length_field x n S a b e = let q : x / 4294967296 ≡ 0 = omega arith in ap {A = ℕ} (λ y. y % 65536) q

level_field : (x n S : ℕ) → n ≤ 4096 → S ≤ 1024 → x ≡ n + 65536 * S → x / 281474976710656 ≡ 0
level_field x n S a b e = omega arith

module _ (lim : Limits) (w w1 : List ℕ) (n : ℕ) (c : Columns) (fit : Fitting lim) (ok : Accepted lim (length w) n c) (st : AllStored w w1 n c) where
  abbrev S : ℕ
  S = length c.heads

  -- ---- the stored theory

  counts_are : (s : ℕ) → s < S → written_at w1 (record_at n s) ≡ get_or c.counts s 0
  counts_are s l = written_is lim (length w) n c fit ok w1 s (sum_first c.counts s) l (st.each s l)

  before_is : (s : ℕ) → s ≤ S → entries_before w1 n s ≡ sum_first c.counts s
  before_is zero l = none_before w1 n ∙ sym (sum_none c.counts)
  before_is (suc s) l = ap {A = ℕ} (entries_before w1 n) (sym (add-one s)) ∙ one_more w1 n s
      ∙ ap₂ {A = ℕ} {B = ℕ} (λ a b. a + b) (before_is s (omega arith)) (counts_are s l)
      ∙ sym (sum_step c.counts s) ∙ ap {A = ℕ} (sum_first c.counts) (add-one s)

  total : entries_before w1 n S ≡ length c.weights
  total = before_is S (omega arith) ∙ ap {A = ℕ} (sum_first c.counts) (sym ok.shape.equals.counts) ∙ ok.shape.sum

  sentence_ok : (s : ℕ) → s < S → SentenceOk lim w1 n S (record_at n s)
  sentence_ok s l = (st.each s l).whole lim (ok.passes s l)

  places : PlacesOk lim w1 n S
  places = record {
    each = λ s l. record {
      place = (st.each s l).place ∙ sym (before_is s (omega arith));
      few = (sentence_ok s l).rule.few;
      merged = (st.each s l).merged;
    };
    entries = omega (arith, total, ok.shape.within.few_entries);
    room = omega (arith, total, ok.enough, st.size);
  }

  pub refreshable : (touched : List ℕ) → length touched ≡ 4097 → Refreshable lim w1 n S touched
  refreshable touched e = record {
    fitting = fit;
    atoms_low = ok.shape.within.low;
    atoms_high = ok.shape.within.high;
    sentences = ok.shape.within.few_sentences;
    places = places;
    each = sentence_ok;
    table = e;
  }

  rules_are : (s k : ℕ) → s + k ≤ S → rules_from w1 n S s k ≡ rules_of (sentences_in (written_from c s k))
  unfolding rules_from sentences_in written_from
  rules_are s zero l = refl
  rules_are s (suc k) l = ap₂ {A = Rule} {B = List Rule} (λ r rs. r ∷ rs) (st.each s (omega arith)).rule (rules_are (suc s) k (omega arith))

  -- ---- the empty trail

  shows_none : Shows w1 n []
  unfolding standing_of
  shows_none a low high = ap {A = ℕ} standing_word (sym (st.blank (n - 1 + a) (omega arith) (omega arith)))

  trail_ok : TrailOk w1 n 0 0
  unfolding rows_from value_word
  trail_ok =
      record {
        atoms = tt;
        values = λ a l h. st.blank (n - 1 + a) (omega arith) (omega arith);
        rising = tt;
        front = λ i l h. st.blank i l (omega arith);
        literals = λ i l h. st.blank (2 * n + i) (omega arith) (omega arith);
        marks = λ i l h. st.blank (3 * n + i) (omega arith) (omega arith);
      }

  atoms_are : atoms_of w1 ≡ n
  atoms_are = omega (arith, st.first)

  sentences_are : sentences_of w1 ≡ S
  sentences_are = sentences_field (word w1 0) n S (omega arith) (omega arith) st.first

  level_none : level_of w1 ≡ 0
  level_none = level_field (word w1 0) n S (omega arith) (omega arith) st.first

  header : HeaderOk lim w1 0 0
  header = record {
    atoms_low = omega (arith, atoms_are);
    atoms_high = omega (arith, atoms_are, ok.shape.within.high);
    sentences = omega (arith, sentences_are, ok.shape.within.few_sentences);
    records = omega (arith, atoms_are, sentences_are, ok.enough, st.size);
    length_is = length_field (word w1 0) n S (omega arith) (omega arith) st.first;
    level_is = level_none;
    level_limit = omega (arith, level_none);
    few = omega arith;
  }

  -- ---- the bounds renewed

  module _ (w2 touched : List ℕ) (all : (a : ℕ) → a ≤ 4096 → word touched a ≡ 1) (done : Refreshed w1 w2 n S touched) where
    same : SameTheory w1 w2 n S
    same = theory_behind done.size (λ s h. (done.each s h).same) done.behind

    -- the head of each sentence is touched
    matches : (s : ℕ) → s < S → Matching w2 n S (record_at n s) []
    matches s h = go (done.each s h).how
      where
        go : (Untouched w1 n S (record_at n s) touched × AsBefore w1 w2 (record_at n s)) ⊎ Renewed w1 w2 n S (record_at n s) → Matching w2 n S (record_at n s) []
        go (inl p) =
            let high = (sentence_ok s h).rule.head_high in
            let one = all (word w1 (record_at n s)) (omega (arith, high)) in
            let b : ⊥ = omega (arith, one, p.0.0) in absurd b
        go (inr r) = renewed_matches w1 w2 n S (record_at n s) [] (rule_stays same s h) shows_none r

    first : word w2 0 ≡ word w1 0
    first = done.front 0 (omega arith)

    atoms_new : atoms_of w2 ≡ n
    atoms_new = ap {A = ℕ} (λ x. x % 65536) first ∙ atoms_are

    sentences_new : sentences_of w2 ≡ S
    sentences_new = ap {A = ℕ} (λ x. x / 65536 % 65536) first ∙ sentences_are

    header_new : HeaderOk lim w2 0 0
    header_new = header_stays lim w1 w2 0 0 (omega (arith, done.size, header.records)) first header

    whole : Whole lim w2 (counters_with 0 0)
    unfolding rows_from
    whole = joined_at lim w2 0 0 n S atoms_new sentences_new header_new (record {
      trail_ok = trail_stays w1 w2 n done.front 0 0 (omega arith) trail_ok;
      places = places_stay same lim (omega (arith, done.size, places.room)) places;
      sentences = λ s h. record { words = sentence_stays same lim s h (sentence_ok s h); matching = matches s h };
      reasons = λ i l. absurd (omega arith);
    })

    rows_new : rows_of w2 ≡ []
    unfolding rows_from
    rows_new = ap {A = ℕ} (rows_from w2 (atoms_of w2)) header_new.length_is

    pub loaded : Loaded lim w w2 n c
    loaded = record {
      whole = whole;
      atoms = atoms_new;
      theory = ap₂ {A = ℕ} {B = ℕ} (λ m k. rules_from w2 m k 0 k) atoms_new sentences_new ∙ rules_stay same 0 S (omega arith) ∙ rules_are 0 S (omega arith);
      rows = rows_new;
      level = header_new.level_is;
      size = done.size ∙ st.size;
      rest = drop_same w w2 (columns_need n c) (done.size ∙ st.size) (λ i l. done.behind i (omega arith) ∙ st.rest i l);
    }
