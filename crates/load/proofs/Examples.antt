-- The words given for M4 are whole, hold its merge, and are what an accepted load of it leaves, in any area of 24 words: clause by clause
-- they compute. So a whole area with a sentence exists.
use mathlib.Core.Path.{◌≡◌, refl, sym, ◌∙◌}
use mathlib.Core.Bool.{true≢false}
use mathlib.Core.List.{List, []}
use Prim.Native.Nat.{ℕ, zero, suc, ◌-◌, ◌<◌, ◌≤◌}
use native.Mathlib.Omega.{arith}
use lib.ListN.{length, drop, length-drop}
use lib.Seq.{ext_get_or}
use lib.IntN.{pos}
use Rattle.types.specs.Limits.{document}
use Rattle.decide.specs.Below.{sum_first}
use Rattle.numbers.specs.Words.{unbias, literal_of}
use Rattle.meaning.specs.Merge.{turned_all, freed_all, put, collect, nonzero}
use Rattle.meaning.specs.Computed.{standing_of, gather, extreme}
use Rattle.book.specs.Book.{rules_of}
use Rattle.area.specs.Layout.{word, value_at, literal_at, cause_at, rows_from, value_word, rules_from, theory_of, entries_of, entries_before, rule_at}
use Rattle.area.specs.Whole.{Whole, RuleWhole}
use Rattle.trail_check.specs.Trail.{HeaderOk, TrailOk}
use Rattle.theory_check.specs.Theory.{PlacesOk, SentenceOk}
use Rattle.columns.specs.Columns.{paired, written_from, all_written, sentences_in}
use Rattle.whole.specs.Parts.{counters_with, Matching}
use Rattle.whole.proofs.Join.{joined}
use Rattle.load.specs.Load.{Loaded}
use Rattle.load.specs.Examples.{given, area}

three : (P : ℕ → Type 0) → P 0 → P 1 → P 2 → (i : ℕ) → i < 3 → P i
three P a b c zero l = a
three P a b c (suc zero) l = b
three P a b c (suc (suc zero)) l = c
three P a b c (suc (suc (suc i))) l = let x : ⊥ = omega arith in absurd x

only : (P : ℕ → Type 0) → P 0 → (i : ℕ) → i < 1 → P i
only P a zero l = a
only P a (suc i) l = let x : ⊥ = omega arith in absurd x

header : HeaderOk document area 0 0
header = record {
  atoms_low = omega arith;
  atoms_high = omega arith;
  sentences = omega arith;
  records = omega arith;
  length_is = refl;
  level_is = refl;
  level_limit = omega arith;
  few = omega arith;
}

trail_ok : TrailOk area 3 0 0
unfolding rows_from value_word
trail_ok = record {
  atoms = tt;
  values = λ a l h. values a l h;
  rising = tt;
  front = λ i l h. three (λ i. 1 ≤ i → word area i ≡ 0) (λ q. absurd (omega arith)) (λ q. refl) (λ q. refl) i h l;
  literals = λ i l h. three (λ i. literal_at area 3 i ≡ 0) refl refl refl i h;
  marks = λ i l h. three (λ i. cause_at area 3 i ≡ 0) refl refl refl i h;
}
  where
    values : (a : ℕ) → 1 ≤ a → a ≤ 3 → value_at area 3 a ≡ 0
    values zero l h = let x : ⊥ = omega arith in absurd x
    values (suc a) l h = three (λ i. value_at area 3 (suc i) ≡ 0) refl refl refl a (omega arith)

places : PlacesOk document area 3 1
unfolding entries_before
places = record { each = only (λ s. _) (record { place = refl; few = omega arith; merged = omega arith }); entries = omega arith; room = omega arith }

apart : (k : ℕ) → ¬ (pos (suc k) ≡ pos 0)
apart k e = let q : suc k ≡ 0 = cc in omega arith

rule_whole : RuleWhole document 3 (rule_at area 3 1 12)
unfolding entries_of unbias literal_of
rule_whole = record {
  few = omega arith;
  head_low = omega arith;
  head_high = omega arith;
  bound = omega arith;
  constant = omega arith;
  entries = (
    record { atom_low = omega arith; atom_high = omega arith; weighs = record { itself = refl; something = apart 0; size = omega arith }; other = λ e. omega arith },
    (
      record { atom_low = omega arith; atom_high = omega arith; weighs = record { itself = refl; something = apart 1; size = omega arith }; other = λ e. omega arith },
      tt,
    ),
  );
  once = (((λ e. omega arith), tt), (tt, tt));
  product = λ e. tt;
}

sentence_ok : SentenceOk document area 3 1 12
sentence_ok = record { kind = omega arith; tag = omega arith; rule = rule_whole; constant = λ t. absurd t; unused = λ i l h. absurd (omega arith) }

matching : Matching area 3 1 12 []
unfolding entries_of unbias literal_of standing_of extreme gather
matching = record { bounds = record { least = refl; greatest = refl }; quiet = λ e. absurd (true≢false e) }

theory_is : theory_of area ≡ rules_of (sentences_in (all_written given))
unfolding entries_of unbias literal_of rules_from sentences_in written_from paired sum_first turned_all freed_all put collect nonzero
theory_is = refl

pub example_whole : Whole document area (counters_with 0 0)
unfolding rows_from
example_whole = joined document area 0 0 (record {
  header = header;
  trail_ok = trail_ok;
  places = places;
  sentences = only (λ s. _) (record { words = sentence_ok; matching = matching });
  reasons = λ i l. absurd (omega arith);
})

pub example_loaded : (w : List ℕ) → length w ≡ 24 → Loaded document w area 3 given
unfolding rows_from
example_loaded w e = record {
  whole = example_whole;
  atoms = refl;
  theory = theory_is;
  rows = refl;
  level = refl;
  size = sym e;
  rest = ext_get_or 0 (drop 24 area) (drop 24 w) (let q : 0 ≡ length w - 24 = omega arith in q ∙ sym (length-drop 24 w)) (λ i l. absurd (omega arith));
}
