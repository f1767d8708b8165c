-- A stored sentence is whole and is its merge: the record's words hold what was written, and the merged entries stand behind it.
use mathlib.Core.Path.{◌≡◌, refl, sym, ap, ◌∙◌, subst}
use mathlib.Core.Bool.{not}
use mathlib.Core.List.{List, [], ◌∷◌}
use Prim.Native.Nat.{ℕ, ◌+◌, ◌-◌, ◌*◌, ◌/◌, ◌%◌, ◌<◌, ◌≤◌}
use native.Mathlib.Omega.{arith}
use lib.IntN.{ℤ, pos, negsuc, nat_abs}
use lib.ListN.{length}
use lib.Dec.{T}
use lib.Signed.{mag}
use borrow.Rule.Slice.PartMut.{put_mid}
use Rattle.numbers.specs.Words.{half, bias, unbias}
use Rattle.numbers.proofs.Words.{unbias_of}
use Rattle.meaning.specs.Meaning.{Entry, entry_atom, Kind, sum, product, count, maximum, minimum, mixes}
use Rattle.meaning.specs.Merge.{merge, rule_of}
use Rattle.meaning.proofs.Gather.{each_map}
use Rattle.area.specs.Layout.{word, record_at, tag_at, before_at, written_at, merged_at, kind_of, side_of, constant_of, entries_of, entry_at, entry_words, rule_at}
use Rattle.area.specs.Whole.{Near, RuleWhole}
use Rattle.blank.proofs.Parts.{put_size, put_below, put_within, put_above}
use Rattle.columns.specs.Columns.{Written, written_as, sentence_of}
use Rattle.columns.proofs.Paired.{paired_length}
use Rattle.columns.proofs.Passing.{kind_known, side_known, entries_few, entry_atoms, entries_fit, entries_unmixed, written_product_within}
use Rattle.columns.proofs.RuleWhole.{rule_whole}
use Rattle.gather.specs.declared.Merged.{Merged}
use Rattle.stored_sentence.specs.Inner.Sentences.{MergeAsked, MergedAt, Storable, Stored}
use Rattle.stored_sentence.proofs.Parts.{slice_kept}
use Rattle.stored_sentence.proofs.Frames.{same_rule}

-- the constant's word, by kind
constant_held : (k : Kind) (x : ℕ) (es : List Entry) → (T (mixes k) → unbias x ≡ (merge k es).constant) → constant_of k x ≡ (merge k es).constant
constant_held k x es = elim k as (λ k. (T (mixes k) → unbias x ≡ (merge k es).constant) → constant_of k x ≡ (merge k es).constant) [ sum ↦ λ h. h tt | product ↦ λ h. refl | count ↦ λ h. h tt | maximum ↦ λ h. refl | minimum ↦ λ h. refl ]

size_below : (z : ℤ) → nat_abs z ≤ 1000000000000000000 → mag z < half
size_below (pos n) h = omega arith
size_below (negsuc n) h = omega arith

-- ---- the fields of the tag and of the counts

side_field : (t kind side : ℕ) → kind ≤ 4 → side ≤ 1 → t ≡ kind + 8 * side + 16 → t / 8 % 2 ≡ side
side_field t kind side k d e = let q : t / 8 ≡ side + 2 = omega arith in rw q (omega arith)

-- ---- storing one sentence

module _ (w : List ℕ) (n S s before head kind side : ℕ) (bound : ℤ) (ws ls : List ℤ) (a : Storable w n S s before head kind side bound ws ls) where
  abbrev x : Written
  x = written_as head kind side bound ws ls

  -- the numbers fit
  pub record Small : Type 0 where
    pub atoms : n ≤ 4096
    pub sentences : S ≤ 1024
    pub entries : before + length ws ≤ 16384
    pub few : length ws ≤ 4096
    pub kind_low : kind ≤ 4
    pub side_low : side ≤ 1
    pub bound_near : Near bound 1000000000000000000

  pub length_is : length x.entries ≡ length ws
  length_is = paired_length ws ls a.same ∙ sym a.same

  pub small : Small
  small = record {
    atoms = omega (arith, a.atoms, a.fitting.atoms);
    sentences = omega (arith, a.sentences, a.fitting.sentences);
    entries = omega (arith, a.entries, a.fitting.entries);
    few = omega (arith, entries_few a.lim n x a.passes, a.fitting.each, length_is);
    kind_low = kind_known a.lim n x a.passes;
    side_low = side_known a.lim n x a.passes;
    bound_near = (rule_whole a.lim n x a.passes).bound;
  }

  pub merge_asked : MergeAsked w (4 * n + 8 * S + 2 * before) (kind_of kind) ws ls
  merge_asked = record {
    room = a.room;
    mergeable = λ part e. record {
      room = e;
      same = sym a.same;
      few = small.few;
      literals = each_map (λ e. (1 ≤ entry_atom e) × (entry_atom e ≤ n)) (λ e. (1 ≤ entry_atom e) × (entry_atom e ≤ 4096)) x.entries
          (λ e p. (p.0, omega (arith, p.1, small.atoms))) (entry_atoms a.lim n x a.passes);
      weights = entries_fit a.lim n x a.passes;
      signs = entries_unmixed a.lim n x a.passes;
      product = written_product_within a.lim n x a.passes;
    };
  }

  abbrev b : ℕ
  b = record_at n s

  abbrev at : ℕ
  at = 4 * n + 8 * S + 2 * before

  -- the words after the merge, and with the record's
  module _ (w1 : List ℕ) (r : Merged) (m : MergedAt w w1 at (kind_of kind) ws ls r) (own : List ℕ)
      (own_is : own ≡ head ∷ (kind + 8 * side + 16) ∷ bias bound ∷ r.constant ∷ 0 ∷ 0 ∷ before ∷ (length ws + 65536 * r.count) ∷ []) where
    abbrev w3 : List ℕ
    w3 = put_mid b (b + 8 - b) w1 own

    room : b + 8 ≤ length w1
    room = omega (arith, a.room, a.number, m.size)

    eight : length own ≡ b + 8 - b
    eight = ap length own_is ∙ omega arith

    size : length w3 ≡ length w
    size = put_size w1 own b (b + 8) (omega arith) room eight ∙ m.size

    -- what the record does not hold
    outside : (i : ℕ) → b + 8 ≤ i → word w3 i ≡ word w1 i
    outside i l = put_above w1 own b (b + 8) (omega arith) room eight i l

    front : (i : ℕ) → i < b → word w3 i ≡ word w1 i
    front i l = put_below w1 own b (b + 8) (omega arith) room eight i l

    held : (i : ℕ) → i < 8 → word w3 (b + i) ≡ word own i
    held i l = put_within w1 own b (b + 8) (omega arith) room eight i (omega arith)

    head_word : word w3 b ≡ head
    head_word = let e : b ≡ b + 0 = omega arith in ap {A = ℕ} (word w3) e ∙ held 0 (omega arith) ∙ ap {A = List ℕ} (λ l. word l 0) own_is

    tag_word : tag_at w3 b ≡ kind + 8 * side + 16
    tag_word = held 1 (omega arith) ∙ ap {A = List ℕ} (λ l. word l 1) own_is

    bound_word : word w3 (b + 2) ≡ bias bound
    bound_word = held 2 (omega arith) ∙ ap {A = List ℕ} (λ l. word l 2) own_is

    constant_word : word w3 (b + 3) ≡ r.constant
    constant_word = held 3 (omega arith) ∙ ap {A = List ℕ} (λ l. word l 3) own_is

    place_word : before_at w3 b ≡ before
    place_word = held 6 (omega arith) ∙ ap {A = List ℕ} (λ l. word l 6) own_is

    counts_word : word w3 (b + 7) ≡ length ws + 65536 * r.count
    counts_word = held 7 (omega arith) ∙ ap {A = List ℕ} (λ l. word l 7) own_is

    written_is : written_at w3 b ≡ length ws
    written_is = let f = small.few in omega (arith, counts_word)

    merged_is : merged_at w3 b ≡ r.count
    merged_is = let f = small.few in omega (arith, counts_word)

    kind_is : tag_at w3 b % 8 ≡ kind
    kind_is = let f = small.kind_low in omega (arith, tag_word)

    side_is : tag_at w3 b / 8 % 2 ≡ side
    side_is = side_field (tag_at w3 b) kind side small.kind_low small.side_low tag_word

    start_is : entry_at w3 n S b ≡ at
    start_is = ap {A = ℕ} (λ k. 4 * n + 8 * S + 2 * k) place_word

    entries_held : entries_of (entry_words w3 (entry_at w3 n S b) (merged_at w3 b)) ≡ (merge (kind_of kind) x.entries).entries
    entries_held = ap {A = ℕ} (λ k. entries_of (entry_words w3 k (merged_at w3 b))) start_is ∙ ap {A = ℕ} (λ k. entries_of (entry_words w3 at k)) merged_is
        ∙ ap {A = List ℕ} entries_of (slice_kept w1 w3 at (at + 2 * r.count) (size ∙ sym m.size) (omega (arith, a.room, m.count, m.size)) (λ i l h. outside i (omega (arith, a.number))))
        ∙ m.entries

    rule_is : rule_at w3 n S b ≡ rule_of (sentence_of x)
    rule_is = same_rule head_word (ap {A = ℕ} kind_of kind_is) (ap {A = ℕ} side_of side_is)
        (ap {A = ℕ} unbias bound_word ∙ unbias_of bound (size_below bound small.bound_near))
        (ap {A = ℕ} (λ k. constant_of (kind_of k) (word w3 (b + 3))) kind_is ∙ ap {A = ℕ} (constant_of (kind_of kind)) constant_word
        ∙ constant_held (kind_of kind) r.constant x.entries m.constant) entries_held (written_is ∙ sym length_is)

    pub stored : Stored w w3 n S s before x
    stored =
        let f = small.few in
        let number = a.number in
        record {
          size = size;
          held = record {
            whole = λ lim v. record {
              kind = omega (arith, kind_is, small.kind_low);
              tag = omega (arith, tag_word, small.kind_low, small.side_low);
              rule = subst (RuleWhole lim n) (sym rule_is) (rule_whole lim n x v);
              constant = λ t. constant_word ∙ m.no_constant (subst (λ (k : ℕ). T (not (mixes (kind_of k)))) kind_is t);
              unused = λ i l h.
                  ap {A = ℕ} (λ k. word w3 (k + i)) start_is ∙ outside (at + i) (omega arith) ∙ m.rest i (omega (arith, merged_is)) (omega (arith, written_is));
            };
            rule = rule_is;
            place = place_word;
            merged = omega (arith, written_is, merged_is, m.count);
          };
          below = λ i l. front i l ∙ m.below i (omega arith);
          between = λ i l h. outside i l ∙ m.below i h;
          above = λ i l. let e = length_is in outside i (omega arith) ∙ m.above i (omega arith);
        }
