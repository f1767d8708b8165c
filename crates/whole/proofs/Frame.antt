-- What is read off the words of one sentence is the same in two lists where its record says the same and the entries are the same: its
-- rule, and that it is whole.
use mathlib.Core.Path.{◌≡◌, sym, ap, ap₂, ◌∙◌, subst}
use mathlib.Core.Bool.{not}
use mathlib.Core.List.{List}
use Prim.Native.Nat.{ℕ, ◌+◌, ◌*◌, ◌-◌, ◌/◌, ◌%◌, ◌<◌, ◌≤◌, min}
use native.Mathlib.Omega.{arith}
use lib.ListN.{length, take, drop, length-take, length-drop}
use lib.Seq.{slice, ext_get_or, get_or-take, get_or-drop, length-take-le}
use lib.Dec.{T}
use Rattle.types.specs.declared.Limits.{Limits}
use Rattle.meaning.specs.Meaning.{mixes}
use Rattle.area.specs.Layout.{word, tag_at, written_at, merged_at, kind_of, entry_at, entry_words, rule_at}
use Rattle.area.specs.Whole.{RuleWhole}
use Rattle.theory_check.specs.Theory.{SentenceOk}
use Rattle.whole.specs.Same.{SameRecord}

-- ---- parts of two lists

pub drop_same : (w w' : List ℕ) (k : ℕ) → length w' ≡ length w → ((i : ℕ) → k ≤ i → word w' i ≡ word w i) → drop k w' ≡ drop k w
drop_same w w' k size behind = ext_get_or 0 (drop k w') (drop k w)
    (length-drop k w' ∙ ap {A = ℕ} (λ m. m - k) size ∙ sym (length-drop k w))
    (λ i l. get_or-drop k w' i 0 ∙ behind (k + i) (omega arith) ∙ sym (get_or-drop k w i 0))

slice_same : (w w' : List ℕ) (f t : ℕ) → length (take t w') ≡ length (take t w) → ((i : ℕ) → f ≤ i → i < t → word w' i ≡ word w i) → slice f t w' ≡ slice f t w
slice_same w w' f t size same = ext_get_or 0 (slice f t w') (slice f t w)
    (length-drop f (take t w') ∙ ap {A = ℕ} (λ m. m - f) size ∙ sym (length-drop f (take t w)))
    (λ i l. let m : f + i < t = omega (arith, length-drop f (take t w'), length-take t w') in
    get_or-drop f (take t w') i 0 ∙ get_or-take t w' (f + i) 0 m ∙ same (f + i) (omega arith) m ∙ sym (get_or-take t w (f + i) 0 m) ∙ sym (get_or-drop f (take t w) i 0))

-- ---- the sentence at b

-- the record of words that do not change
pub same_record : (w w' : List ℕ) (b : ℕ) → ((i : ℕ) → b ≤ i → i < b + 8 → word w' i ≡ word w i) → tag_at w b < 32 → SameRecord w w' b
same_record w w' b h low = let f : (k : ℕ) → k < 8 → word w' (b + k) ≡ word w (b + k) = λ k l. h (b + k) (omega arith) (omega arith) in
    omega (arith, h b (omega arith) (omega arith), f 1 (omega arith), f 2 (omega arith), f 3 (omega arith), f 6 (omega arith), f 7 (omega arith))

-- what says the same of words that say the same
pub record_through : (w w' w'' : List ℕ) (b : ℕ) → SameRecord w w' b → SameRecord w' w'' b → SameRecord w w'' b
record_through w w' w'' b p q = omega arith

-- the entries of the sentence at b: those merged, and the words of their room
pub record SameEntries (w w' : List ℕ) (n S b : ℕ) : Type 0 where
  pub merged : entry_words w' (entry_at w n S b) (merged_at w b) ≡ entry_words w (entry_at w n S b) (merged_at w b)
  pub room : (i : ℕ) → i < 2 * written_at w b → word w' (entry_at w n S b + i) ≡ word w (entry_at w n S b + i)

module _ (w w' : List ℕ) (n S b : ℕ) where
  -- where all words behind the records are the same
  pub entries_behind : length w' ≡ length w → ((i : ℕ) → 4 * n + 8 * S ≤ i → word w' i ≡ word w i) → SameEntries w w' n S b
  entries_behind size behind = let at = entry_at w n S b in let t = at + 2 * merged_at w b in record {
    merged = slice_same w w' at t (length-take t w' ∙ ap {A = ℕ} (min t) size ∙ sym (length-take t w)) (λ i l u. behind i (omega arith));
    room = λ i l. behind (at + i) (omega arith);
  }

  -- where the room is inside both lists
  pub entries_inside : merged_at w b ≤ written_at w b → entry_at w n S b + 2 * written_at w b ≤ length w → entry_at w n S b + 2 * written_at w b ≤ length w'
      → ((i : ℕ) → i < entry_at w n S b + 2 * written_at w b → word w' i ≡ word w i) → SameEntries w w' n S b
  entries_inside few here there same = let at = entry_at w n S b in let t = at + 2 * merged_at w b in record {
    merged = slice_same w w' at t (length-take-le t w' (omega arith) ∙ sym (length-take-le t w (omega arith))) (λ i l u. same i (omega arith));
    room = λ i l. same (at + i) (omega arith);
  }

module _ (w w' : List ℕ) (n S b : ℕ) (same : SameRecord w w' b) (entries : SameEntries w w' n S b) where
  same_kind : tag_at w' b % 8 ≡ tag_at w b % 8
  same_kind = omega (arith, same.tag)

  same_side : tag_at w' b / 8 % 2 ≡ tag_at w b / 8 % 2
  same_side = omega (arith, same.tag)

  same_start : entry_at w' n S b ≡ entry_at w n S b
  same_start = ap {A = ℕ} (λ x. 4 * n + 8 * S + 2 * x) same.before

  same_words : entry_words w' (entry_at w' n S b) (merged_at w' b) ≡ entry_words w (entry_at w n S b) (merged_at w b)
  same_words = ap₂ {A = ℕ} {B = ℕ} (λ at c. entry_words w' at (c / 65536)) same_start same.counts ∙ entries.merged

  pub rule_same : rule_at w' n S b ≡ rule_at w n S b
  rule_same = rw (same_words, same.head, same_kind, same_side, same.bound, same.constant, same.counts)

  pub sentence_same : (lim : Limits) → SentenceOk lim w n S b → SentenceOk lim w' n S b
  sentence_same lim o = record {
    kind = omega (arith, same_kind, o.kind);
    tag = same.tag_low;
    rule = subst (RuleWhole lim n) (sym rule_same) o.rule;
    constant = λ m. same.constant ∙ o.constant (subst (λ (x : ℕ). T (not (mixes (kind_of x)))) same_kind m);
    unused = λ i l h. let c = same.counts in
        ap {A = ℕ} (λ x. word w' (x + i)) same_start ∙ entries.room i (omega arith) ∙ o.unused i (omega arith) (omega arith);
  }
