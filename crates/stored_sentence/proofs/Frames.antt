-- A stored sentence stays where other words change: its rule is read off its record and the words of its entries.
use mathlib.Core.Path.{◌≡◌, sym, ap, ap₂, ◌∙◌, subst}
use mathlib.Core.Bool.{not}
use mathlib.Core.List.{List}
use Prim.Native.Nat.{ℕ, ◌+◌, ◌*◌, ◌/◌, ◌%◌, ◌<◌, ◌≤◌}
use native.Mathlib.Omega.{arith}
use lib.IntN.{ℤ}
use lib.ListN.{length}
use lib.Dec.{T}
use Rattle.types.specs.declared.Limits.{Limits}
use Rattle.numbers.specs.Words.{unbias}
use Rattle.meaning.specs.Meaning.{Entry, Kind, Side, mixes}
use Rattle.meaning.specs.Merge.{Rule}
use Rattle.area.specs.Layout.{word, record_at, before_at, written_at, merged_at, kind_of, side_of, constant_of, entries_of, entry_at, entry_words, rule_at}
use Rattle.area.specs.Whole.{RuleWhole}
use Rattle.theory_check.specs.Theory.{SentenceOk}
use Rattle.columns.specs.Columns.{Written}
use Rattle.stored_sentence.specs.Inner.Sentences.{Held}
use Rattle.stored_sentence.proofs.Parts.{slice_kept}

abbrev pub rule : ℕ → Kind → Side → ℤ → ℤ → List Entry → ℕ → Rule
rule head kind side bound constant entries written =
    record { head = head; kind = kind; side = side; bound = bound; set = record { constant = constant; entries = entries }; written = written }

pub same_rule : {h h' : ℕ} {k k' : Kind} {d d' : Side} {b b' c c' : ℤ} {es es' : List Entry} {m m' : ℕ}
    → h ≡ h' → k ≡ k' → d ≡ d' → b ≡ b' → c ≡ c' → es ≡ es' → m ≡ m' → rule h k d b c es m ≡ rule h' k' d' b' c' es' m'
same_rule p q r s t u v = cc

-- the sentence at b, with its room inside the area
module _ (w w' : List ℕ) (n S b : ℕ) (size : length w' ≡ length w) (merged : merged_at w b ≤ written_at w b)
    (room : entry_at w n S b + 2 * written_at w b ≤ length w)
    (own : (i : ℕ) → b ≤ i → i < b + 8 → word w' i ≡ word w i)
    (entries : (i : ℕ) → entry_at w n S b ≤ i → i < entry_at w n S b + 2 * written_at w b → word w' i ≡ word w i) where
  kept : (k : ℕ) → k < 8 → word w' (b + k) ≡ word w (b + k)
  kept k l = own (b + k) (omega arith) (omega arith)

  words_kept : entry_words w' (entry_at w' n S b) (merged_at w' b) ≡ entry_words w (entry_at w n S b) (merged_at w b)
  words_kept = ap₂ {A = ℕ} {B = ℕ} (λ x c. entry_words w' (4 * n + 8 * S + 2 * x) (c / 65536)) (kept 6 (omega arith)) (kept 7 (omega arith))
      ∙ slice_kept w w' (entry_at w n S b) (entry_at w n S b + 2 * merged_at w b) size (omega arith) (λ i l h. entries i l (omega arith))

  pub rule_kept : rule_at w' n S b ≡ rule_at w n S b
  rule_kept = same_rule (own b (omega arith) (omega arith))
      (ap {A = ℕ} (λ t. kind_of (t % 8)) (kept 1 (omega arith))) (ap {A = ℕ} (λ t. side_of (t / 8 % 2)) (kept 1 (omega arith)))
      (ap {A = ℕ} unbias (kept 2 (omega arith))) (ap₂ {A = ℕ} {B = ℕ} (λ t x. constant_of (kind_of (t % 8)) x) (kept 1 (omega arith)) (kept 3 (omega arith)))
      (ap {A = List ℕ} entries_of words_kept) (ap {A = ℕ} (λ x. x % 65536) (kept 7 (omega arith)))

  sentence_kept : (lim : Limits) → SentenceOk lim w n S b → SentenceOk lim w' n S b
  sentence_kept lim o = record {
    kind = omega (arith, kept 1 (omega arith), o.kind);
    tag = omega (arith, kept 1 (omega arith), o.tag);
    rule = subst (RuleWhole lim n) (sym rule_kept) o.rule;
    constant = λ m. kept 3 (omega arith) ∙ o.constant (subst (λ (t : ℕ). T (not (mixes (kind_of (t % 8))))) (kept 1 (omega arith)) m);
    unused = λ i l h.
        let p : before_at w' b ≡ before_at w b = kept 6 (omega arith) in
        let c : word w' (b + 7) ≡ word w (b + 7) = kept 7 (omega arith) in
        let e : entry_at w' n S b + i ≡ entry_at w n S b + i = omega arith in
        ap {A = ℕ} (word w') e ∙ entries (entry_at w n S b + i) (omega arith) (omega arith) ∙ o.unused i (omega arith) (omega arith);
  }

pub held_kept : (w w' : List ℕ) (n S s before : ℕ) (x : Written) → length w' ≡ length w
    → entry_at w n S (record_at n s) + 2 * written_at w (record_at n s) ≤ length w
    → ((i : ℕ) → record_at n s ≤ i → i < record_at n s + 8 → word w' i ≡ word w i)
    → ((i : ℕ) → entry_at w n S (record_at n s) ≤ i → i < entry_at w n S (record_at n s) + 2 * written_at w (record_at n s) → word w' i ≡ word w i)
    → Held w n S s before x → Held w' n S s before x
held_kept w w' n S s before x size room own entries h =
    let b = record_at n s in
    record {
      whole = λ lim v. sentence_kept w w' n S b size h.merged room own entries lim (h.whole lim v);
      rule = rule_kept w w' n S b size h.merged room own entries ∙ h.rule;
      place = own (b + 6) (omega arith) (omega arith) ∙ h.place;
      merged = omega (arith, own (b + 7) (omega arith) (omega arith), h.merged);
    }
