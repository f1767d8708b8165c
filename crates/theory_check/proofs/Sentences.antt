-- A sentence's wholeness is that of its own words, of its entries by number, and of its unused words: the entries' list is that of the
-- numbers, and the product of the weights as integers is that of the words above 2^62.
use mathlib.Core.Path.{◌≡◌, refl, ap, ◌∙◌}
use mathlib.Core.Bool.{Bool, false, true, not}
use mathlib.Core.List.{List}
use Prim.Native.Nat.{ℕ, ◌+◌, ◌*◌, ◌<◌, ◌≤◌}
use native.Mathlib.Omega.{arith}
use lib.ListN.{length}
use lib.IntN.{pos}
use lib.Dec.{T, leb→le, le→leb}
use Rattle.types.specs.declared.Limits.{Limits}
use Rattle.decide.specs.Inner.Tells.{Tells}
use Rattle.decide.specs.Below.{product_below}
use Rattle.decide.proofs.Tells.{told_no, told_same}
use Rattle.numbers.proofs.Words.{unbias_natural}
use Rattle.meaning.specs.Meaning.{Entry, Kind, sum, product, count, maximum, minimum, mixes, multiplied}
use Rattle.meaning.proofs.Trails.{literal_low}
use Rattle.area.specs.Layout.{word, written_at, merged_at, kind_of, kind_at, constant_of, entries_of, entry_at, entry_words, rule_at}
use Rattle.area.specs.Whole.{Near, EntryWhole, weights_of}
use Rattle.area.proofs.Words.{blank_from}
use Rattle.theory_check.specs.Theory.{SentenceOk, Checked}
use Rattle.word_check.specs.Inner.Words.{ConstantOk}
use Rattle.entries_check.specs.Inner.Entries.{stored_entry, factor, Stamps, EntriesOk, EntriesTold}
use Rattle.entries_check.proofs.Stamping.{stamps_more}
use Rattle.entries_check.proofs.Entries.{EntryOk, weight_above}
use Rattle.theory_check.specs.Inner.Words.{RecordOk}
use Rattle.theory_check.proofs.Listing.{listed, entries_listed, each_by, by_each, once_by, by_once, multiplied_listed}

-- ---- the constant

constant_parts : (k : Kind) (written x : ℕ) → ConstantOk k written x → Near (constant_of k x) (1000000000 * written) × (T (not (mixes k)) → x ≡ 0)
constant_parts sum written x h = (h, λ t. absurd t)
constant_parts product written x h = (omega arith, λ t. h)
constant_parts count written x h = (h, λ t. absurd t)
constant_parts maximum written x h = (omega arith, λ t. h)
constant_parts minimum written x h = (omega arith, λ t. h)

constant_whole : (k : Kind) (written x : ℕ) → Near (constant_of k x) (1000000000 * written) → (T (not (mixes k)) → x ≡ 0) → ConstantOk k written x
constant_whole sum written x h z = h
constant_whole product written x h z = z tt
constant_whole count written x h z = h
constant_whole maximum written x h z = z tt
constant_whole minimum written x h z = z tt

-- ---- the sentence at b, its merged entries inside the area

pub own_words : (lim : Limits) (w : List ℕ) (n S b : ℕ) → SentenceOk lim w n S b → RecordOk w n b
own_words lim w n S b s = let k = constant_whole (kind_of (kind_at w b)) (written_at w b) (word w (b + 3)) s.rule.constant s.constant in search arith

module _ (lim : Limits) (w : List ℕ) (n S b : ℕ) (room : entry_at w n S b + 2 * merged_at w b ≤ length w) where
  numbers : entries_of (entry_words w (entry_at w n S b) (merged_at w b)) ≡ listed (merged_at w b) (stored_entry w (entry_at w n S b))
  numbers = entries_listed w (entry_at w n S b) (merged_at w b) room

  product_is : kind_of (kind_at w b) ≡ product → ((i : ℕ) → i < merged_at w b → EntryOk w n b (entry_at w n S b) i)
      → multiplied (weights_of (rule_at w n S b).set.entries) ≡ pos (product_below (merged_at w b) (factor w (entry_at w n S b)))
  product_is q h = ap {A = List Entry} (λ es. multiplied (weights_of es)) numbers
      ∙ multiplied_listed (merged_at w b) (stored_entry w (entry_at w n S b)) (factor w (entry_at w n S b))
      (λ i l. unbias_natural (word w (entry_at w n S b + 2 * i)) (omega (arith, weight_above w n b (entry_at w n S b) i q (h i l))))

  each_whole : SentenceOk lim w n S b → (i : ℕ) → i < merged_at w b → EntryOk w n b (entry_at w n S b) i
  each_whole s = each_by (EntryWhole n (word w b) (kind_of (kind_at w b)) (written_at w b)) (merged_at w b)
      (stored_entry w (entry_at w n S b)) (rw numbers at s.rule.entries)

  -- the merged entries' words are of literals
  pub literals_low : SentenceOk lim w n S b → (i : ℕ) → i < merged_at w b → 2 ≤ word w (entry_at w n S b + 2 * i + 1)
  literals_low s i l = literal_low (word w (entry_at w n S b + 2 * i + 1)) (each_whole s i l).atom_low

  -- the words behind the merged entries, up to the end of the room
  abbrev Blank : ℕ → Type 0
  Blank at = (i : ℕ) → at + 2 * merged_at w b ≤ i → i < at + 2 * written_at w b → word w i ≡ 0

  module _ (at : ℕ) (start : at ≡ entry_at w n S b) where
    pub sentence_from : written_at w b ≤ lim.each → RecordOk w n b → EntriesOk w n b at → Blank at → SentenceOk lim w n S b
    sentence_from few own told rest = let es : EntriesOk w n b (entry_at w n S b) = rw start at told in
        let k = constant_parts (kind_of (kind_at w b)) (written_at w b) (word w (b + 3)) own.constant in record {
          kind = own.kind;
          tag = own.tag;
          rule = record {
            few = few;
            head_low = own.head_low;
            head_high = own.head_high;
            bound = own.bound;
            constant = k.0;
            entries = rw numbers (by_each (EntryWhole n (word w b) (kind_of (kind_at w b)) (written_at w b)) (merged_at w b)
                (stored_entry w (entry_at w n S b)) es.each);
            once = rw numbers (by_once (merged_at w b) (stored_entry w (entry_at w n S b)) es.once);
            product = λ q. rw (product_is q es.each) (le→leb _ _ (es.weights q));
          };
          constant = k.1;
          unused = λ i l h. rest (entry_at w n S b + i) (omega arith) (omega arith);
        }

    pub own_entries : SentenceOk lim w n S b → EntriesOk w n b at
    own_entries s = rw start (record {
      each = each_whole s;
      once = once_by (merged_at w b) (stored_entry w (entry_at w n S b)) (rw numbers at s.rule.once);
      weights = λ q. leb→le _ _ (rw (product_is q (each_whole s)) at (s.rule.product q));
    })

    pub own_rest : SentenceOk lim w n S b → Blank at
    own_rest s i l h = blank_from w (entry_at w n S b) (2 * merged_at w b) (2 * written_at w b) s.unused i (omega arith) (omega arith)

    -- what the check of the sentence tells, by what its parts told
    module _ {seen : List ℕ} {old : ℕ} where
      pub record_wrong : ¬ (RecordOk w n b) → Stamps seen old → Checked lim w n S b seen old false
      record_wrong d s = record { tells = told_no (λ h. d (own_words lim w n S b h)); stamps = stamps_more seen old (old + 1) s (omega arith) }

      pub entries_wrong : EntriesTold w n b at seen old false → Checked lim w n S b seen old false
      entries_wrong e = record { tells = told_no (λ h. e.tells.no refl (own_entries h)); stamps = e.stamps }

      pub rest_told : {r : Bool} (low high : ℕ) → low ≡ at + 2 * merged_at w b → high ≡ at + 2 * written_at w b → written_at w b ≤ lim.each
          → RecordOk w n b → EntriesTold w n b at seen old true → Tells r ((i : ℕ) → low ≤ i → i < high → word w i ≡ 0) → Checked lim w n S b seen old r
      rest_told low high l h few own e rest = record {
        tells = told_same rest
            (λ z. sentence_from few own (e.tells.yes refl) (λ i j k. z i (omega arith) (omega arith)))
            (λ s i j k. own_rest s i (omega arith) (omega arith));
        stamps = e.stamps;
      }
