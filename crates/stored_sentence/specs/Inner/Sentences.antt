-- What the steps of storing one sentence ask and leave: its merged entries and its record. Words that a step does not speak of keep what
-- they held.
use Rattle.std.specs.Prelude.{◌≡◌, not, List, ℕ, ◌+◌, ◌*◌, ◌<◌, ◌≤◌, ℤ, length, T}
use Rattle.types.specs.declared.Limits.{Limits}
use Rattle.types.specs.Limits.{Fitting}
use Rattle.numbers.specs.Words.{unbias}
use Rattle.meaning.specs.Meaning.{Kind, mixes}
use Rattle.meaning.specs.Merge.{merge, rule_of}
use Rattle.area.specs.Layout.{word, record_at, before_at, written_at, merged_at, entries_of, entry_words, rule_at}
use Rattle.theory_check.specs.Theory.{SentenceOk}
use Rattle.columns.specs.Columns.{Written, paired, written_as, sentence_of}
use Rattle.columns.specs.Indexed.{Passes}
use Rattle.gather.specs.Inner.Gather.{Mergeable}
use Rattle.gather.specs.declared.Merged.{Merged}

-- ---- a set merged into the words from `at` on

pub record MergeAsked (w : List ℕ) (at : ℕ) (kind : Kind) (ws ls : List ℤ) : Type 0 where
  pub room : at + 2 * length ws ≤ length w
  pub mergeable : (part : List ℕ) → length part ≡ 2 * length ws → Mergeable part kind ws ls

pub record MergedAt (w w' : List ℕ) (at : ℕ) (kind : Kind) (ws ls : List ℤ) (r : Merged) : Type 0 where
  pub size : length w' ≡ length w
  pub count : r.count ≤ length ws
  pub entries : entries_of (entry_words w' at r.count) ≡ (merge kind (paired ws ls)).entries
  pub rest : (i : ℕ) → 2 * r.count ≤ i → i < 2 * length ws → word w' (at + i) ≡ 0
  pub constant : T (mixes kind) → unbias r.constant ≡ (merge kind (paired ws ls)).constant
  pub no_constant : T (not (mixes kind)) → r.constant ≡ 0
  pub below : (i : ℕ) → i < at → word w' i ≡ word w i
  pub above : (i : ℕ) → at + 2 * length ws ≤ i → word w' i ≡ word w i

-- ---- sentence s of S, with `before` entries before its own

-- load's table has nothing against the sentence, under limits that fit, and there is room for it
pub record Storable (w : List ℕ) (n S s before head kind side : ℕ) (bound : ℤ) (ws ls : List ℤ) : Type 0 where
  pub lim : Limits
  pub fitting : Fitting lim
  pub atoms : n ≤ lim.atoms
  pub sentences : S ≤ lim.sentences
  pub number : s < S
  pub entries : before + length ws ≤ lim.entries
  pub room : 4 * n + 8 * S + 2 * before + 2 * length ws ≤ length w
  pub same : length ws ≡ length ls
  pub passes : Passes lim n (written_as head kind side bound ws ls)

-- the sentence's words hold its merge
pub record Held (w : List ℕ) (n S s before : ℕ) (x : Written) : Type 0 where
  pub whole : (lim : Limits) → Passes lim n x → SentenceOk lim w n S (record_at n s)
  pub rule : rule_at w n S (record_at n s) ≡ rule_of (sentence_of x)
  pub place : before_at w (record_at n s) ≡ before
  pub merged : merged_at w (record_at n s) ≤ written_at w (record_at n s)

pub record Stored (w w' : List ℕ) (n S s before : ℕ) (x : Written) : Type 0 where
  pub size : length w' ≡ length w
  pub held : Held w' n S s before x
  pub below : (i : ℕ) → i < record_at n s → word w' i ≡ word w i
  pub between : (i : ℕ) → record_at n s + 8 ≤ i → i < 4 * n + 8 * S + 2 * before → word w' i ≡ word w i
  pub above : (i : ℕ) → 4 * n + 8 * S + 2 * before + 2 * length x.entries ≤ i → word w' i ≡ word w i
