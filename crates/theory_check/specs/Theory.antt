-- What the check of the stored theory decides: the clauses of `Whole` that speak of places and of one sentence's words; and what the check
-- of a sentence asks of its table of stamps.
use Rattle.std.specs.Prelude.{◌≡◌, Bool, not, List, ℕ, ◌+◌, ◌*◌, ◌<◌, ◌≤◌, ◌%◌, length, T}
use Rattle.types.specs.declared.Limits.{Limits}
use Rattle.types.specs.Limits.{widest, Fitting}
use Rattle.decide.specs.Inner.Tells.{Tells}
use Rattle.meaning.specs.Meaning.{mixes}
use Rattle.area.specs.Layout.{word, record_at, tag_at, before_at, written_at, merged_at, entry_at, rule_at, entries_before}
use Rattle.area.specs.Whole.{RuleWhole}
use Rattle.entries_check.specs.Inner.Entries.{Stamps}

-- ---- places: each sentence's entries stand behind those before it, and there is room for all

pub record PlaceOk (lim : Limits) (w : List ℕ) (n s : ℕ) : Type 0 where
  pub place : before_at w (record_at n s) ≡ entries_before w n s
  pub few : written_at w (record_at n s) ≤ lim.each
  pub merged : merged_at w (record_at n s) ≤ written_at w (record_at n s)

pub record PlacesOk (lim : Limits) (w : List ℕ) (n S : ℕ) : Type 0 where
  pub each : (s : ℕ) → s < S → PlaceOk lim w n s
  pub entries : entries_before w n S ≤ lim.entries
  pub room : 4 * n + 8 * S + 2 * entries_before w n S ≤ length w

-- ---- the sentence at b

pub record SentenceOk (lim : Limits) (w : List ℕ) (n S b : ℕ) : Type 0 where
  pub kind : tag_at w b % 8 ≤ 4
  pub tag : tag_at w b < 32
  pub rule : RuleWhole lim n (rule_at w n S b)
  pub constant : T (not (mixes (rule_at w n S b).kind)) → word w (b + 3) ≡ 0
  pub unused : (i : ℕ) → 2 * merged_at w b ≤ i → i < 2 * written_at w b → word w (entry_at w n S b + i) ≡ 0

pub record Checkable (lim : Limits) (w : List ℕ) (n S b : ℕ) (seen : List ℕ) (old : ℕ) : Type 0 where
  pub fitting : Fitting lim
  pub atoms_low : 1 ≤ n
  pub atoms_high : n ≤ lim.atoms
  pub sentences : S ≤ lim.sentences
  pub own : b + 8 ≤ length w
  pub few : written_at w b ≤ lim.each
  pub merged : merged_at w b ≤ written_at w b
  pub room : entry_at w n S b + 2 * written_at w b ≤ length w
  pub stamps : Stamps seen old
  pub stamps_high : old ≤ widest.sentences

pub record Checked (lim : Limits) (w : List ℕ) (n S b : ℕ) (seen : List ℕ) (old : ℕ) (r : Bool) : Type 0 where
  pub tells : Tells r (SentenceOk lim w n S b)
  pub stamps : Stamps seen (old + 1)
