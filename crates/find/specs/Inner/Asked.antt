-- What the search asks of the area, and what is known of one sentence before its entries are scanned.
use Rattle.std.specs.Prelude.{◌≡◌, List, ℕ, ◌≤◌}
use Rattle.types.specs.declared.Limits.{Limits}
use Rattle.meaning.specs.Computed.{first_said}
use Rattle.book.specs.Rows.{trail}
use Rattle.area.specs.Layout.{rows_of, record_at, rule_at}
use Rattle.evaluate.specs.declared.Known.{Known}
use Rattle.evaluate.specs.declared.Said.TheVariants.{Forced}
use Rattle.evaluate.specs.Inner.Sentence.{said_of}
use Rattle.evaluate.specs.Inner.Known.{known_says, KnownPlaced}
use Rattle.find.specs.Inner.Find.{Searchable}

-- the area can be searched, by whatever limits and counters
pub record FindReady (w : List ℕ) (n S : ℕ) : Type 0 where
  pub lim : Limits
  pub len : ℕ
  pub level : ℕ
  pub searchable : Searchable lim w n S len level

-- over the stored trail, what sentence s says is what is known of it, with the scan where that is undecided
pub record KnownAt (w : List ℕ) (n S s : ℕ) (r : Known) : Type 0 where
  pub said_is : first_said (rule_at w n S (record_at n s)) (trail (rows_of w)) ≡ said_of (known_says w n r)
  pub word_low : (l : ℕ) → known_says w n r ≡ Forced l → 2 ≤ l
  pub placed : KnownPlaced w n S (record_at n s) r
