-- What the check decides, part by part: word 0, the trail, the places, the sentences, the reasons. Of a sentence, over a trail: its words are
-- whole, its stored bounds match the trail, and unless it is marked as pending it has nothing to say.
use Rattle.std.specs.Prelude.{◌≡◌, false, List, ℕ, ◌<◌, ℤ}
use Rattle.types.specs.declared.Limits.{Limits}
use Rattle.meaning.specs.Meaning.{silent}
use Rattle.meaning.specs.Computed.{first_said}
use Rattle.book.specs.Rows.{trail}
pub use Rattle.book.specs.Book.{counters_with}
use Rattle.area.specs.Layout.{atoms_of, sentences_of, record_at, pending_at, rule_at, rows_from}
use Rattle.area.specs.Whole.{Reasoned, BoundsMatch}
use Rattle.trail_check.specs.Trail.{HeaderOk, TrailOk}
use Rattle.theory_check.specs.Theory.{PlacesOk, SentenceOk}

pub record Matching (w : List ℕ) (n S b : ℕ) (t : List ℤ) : Type 0 where
  pub bounds : BoundsMatch w n S b t
  pub quiet : pending_at w b ≡ false → first_said (rule_at w n S b) t ≡ silent

pub record SentenceRight (lim : Limits) (w : List ℕ) (n S b : ℕ) (t : List ℤ) : Type 0 where
  pub words : SentenceOk lim w n S b
  pub matching : Matching w n S b t

abbrev pub AllRight : Limits → List ℕ → ℕ → ℕ → ℕ → Type 0
AllRight lim w n S len = (s : ℕ) → s < S → SentenceRight lim w n S (record_at n s) (trail (rows_from w n len))

-- all parts but word 0, for n atoms and S sentences
pub record PartsHeld (lim : Limits) (w : List ℕ) (n S len level : ℕ) : Type 0 where
  pub trail_ok : TrailOk w n len level
  pub places : PlacesOk lim w n S
  pub sentences : AllRight lim w n S len
  pub reasons : (i : ℕ) → i < len → Reasoned w n S i

-- all parts, for the numbers that word 0 stores
pub record Parts (lim : Limits) (w : List ℕ) (len level : ℕ) : Type 0 where
  pub header : HeaderOk lim w len level
  pub trail_ok : TrailOk w (atoms_of w) len level
  pub places : PlacesOk lim w (atoms_of w) (sentences_of w)
  pub sentences : AllRight lim w (atoms_of w) (sentences_of w) len
  pub reasons : (i : ℕ) → i < len → Reasoned w (atoms_of w) (sentences_of w) i
