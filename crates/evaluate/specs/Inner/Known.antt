-- What is known of a stored sentence before its entries are scanned, and what the scan then asks.
use Rattle.std.specs.Prelude.{◌≡◌, Bool, cond, ◌&&◌, List, ℕ, ◌+◌, ◌*◌, ◌/◌, eqb}
use Rattle.area.specs.Layout.{word, merged_at, value_at, entry_at, entry_words}
use Rattle.kinds.specs.declared.Kind.{Kind}
use Rattle.evaluate.specs.declared.Said.{Said}
use Rattle.evaluate.specs.declared.Said.TheVariants as said
use Rattle.evaluate.specs.declared.Body.{Body}
use Rattle.evaluate.specs.declared.Known.{Known}
use Rattle.evaluate.specs.declared.Known.TheVariants.{Silent, Conflict, Forced, Undecided}
use Rattle.evaluate.specs.Inner.Sentence.{SaidIs}
use Rattle.evaluate.specs.Inner.Words.{second_word, keeps, turns_word, scanned, leaves_second}
use Rattle.extremes.specs.Inner.Room.{Entries}
use Rattle.evaluate.specs.Inner.Room.{Turnable}

-- ---- as the code computes it

-- an entry of weight w, whose atom's value is v, is open and turns
abbrev pub turns_open : Body → ℕ → ℕ → Bool
turns_open x w v = eqb v 0 && turns_word x.kind x.up x.limit x.extreme w

-- the head is open
abbrev pub head_known : Bool → Bool → ℕ → Known
head_known holds fails head = cond holds (Forced (2 * head)) (cond fails (Forced (2 * head + 1)) Silent)

-- the head is fixed: e is the extreme towards its truth, and o the other
abbrev pub body_known : Kind → Bool → (limit e o : ℕ) → (ℕ → ℕ) → List ℕ → (start count : ℕ) → Known
body_known k up limit e o v area start count =
    cond (keeps up limit e)
    (cond (keeps up limit o) Silent
    (cond (leaves_second k up && keeps up limit (second_word up v (entry_words area start count))) Silent
    (Undecided (record { kind = k; up = up; limit = limit; extreme = e; start = start; merged = count }))))
    Conflict

-- ---- what it stands for

-- what the sentence says, if the scan decides where it is undecided
abbrev pub known_says : List ℕ → ℕ → Known → Said
known_says w n Silent = said.Silent
known_says w n Conflict = said.Conflict
known_says w n (Forced l) = said.Forced l
known_says w n (Undecided x) = scanned x.kind x.up x.limit x.extreme (value_at w n) (entry_words w x.start x.merged)

-- the entries to be scanned are those of the sentence at b, and turning the open ones does not wrap
pub record BodyReady (w : List ℕ) (n S b : ℕ) (x : Body) : Type 0 where
  pub start_is : x.start ≡ entry_at w n S b
  pub merged_is : x.merged ≡ merged_at w b
  pub entries : Entries w x.start x.merged n
  pub turnable : Turnable x.kind x.up x.extreme (value_at w n) (entry_words w x.start x.merged)

-- a literal forced without a scan is of the head
abbrev pub KnownPlaced : List ℕ → ℕ → ℕ → ℕ → Known → Type 0
KnownPlaced w n S b Silent = Unit {0}
KnownPlaced w n S b Conflict = Unit {0}
KnownPlaced w n S b (Forced l) = l / 2 ≡ word w b
KnownPlaced w n S b (Undecided x) = BodyReady w n S b x

pub record KnownIs (w : List ℕ) (n S b : ℕ) (r : Known) : Type 0 where
  pub said : SaidIs w n S b (known_says w n r)
  pub placed : KnownPlaced w n S b r
