-- A report that refuses 10 and 12 by the table's tests answers what the literal met. A literal is passed as its bits, and read back from them.
use mathlib.Core.Path.{◌≡◌, sym, subst}
use mathlib.Core.Bool.{true, false}
use mathlib.Core.Logic.{⊎_elim}
use mathlib.Core.List.{List}
use Prim.Native.Nat.{ℕ}
use lib.IntN.{ℤ}
use lib.ListN.{length}
use mir.Syntax.{w64}
use mir.Val.{SFits, to_z, of_z}
use mir.ValLaws.{to_z-of_z}
use Rattle.std.specs.Prelude.{Err}
use Rattle.types.specs.declared.Limits.{Limits}
use Rattle.book.specs.Table.{Report, a_report, refused, no_atom, stands, reply}
use Rattle.calls.specs.declared.Refusal.{Refusal}
use Rattle.calls.specs.declared.Refusal.TheVariants.{NoAtom, NotOnTrail}
use Rattle.calls.specs.Calls.{area_state}
use Rattle.causes.specs.Inner.Listing.{Listing}
use Rattle.causes.proofs.Listing.{listing_refused}
use Rattle.located.specs.Inner.Located.{OnTrail, Unlocated}

pub located_refused : (lim : Limits) (w : List ℕ) (x : Report) (old : List ℤ) (l : ℤ) → SFits w64 l → (e : Refusal) → Unlocated w (to_z w64 (of_z w64 l)) e
    → (no_atom (area_state lim w) l ≡ true → (reply (area_state lim w) (a_report x (length old))).answer ≡ refused 10 0)
    → (no_atom (area_state lim w) l ≡ false → stands (area_state lim w) l ≡ false → (reply (area_state lim w) (a_report x (length old))).answer ≡ refused 12 0)
    → Listing lim w x old old (Err e)
located_refused lim w x old l f e is strange absent =
    ⊎_elim
    (λ a. subst (λ (k : Refusal). Listing lim w x old old (Err k)) (sym a.0) (listing_refused lim w x old NoAtom (strange a.1)))
    (λ a. subst (λ (k : Refusal). Listing lim w x old old (Err k)) (sym a.0) (listing_refused lim w x old NotOnTrail (absent a.1 a.2)))
    (subst (λ (z : ℤ). Unlocated w z e) (to_z-of_z w64 l f) is)

-- what is told of the bits of a caller's literal, read back, is told of the literal
pub located_on : {w : List ℕ} {l : ℤ} {p : ℕ} → SFits w64 l → OnTrail w (to_z w64 (of_z w64 l)) p → OnTrail w l p
located_on {w} {l} {p} f is = subst (λ (z : ℤ). OnTrail w z p) (to_z-of_z w64 l f) is
