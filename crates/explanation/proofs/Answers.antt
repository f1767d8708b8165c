-- The ways out of the call on a whole area once the literal is found: 18, or the list written.
use mathlib.Core.Path.{◌≡◌, sym, ◌∙◌, ap, ap₂, subst}
use mathlib.Core.List.{List, ◌∷◌, ◌++◌}
use Prim.Native.Nat.{ℕ, suc, ◌+◌, ◌<◌, ◌≤◌}
use native.Mathlib.Omega.{arith}
use lib.IntN.{ℤ}
use lib.ListN.{length, drop, set}
use lib.Seq.{take-suc-set, drop-set-lt}
use Rattle.std.specs.Prelude.{Ok, Err}
use Rattle.types.specs.declared.Limits.{Limits}
use Rattle.types.specs.Limits.{Fitting}
use Rattle.book.specs.Table.{explain}
use Rattle.book.specs.Book.{Counters}
use Rattle.area.specs.Layout.{atoms_of, sentences_of, row_at, record_at}
use Rattle.area.specs.Whole.{Whole}
use Rattle.calls.specs.declared.Refusal.TheVariants.{TooShort}
use Rattle.causes.specs.Inner.Causes.{CausesAsked}
use Rattle.located.specs.Inner.Located.{OnTrail}
use Rattle.causes.specs.Inner.Listing.{Listing}
use Rattle.extremes.specs.Inner.Stored.{EvaluateReady}
use Rattle.whole.proofs.Gives.{ready}
use Rattle.causes.proofs.Gives.{causes_asked}
use Rattle.causes.proofs.Listing.{listing_refused, listing_done}
use Rattle.negations.specs.Inner.Negations.{negations, overwritten}
use Rattle.negations.proofs.Loops.{few}
use Rattle.explanation.proofs.Replies.{explain_short, explain_listed}

-- the literal stands at position p, by sentence s, from 0
pub record Derived (w : List ℕ) (l : ℤ) (p s : ℕ) : Type 0 where
  pub on : OnTrail w l p
  pub reason : (row_at w (atoms_of w) p).reason ≡ suc s

-- the first number is the literal's, and the rest of the list is as it was
first_set : (old : List ℤ) (l : ℤ) (others : List ℤ) → 1 ≤ length old → overwritten (set old 0 l) 1 others ≡ (l ∷ others) ++ drop (1 + length others) old
first_set old l others h =
    ap₂ {A = List ℤ} {B = List ℤ} (λ x y. x ++ others ++ y) (take-suc-set old 0 l h) (drop-set-lt (1 + length others) old 0 l (omega arith))

module _ {lim : Limits} {w : List ℕ} {c : Counters} (fit : Fitting lim) (h : Whole lim w c) where
  abbrev n : ℕ
  n = atoms_of w

  abbrev S : ℕ
  S = sentences_of w

  module _ {l : ℤ} {p s : ℕ} (d : Derived w l p s) where
    reason_few : s < S
    reason_few = omega (arith, d.reason, (h.reasons p d.on.position.inside).few)

    abbrev others : List ℤ
    others = negations w n S (record_at n s) p

    pub reason_asked : CausesAsked w n p
    reason_asked = causes_asked lim w c fit h p (omega (arith, d.on.position.inside))

    pub reason_ready : EvaluateReady w n S (record_at n s)
    reason_ready = ready lim w c h fit s reason_few

    pub others_few : length others ≤ 4097
    others_few = omega (arith, few reason_ready p, reason_ready.merged)

    module _ (old : List ℤ) {found : ℕ} (counted : found ≡ length others) where
      pub explanation_short : length old < 1 + found → Listing lim w (explain l) old old (Err (TooShort (1 + found)))
      explanation_short room =
          subst (λ m. Listing lim w (explain l) old old (Err (TooShort (1 + m)))) (sym counted)
          (listing_refused lim w (explain l) old (TooShort (1 + length others))
          (explain_short lim w l (length old) d.on.known p d.on.position s d.reason reason_few (omega arith)))

      pub explanation_listed : {z : ℤ} {new : List ℤ} → z ≡ l → 1 + found ≤ length old → new ≡ overwritten (set old 0 z) 1 others
          → Listing lim w (explain l) old new (Ok (1 + found))
      explanation_listed {z} {new} same room e =
          listing_done lim w (explain l) old (l ∷ others) new (1 + found)
          (explain_listed lim w l (length old) d.on.known p d.on.position s d.reason reason_few (omega arith)) (omega arith)
          (e
          ∙ first_set old z others (omega arith)
          ∙ ap {A = ℤ} (λ y. (y ∷ others) ++ drop (1 + length others) old) same
          ∙ ap {A = ℕ} (λ m. (l ∷ others) ++ drop (1 + m) old) (sym counted))
