-- The check of the sentences, sentence by sentence: those passed are right over every trail that the values show, and no stamp is above
-- their number. A sentence whose places and words are right can be evaluated.
use mathlib.Core.Path.{◌≡◌, refl}
use mathlib.Core.Bool.{Bool, true}
use mathlib.Core.List.{List}
use Prim.Native.Nat.{ℕ, ◌+◌, ◌<◌, ◌≤◌}
use native.Mathlib.Omega.{arith}
use lib.IntN.{ℤ}
use lib.ListN.{replicate}
use borrow.Author.Count.{below_more, below_none}
use Rattle.types.specs.declared.Limits.{Limits}
use Rattle.decide.proofs.Tells.{told_yes}
use Rattle.area.specs.Layout.{record_at}
use Rattle.extremes.specs.Inner.Stored.{Shows, EvaluateReady}
use Rattle.extremes.proofs.Stored.{widened}
use Rattle.entries_check.specs.Inner.Entries.{Stamps}
use Rattle.theory_check.specs.Theory.{SentenceOk, Checkable}
use Rattle.theory_check.proofs.Places.{placed}
use Rattle.entries_check.proofs.Stamping.{zero_stamps}
use Rattle.whole.specs.Parts.{Matching, SentenceRight}
use Rattle.whole.specs.Inner.Check.{SentencesAsked, TellsOver, RightBelow}

-- the first s sentences are passed
pub record Passed (lim : Limits) (w : List ℕ) (n S s : ℕ) (seen : List ℕ) : Type 0 where
  pub few : s ≤ S
  pub stamps : Stamps seen s
  pub right : (t : List ℤ) → Shows w n t → RightBelow lim w n S s t

module _ {lim : Limits} {w : List ℕ} {n S : ℕ} (asked : SentencesAsked lim w n S) where
  pub none_passed : Passed lim w n S 0 (replicate 4097 0)
  none_passed = record { few = omega arith; stamps = zero_stamps 4097 0 refl; right = λ t _. below_none (λ s. SentenceRight lim w n S (record_at n s) t) }

  module _ (s : ℕ) (l : s < S) where
    pub checkable : (seen : List ℕ) → Stamps seen s → Checkable lim w n S (record_at n s) seen s
    checkable seen stamps = let p = placed lim w n S s asked.places l in search arith

    pub ready : SentenceOk lim w n S (record_at n s) → EvaluateReady w n S (record_at n s)
    ready ok =
        let p = placed lim w n S s asked.places l in
        record {
          atoms_low = asked.atoms_low;
          atoms_high = omega (arith, asked.atoms_high, asked.fitting.atoms);
          sentences = omega (arith, asked.sentences, asked.fitting.sentences);
          values = omega (arith, p.own);
          own = omega (arith, p.own);
          entries = omega (arith, p.room, p.merged);
          merged = omega (arith, p.few, p.merged, asked.fitting.each);
          kind = ok.kind;
          rule = widened asked.fitting ok.rule;
        }

    pub one_passed : {r : Bool} (seen after : List ℕ) → Passed lim w n S s seen → Stamps after (s + 1)
        → SentenceOk lim w n S (record_at n s) → TellsOver w n r (Matching w n S (record_at n s)) → r ≡ true → Passed lim w n S (s + 1) after
    one_passed seen after p stamps ok m e = record {
      few = omega arith;
      stamps = stamps;
      right = λ t shown. below_more (λ k. SentenceRight lim w n S (record_at n k) t) s (p.right t shown) (record { words = ok; matching = (m t shown).yes e });
    }

  pub all_passed : (s : ℕ) (seen : List ℕ) → Passed lim w n S s seen → S ≤ s → TellsOver w n true (RightBelow lim w n S S)
  all_passed s seen p l t shown = told_yes (λ k m. p.right t shown k (omega arith))
