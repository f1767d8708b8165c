-- What an area that can be searched gives of its sentences: each can be evaluated, its stored bounds are the words of its extremes over
-- any trail that the values show, and one that is not marked has nothing to say.
use mathlib.Core.Path.{◌≡◌, sym, ◌∙◌, subst}
use mathlib.Core.List.{List}
use Prim.Native.Nat.{ℕ, ◌<◌}
use Rattle.book.specs.Rows.{trail}
use Rattle.area.specs.Layout.{atoms_of, sentences_of, rows_from, rows_of, record_at, least_at, greatest_at}
use Rattle.area.specs.Whole.{BoundsMatch}
use Rattle.evaluate.specs.declared.Known.{Known}
use Rattle.extremes.specs.Inner.Stored.{Shows, EvaluateReady, ExtremesAre}
use Rattle.evaluate.specs.Inner.Known.{KnownIs}
use Rattle.extremes.proofs.Stored.{one_trail}
use Rattle.trail_check.proofs.Shown.{shows}
use Rattle.whole.specs.Parts.{counters_with}
use Rattle.whole.proofs.Join.{parts}
use Rattle.whole.proofs.Gives.{ready}
use Rattle.find.specs.Inner.Asked.{FindReady, KnownAt}

module _ {w : List ℕ} {n S : ℕ} (a : FindReady w n S) where
  -- of the stored numbers of atoms and sentences, so of those given
  pub carried : (P : ℕ → ℕ → Type 0) → P (atoms_of w) (sentences_of w) → P n S
  carried P p = subst (λ k. P n k) a.searchable.sentences (subst (λ k. P k (sentences_of w)) a.searchable.atoms p)

  shown : Shows w n (trail (rows_of w))
  shown =
      let h = a.searchable.whole in
      carried (λ n S. Shows w n (trail (rows_of w)))
      (subst (λ k. Shows w (atoms_of w) (trail (rows_from w (atoms_of w) k))) (sym h.length_is) (shows (parts a.lim w a.len a.level h).trail_ok))

module _ {w : List ℕ} {n S s : ℕ} (a : FindReady w n S) (inside : s < S) where
  pub ready_of : EvaluateReady w n S (record_at n s)
  ready_of =
      carried a (λ n S. s < S → EvaluateReady w n S (record_at n s))
      (ready a.lim w (counters_with a.len a.level) a.searchable.whole a.searchable.fitting s) inside

  -- the stored bounds, as they were read
  pub extremes_of : {x y : ℕ} → x ≡ least_at w (record_at n s) → y ≡ greatest_at w (record_at n s) → ExtremesAre w n S (record_at n s) (record { least = x; greatest = y })
  extremes_of p q =
      let match = carried a (λ n S. s < S → BoundsMatch w n S (record_at n s) (trail (rows_of w))) (a.searchable.whole.bounds s) inside in
      one_trail (trail (rows_of w)) ready_of (shown a) (p ∙ match.least) (q ∙ match.greatest)

  pub marked : {r : Known} → KnownIs w n S (record_at n s) r → KnownAt w n S s r
  marked h = record { said_is = h.said.said_is (trail (rows_of w)) (shown a); word_low = h.said.word_low; placed = h.placed }
