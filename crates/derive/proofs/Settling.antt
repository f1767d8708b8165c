-- The loop that clears the pending marks: the first sentences are cleared, one more at each turn, and every other word stays.
use mathlib.Core.Path.{◌≡◌, refl, sym, ap, ◌∙◌, subst}
use mathlib.Core.Logic.{⊎_elim}
use mathlib.Core.List.{List}
use Prim.Native.Nat.{ℕ, ◌+◌, ◌%◌, ◌<◌}
use native.Mathlib.Omega.{arith}
use native.Mathlib.Nat.{eq-or-lt_of_le}
use lib.ListN.{length, set, length-set}
use lib.Seq.{get_or-set_same, get_or-set_other}
use Rattle.area.specs.Layout.{record_at, tag_at}
use Rattle.derive.specs.Inner.Settle.{Settled}

module _ (w : List ℕ) (n : ℕ) where
  pub none_settled : Settled w w n 0
  none_settled = record { size = refl; tags = λ s l. absurd (omega arith); other = λ i d. refl }

  pub one_settled : (w' : List ℕ) (s : ℕ) → record_at n s + 1 < length w → Settled w w' n s
      → Settled w (set w' (record_at n s + 1) (tag_at w' (record_at n s) % 16)) n (s + 1)
  one_settled w' s inside p =
      let place = record_at n s + 1 in
      let tag = tag_at w' (record_at n s) % 16 in
      record {
        size = length-set w' place tag ∙ p.size;
        tags = λ k l. ⊎_elim
            (λ (e : k ≡ s).
            subst (λ (j : ℕ). tag_at (set w' place tag) (record_at n j) ≡ tag_at w (record_at n j) % 16) (sym e)
            (get_or-set_same w' place tag 0 (omega (arith, p.size)) ∙ ap {A = ℕ} (λ x. x % 16) (p.other place (λ j m q. omega arith))))
            (λ (m : k < s). get_or-set_other w' place (record_at n k + 1) tag 0 (λ q. omega arith) ∙ p.tags k m)
            (eq-or-lt_of_le (omega arith));
        other = λ i d. get_or-set_other w' place i tag 0 (d s (omega arith)) ∙ p.other i (λ k l. d k (omega arith));
      }
