-- The states that the program goes through, for any judgement by full assignments: at level 0, with sound rows.
use mathlib.Core.Path.{◌≡◌, refl, sym, ap, subst}
use mathlib.Core.Bool.{false}
use mathlib.Core.List.{List}
use Prim.Native.Nat.{ℕ, zero, suc, ◌+◌}
use lib.IntN.{pos}
use Rattle.types.specs.Limits.{document}
use Rattle.meaning.specs.Meaning.{Sentence, Each}
use Rattle.book.specs.Rows.{Row}
use Rattle.book.specs.Table as table
use Rattle.book.specs.Table.{Judged, Call, give, State, Outcome, effect, reply, following_call}
use Rattle.book.specs.Sound.{JudgesAll, Scoped, Sound}
use Rattle.book.proofs.Keeps.{reply_sound}
use Rattle.book.proofs.Tests.{reply_is}
use Rattle.listing_heads.specs.Heads.{heads_given}

abbrev pub standing : ℕ → List Judged → List Row → State
standing n js rs = record { broken = false; atoms = n; levels = document.levels; sentences = js; level = 0; rows = rs }

pub record Standing (n : ℕ) (ss : List Sentence) (js : List Judged) (q : State) : Type 0 where
  pub rows : List Row
  pub state : q ≡ standing n js rows
  pub sound : Sound n ss 0 rows

-- calls that leave the level as it is
abbrev pub Levelled : Call → Type 0
Levelled x = (q : State) → (effect q x).level ≡ q.level

module _ (n : ℕ) (ss : List Sentence) (js : List Judged) (w : Each (Scoped n) ss) (m : JudgesAll ss js) where
  after : (x : Call) → Levelled x → (rs : List Row) → Sound n ss 0 rs → Standing n ss js (following_call (standing n js rs) x)
  after x l rs h =
      let q = standing n js rs in
      let e : (reply q x).level ≡ 0 = reply_is (λ (o : Outcome). o.level ≡ 0) q x (λ c v. refl) (λ p. l q) in
      record {
        rows = (reply q x).rows;
        state = ap (λ (v : ℕ). record { broken = false; atoms = n; levels = document.levels; sentences = js; level = v; rows = (reply q x).rows }) e;
        sound = subst (λ (v : ℕ). Sound n ss v (reply q x).rows) e (reply_sound false n document.levels ss js w m 0 rs h x);
      }

  pub step : (x : Call) → Levelled x → {q : State} → Standing n ss js q → Standing n ss js (following_call q x)
  step x l s = subst (λ (q : State). Standing n ss js (following_call q x)) (sym s.state) (after x l s.rows s.sound)

  pub heads_stand : (q : State) (v k : ℕ) → Standing n ss js q → Standing n ss js (heads_given q v k)
  unfolding heads_given
  heads_stand q v zero s = s
  heads_stand q v (suc k) s = step (table.a_step (give (pos (v + suc k)))) (λ p. refl) (heads_stand q v k s)
