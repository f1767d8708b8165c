-- The word of an extreme of a sentence that is ready gives the extreme back, over any trail: the extreme is what a fold of words stands
-- for, and no fold over whole words passes the word of `above`.
use mathlib.Core.Path.{◌≡◌, refl, sym, ◌∙◌, ap}
use mathlib.Core.Bool.{Bool, true, false}
use mathlib.Core.List.{List}
use Prim.Native.Nat.{ℕ, ◌+◌, ◌%◌, ◌≤◌}
use lib.IntN.{ℤ}
use Rattle.numbers.specs.Extended.{Extended, Direction, up, down}
use Rattle.numbers.specs.Words.{top, word as word_of, unword}
use Rattle.numbers.proofs.Words.{word_unword}
use Rattle.meaning.specs.Merge.{Rule}
use Rattle.meaning.specs.Computed.{Standing, free, fixed, standing_of, extreme}
use Rattle.area.specs.Layout.{word, standing_word, tag_at, upper_at, written_at, merged_at, entry_at, entry_words, kind_of, rule_at}
use Rattle.extremes.specs.Inner.Stored.{EvaluateReady}
use Rattle.extremes.specs.Inner.Words.{extreme_word}
use Rattle.extremes.proofs.Values.{direction, in_top}
use Rattle.extremes.proofs.Sound.{extreme_in, extreme_means}
use Rattle.extremes.proofs.Stored.{rule_is, sound_at}
use Rattle.extremes.proofs.Values.{coded}

-- a value word for each standing, so that some values show any trail
value_of : Standing → ℕ
value_of free = 0
value_of (fixed true) = 1
value_of (fixed false) = 2

value_shows : (s : Standing) → s ≡ standing_word (value_of s)
unfolding value_of
value_shows free = refl
value_shows (fixed true) = refl
value_shows (fixed false) = refl

module _ (w : List ℕ) (n S b : ℕ) (ready : EvaluateReady w n S b) where
  given_back : (u : Bool) (t : List ℤ) → unword (word_of (extreme (direction u) (rule_at w n S b) t)) ≡ extreme (direction u) (rule_at w n S b) t
  given_back u t =
      let c = coded (kind_of (tag_at w b % 8)) in
      let k = c.0 in
      let e = c.1 in
      let words = entry_words w (entry_at w n S b) (merged_at w b) in
      let sound = sound_at w n S b ready k e in
      let v : ℕ → ℕ = λ a. value_of (standing_of t a) in
      let x = extreme_word k u v (word w (b + 3)) words in
      let high : x ≤ top = in_top k x (extreme_in sound u v) in
      let is : extreme (direction u) (rule_at w n S b) t ≡ unword x =
      sym (ap {A = Rule} (λ r. extreme (direction u) r t) (rule_is w n S b k e))
      ∙ extreme_means sound (upper_at w b) (written_at w b) u v t (λ a l m. value_shows (standing_of t a)) in
      ap {A = Extended} (λ y. unword (word_of y)) is ∙ ap {A = ℕ} unword (word_unword x high) ∙ sym is

  pub extreme_back : (d : Direction) (t : List ℤ) → unword (word_of (extreme d (rule_at w n S b) t)) ≡ extreme d (rule_at w n S b) t
  extreme_back up t = given_back true t
  extreme_back down t = given_back false t
