-- What the extremes of a stored sentence come to on words, as the code computes them. A value's word is larger where the value is. The
-- proofs tie these to the computed definitions of the meaning.
use Rattle.std.specs.Prelude.{◌≡◌, Bool, true, false, cond, List, [], ◌∷◌, ℕ, ◌+◌, ◌-◌, ◌*◌, ◌/◌, ◌%◌, min, max, eqb}
use Rattle.numbers.specs.Words.{half, word as word_of}
use Rattle.meaning.specs.Meaning as m
use Rattle.kinds.specs.declared.Kind.{Kind}
use Rattle.kinds.specs.declared.Kind.TheVariants.{Sum, Product, Count, Max, Min}
pub use Rattle.kinds.specs.Kinds.{meant}
use Rattle.extremes.specs.declared.Extremes.{Extremes}

-- ---- the kinds

-- the value over no weight
abbrev pub empty_word : Kind → ℕ
empty_word k = word_of (m.empty (meant k))

-- where the fold starts: at the constant's word in sums and counts
abbrev pub start_word : Kind → ℕ → ℕ
start_word Sum c = c
start_word Product c = empty_word Product
start_word Count c = c
start_word Max c = empty_word Max
start_word Min c = empty_word Min

abbrev pub combined : Kind → ℕ → ℕ → ℕ
combined Sum a b = a + b - half
combined Product a b = half + (a - half) * (b - half)
combined Count a b = a + b - half
combined Max a b = max a b
combined Min a b = min a b

-- ---- directions: `true` is up

abbrev pub furthest_word : Bool → ℕ → ℕ → ℕ
furthest_word true a b = max a b
furthest_word false a b = min a b

abbrev pub nearest_word : Bool → ℕ → ℕ → ℕ
nearest_word true a b = min a b
nearest_word false a b = max a b

-- ---- the extremes

-- what an entry of weight w and literal l contributes at its furthest, where its atom's value is v: a literal is true where the
-- value's parity is not its own
abbrev pub reach_word : Bool → ℕ → ℕ → ℕ → ℕ → ℕ
reach_word up empty w l v = cond (eqb v 0) (furthest_word up w empty) (cond (eqb (v % 2) (l % 2)) empty w)

-- in both directions
pub record ReachesAre (empty w l v : ℕ) (r : Extremes) : Type 0 where
  pub least_is : r.least ≡ reach_word false empty w l v
  pub greatest_is : r.greatest ≡ reach_word true empty w l v

-- of each entry, whose weight and literal stand one behind the other
unfoldable pub contributions : Kind → Bool → (ℕ → ℕ) → List ℕ → List ℕ
contributions k up v [] = []
contributions k up v (w ∷ []) = []
contributions k up v (w ∷ l ∷ rest) = reach_word up (empty_word k) w l (v (l / 2)) ∷ contributions k up v rest

unfoldable pub folded : Kind → ℕ → List ℕ → ℕ
folded k acc [] = acc
folded k acc (x ∷ xs) = folded k (combined k acc x) xs

abbrev pub extreme_word : Kind → Bool → (ℕ → ℕ) → ℕ → List ℕ → ℕ
extreme_word k up v c words = folded k (start_word k c) (contributions k up v words)

-- one step of both folds
pub record StepIs (k : Kind) (least greatest low high : ℕ) (r : Extremes) : Type 0 where
  pub least_is : r.least ≡ combined k least low
  pub greatest_is : r.greatest ≡ combined k greatest high

-- both folds from `first` on
pub record FoldsAre (k : Kind) (first : ℕ) (v : ℕ → ℕ) (words : List ℕ) (r : Extremes) : Type 0 where
  pub least_is : r.least ≡ folded k first (contributions k false v words)
  pub greatest_is : r.greatest ≡ folded k first (contributions k true v words)
