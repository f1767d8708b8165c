-- What the scan of a sentence's entries asks: turning an open entry does not wrap.
use Rattle.std.specs.Prelude.{◌≡◌, Bool, false, List, [], ◌∷◌, ℕ, ◌+◌, ◌-◌, ◌*◌, ◌/◌, ◌≤◌, ◌<◌}
use Rattle.numbers.specs.Words.{half, top}
use Rattle.kinds.specs.declared.Kind.{Kind}
use Rattle.kinds.specs.declared.Kind.TheVariants.{Sum, Product, Count, Max, Min}
use Rattle.extremes.specs.Inner.Words.{furthest_word, nearest_word}

-- turning an entry of weight w does not wrap
abbrev pub Turns : Kind → Bool → ℕ → ℕ → Type 0
Turns Sum up e w = (furthest_word up w half ≤ e + nearest_word up w half) × (e + nearest_word up w half < top + top)
Turns Product up e w = (half < w) × (half ≤ e) × (e < top) × ((up ≡ false) → (e - half) * (w - half) < half)
Turns Count up e w = (furthest_word up w half ≤ e + nearest_word up w half) × (e + nearest_word up w half < top + top)
Turns Max up e w = Unit {0}
Turns Min up e w = Unit {0}

-- of each open entry
unfoldable pub Turnable : Kind → Bool → ℕ → (ℕ → ℕ) → List ℕ → Type 0
Turnable k up e v [] = Unit {0}
Turnable k up e v (w ∷ []) = Unit {0}
Turnable k up e v (w ∷ l ∷ rest) = (v (l / 2) ≡ 0 → Turns k up e w) × Turnable k up e v rest
