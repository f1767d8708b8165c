-- What a stored sentence says first, on words, as the code computes it. The proofs tie these to the computed definitions of the meaning.
use Rattle.std.specs.Prelude.{Bool, true, false, not, cond, ◌&&◌, List, [], ◌∷◌, ℕ, ◌+◌, ◌-◌, ◌*◌, ◌/◌, ◌%◌, leb, eqb}
use Rattle.numbers.specs.Words.{half}
use Rattle.area.specs.Layout.{upper_at, bound_at}
use Rattle.kinds.specs.declared.Kind.{Kind}
use Rattle.kinds.specs.declared.Kind.TheVariants.{Sum, Product, Count, Max, Min}
use Rattle.extremes.specs.Inner.Words.{empty_word, furthest_word, nearest_word, contributions}
use Rattle.evaluate.specs.declared.Said.{Said}
use Rattle.evaluate.specs.declared.Said.TheVariants.{Silent, Conflict, Forced}

-- ---- the second best, counted with repetition: of a maximum up, of a minimum down

abbrev pub best_kind : Bool → Kind
best_kind true = Max
best_kind false = Min

unfoldable pub second_best : Bool → ℕ → ℕ → List ℕ → ℕ
second_best up best second [] = second
second_best up best second (x ∷ xs) = second_best up (furthest_word up best x) (furthest_word up second (nearest_word up best x)) xs

abbrev pub second_word : Bool → (ℕ → ℕ) → List ℕ → ℕ
second_word up v words = second_best up (empty_word (best_kind up)) (empty_word (best_kind up)) (contributions (best_kind up) up v words)

-- ---- the comparison

-- the first word on the comparison's far side: from it on `bound ≤ value` holds, or `value ≤ bound` fails
abbrev pub limit_word : Bool → ℕ → ℕ
limit_word true bound = bound + 1
limit_word false bound = bound

-- of the sentence at b
abbrev pub limit_at : List ℕ → ℕ → ℕ
limit_at w b = limit_word (upper_at w b) (bound_at w b)

-- the direction in which the comparison comes to have the truth b; `upper` says value ≤ bound
abbrev pub upwards : Bool → Bool → Bool
upwards true b = not b
upwards false b = b

-- at the value e the comparison has the truth that lies in the direction
abbrev pub keeps : Bool → ℕ → ℕ → Bool
keeps true limit e = leb limit e
keeps false limit e = not (leb limit e)

-- ---- what the sentence says

-- the head is open
abbrev pub head_says : Bool → Bool → ℕ → Said
head_says holds fails head = cond holds (Forced (2 * head)) (cond fails (Forced (2 * head + 1)) Silent)

-- the extreme e of a sum or a product, with an open entry of weight w the other way
abbrev pub shifted : Bool → ℕ → ℕ → ℕ
shifted up e w = e + nearest_word up w half - furthest_word up w half

abbrev pub scaled : Bool → ℕ → ℕ → ℕ
scaled true e w = half + (e - half) / (w - half)
scaled false e w = half + (e - half) * (w - half)

-- with an open entry of weight w the other way, the comparison loses the truth that it has at the extreme e. Of a maximum up, and of
-- a minimum down, where the second best loses it
abbrev pub turns_word : Kind → Bool → ℕ → ℕ → ℕ → Bool
turns_word Sum up limit e w = not (keeps up limit (shifted up e w))
turns_word Product up limit e w = not (keeps up limit (scaled up e w))
turns_word Count up limit e w = not (keeps up limit (shifted up e w))
turns_word Max true limit e w = eqb w e
turns_word Max false limit e w = not (keeps false limit w)
turns_word Min true limit e w = not (keeps true limit w)
turns_word Min false limit e w = eqb w e

abbrev pub opposite_word : ℕ → ℕ
opposite_word l = cond (eqb (l % 2) 0) (l + 1) (l - 1)

-- the literal of an entry that goes in the direction
abbrev pub wanted_word : Bool → ℕ → ℕ → ℕ → ℕ
wanted_word up empty w l = cond (eqb (furthest_word up w empty) w) l (opposite_word l)

-- the first open entry that turns
unfoldable pub scanned : Kind → Bool → ℕ → ℕ → (ℕ → ℕ) → List ℕ → Said
scanned k up limit e v [] = Silent
scanned k up limit e v (w ∷ []) = Silent
scanned k up limit e v (w ∷ l ∷ rest) =
    cond (eqb (v (l / 2)) 0 && turns_word k up limit e w) (Forced (wanted_word up (empty_word k) w l)) (scanned k up limit e v rest)

-- whether a turned entry leaves the second best
abbrev pub leaves_second : Kind → Bool → Bool
leaves_second Sum up = false
leaves_second Product up = false
leaves_second Count up = false
leaves_second Max up = up
leaves_second Min up = not up

-- the head is fixed, and no conflict
abbrev pub entries_say : Kind → Bool → ℕ → ℕ → (ℕ → ℕ) → List ℕ → Said
entries_say k up limit e v words = cond (leaves_second k up && keeps up limit (second_word up v words)) Silent (scanned k up limit e v words)

-- the head is fixed: e is the extreme towards its truth, and o the other
abbrev pub body_says : Kind → Bool → ℕ → ℕ → ℕ → (ℕ → ℕ) → List ℕ → Said
body_says k up limit e o v words = cond (keeps up limit e) (cond (keeps up limit o) Silent (entries_say k up limit e v words)) Conflict
