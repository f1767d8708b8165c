-- The rows of the book, and what is read off them: the trail, what taking back leaves, explanations and origins
-- (document 01, 'Steps on the trail'). Rows stand with the last put on first, so that the rows before a row are those behind it.
use Rattle.std.specs.Prelude.{Bool, true, false, cond, List, [], ◌∷◌, ◌++◌, map, ℕ, zero, suc, ℤ, pos, neg_ℤ, eqb, leb}
use Rattle.meaning.specs.Meaning.{atom, same}

-- the reason is 0 where the literal was given, and otherwise the number of the sentence that it was derived from
pub record Row : Type 0 where
  pub literal : ℤ
  pub level : ℕ
  pub reason : ℕ

abbrev pub a_row : ℤ → ℕ → ℕ → Row
a_row l v k = record { literal = l; level = v; reason = k }

abbrev pub trail : List Row → List ℤ
trail [] = []
trail (r ∷ rs) = r.literal ∷ trail rs

-- the rows that taking back to level k leaves
unfoldable pub up_to : ℕ → List Row → List Row
up_to k [] = []
up_to k (r ∷ rs) = cond (leb r.level k) (r ∷ up_to k rs) (up_to k rs)

-- ---- explanations

-- the trail's literal of an atom, in front of the rest
unfoldable pub pick : List ℤ → ℕ → List ℤ → List ℤ
pick [] a rest = rest
pick (l ∷ t) a rest = cond (eqb (atom l) a) (l ∷ rest) (pick t a rest)

-- the trail's literals of a sentence's atoms: the head's, then the merged entries', in their order
unfoldable pub causes : List ℤ → List ℕ → List ℤ
causes t [] = []
causes t (a ∷ rest) = pick t a (causes t rest)

-- the row of a literal, and the rows before it
pub record Standpoint : Type 0 where
  pub mine : Row
  pub before : List Row

unfoldable pub row_of : ℤ → List Row → Standpoint
row_of l [] = record { mine = a_row l 0 0; before = [] }
row_of l (r ∷ rs) = cond (same r.literal l) (record { mine = r; before = rs }) (row_of l rs)

-- number k of a list, counted from 1
module _ {A : Type 0} (none : A) where
  unfoldable pub numbered : ℕ → List A → A
  numbered k [] = none
  numbered zero (x ∷ xs) = none
  numbered (suc zero) (x ∷ xs) = x
  numbered (suc (suc k)) (x ∷ xs) = numbered (suc k) xs

-- of a derived literal: itself, then the negations of its causes among the rows before it
abbrev pub explanation : List (List ℕ) → List Row → ℤ → List ℤ
explanation scopes rows l =
    l ∷ map neg_ℤ (causes (trail (row_of l rows).before) (numbered [] (row_of l rows).mine.reason scopes))

-- of a conflict: the same list without the literal, over the whole trail
abbrev pub conflict_explanation : List (List ℕ) → List Row → ℕ → List ℤ
conflict_explanation scopes rows k = map neg_ℤ (causes (trail rows) (numbered [] k scopes))

-- ---- origins

unfoldable pub any : (ℤ → Bool) → List ℤ → Bool
any p [] = false
any p (l ∷ ls) = cond (p l) true (any p ls)

-- whether o is an origin of l: of a given literal itself, of a derived one the origins of its causes, which stand before it
unfoldable pub comes_from : List (List ℕ) → List Row → ℤ → ℤ → Bool
comes_from scopes [] l o = false
comes_from scopes (r ∷ rs) l o =
    cond (same r.literal l)
    (cond (eqb r.reason 0) (same l o) (any (λ m. comes_from scopes rs m o) (causes (trail rs) (numbered [] r.reason scopes))))
    (comes_from scopes rs l o)

-- those that pass the test, the first put on first
unfoldable pub in_order : (ℤ → Bool) → List ℤ → List ℤ
in_order p [] = []
in_order p (l ∷ t) = cond (p l) (in_order p t ++ (l ∷ [])) (in_order p t)

abbrev pub origins : List (List ℕ) → List Row → ℤ → List ℤ
origins scopes rows l = in_order (comes_from scopes rows l) (trail rows)

-- ---- the trail as a list: literal, level and reason of each row, the first put on first

unfoldable pub flat : List Row → List ℤ
flat [] = []
flat (r ∷ rs) = flat rs ++ (r.literal ∷ pos r.level ∷ pos r.reason ∷ [])
