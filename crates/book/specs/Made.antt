-- The calls that a search makes: propagate, and then, as long as the answer is still, open a level, give and propagate for each literal
-- that it tries. proofs/Making.antt claims that none of them is refused, and that after them the state is the one after the search.
use Rattle.std.specs.Prelude.{◌≡◌, cond, List, [], ◌∷◌, ℕ, zero, suc, ℤ, leb}
use Rattle.meaning.specs.Meaning.{atom}
use Rattle.book.specs.Table.{Step, give, open_level, propagate, search, returned_by, State, propagated, on_trail, propagating, following, tried, a_step, reply, following_call}

-- ---- the calls

abbrev pub at_still : (sentence : ℕ) → List Step → List Step
at_still zero on = on
at_still (suc k) on = []

abbrev pub propagate_then : State → (State → List Step) → List Step
propagate_then q on = propagate ∷ at_still (propagated q).sentence (on (following q (propagating q)))

unfoldable pub made_next : State → List ℤ → List Step
made_next q [] = []
made_next q (l ∷ ls) =
    cond (on_trail q (atom l)) (made_next q ls)
    (cond (leb q.levels q.level) [] (open_level ∷ give l ∷ propagate_then (tried q l) (λ p. made_next p ls)))

abbrev pub made : State → List ℤ → List Step
made q ls = propagate_then q (λ p. made_next p ls)

-- ---- calls in order

abbrev pub called_all : State → List Step → State
called_all q [] = q
called_all q (x ∷ xs) = called_all (following_call q (a_step x)) xs

abbrev pub Taken : State → Step → Type 0
Taken q x = (returned_by (reply q (a_step x)).answer).code ≡ 0

abbrev pub AllTaken : State → List Step → Type 0
AllTaken q [] = Unit {0}
AllTaken q (x ∷ xs) = Taken q x × AllTaken (following_call q (a_step x)) xs

-- the search is the calls that it makes
pub record Makes (q : State) (ls : List ℤ) : Type 0 where
  pub none_refused : AllTaken q (made q ls)
  pub after_them : called_all q (made q ls) ≡ following_call q (a_step (search ls))
