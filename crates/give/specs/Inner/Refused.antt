-- The code with which the table refuses a step on a whole area, 0 for none: that of the first refusal that applies.
use Rattle.std.specs.Prelude.{cond, List, [], ◌∷◌, ℕ}
use Rattle.types.specs.declared.Limits.{Limits}
use Rattle.book.specs.Table.{Step, Refusal, step_refusals}
use Rattle.calls.specs.Calls.{area_state}

abbrev pub first_code : List Refusal → ℕ
first_code [] = 0
first_code (r ∷ rs) = cond r.applies r.code (first_code rs)

abbrev pub refusal_code : Limits → List ℕ → Step → ℕ
refusal_code lim w x = first_code (step_refusals (area_state lim w) x)
