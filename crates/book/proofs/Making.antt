-- A search that is not refused is the calls that it makes: none of them is refused, as a level is opened only below the highest and only an
-- open literal of an atom is given, and level and rows after them are the search's.
use mathlib.Core.Path.{◌≡◌, refl, sym, ap, ap₂, ◌∙◌, subst}
use mathlib.Core.Bool.{Bool, true, false, not, cond}
use mathlib.Core.List.{List, [], ◌∷◌}
use Prim.Native.Nat.{ℕ, zero, suc, ◌+◌}
use native.Mathlib.Omega.{arith}
use lib.IntN.{ℤ}
use lib.Dec.{T, leb}
use Rattle.meaning.specs.Meaning.{atom}
use Rattle.book.specs.Rows.{Row, a_row, any}
use Rattle.book.specs.Table.{Step, give, open_level, propagate, search, a_step, refused, returned_by, Judged, State, propagated, no_atom, on_trail, Outcome, unchanged, ended, giving, opening, put_on, propagating, following, End, end_at, apart, turning, tried, trying, searching, search_ended, effect, reply}
use Rattle.book.specs.Made.{at_still, propagate_then, made_next, called_all, Taken, AllTaken, Makes}
use Rattle.book.proofs.Tests.{either₂, none_first, none_rest}
use Rattle.book.proofs.Keeps.{state_at}

-- the calls are taken, and lead from one state to the other
abbrev Leads : State → List Step → State → Type 0
Leads q xs p = AllTaken q xs × (called_all q xs ≡ p)

-- one call more in front, with this reply
leads_on : (q : State) (x : Step) (o : Outcome) (xs : List Step) (p : State) → reply q (a_step x) ≡ o → (returned_by o.answer).code ≡ 0 → Leads (following q o) xs p → Leads q (x ∷ xs) p
leads_on q x o xs p e t h =
    let back = subst (λ (y : Outcome). AllTaken (following q y) xs × (called_all (following q y) xs ≡ p)) (sym e) h in
    ((ap (λ (y : Outcome). (returned_by y.answer).code) e ∙ t, back.0), back.1)

ended_taken : (k n : ℕ) → (returned_by (ended k n)).code ≡ 0
ended_taken zero n = refl
ended_taken (suc k) n = refl

-- where propagate stops, its value is how many rows came on
pub ended_value : (k n : ℕ) → (returned_by (ended k n)).value ≡ n
ended_value zero n = refl
ended_value (suc k) n = refl

not_true : (b : Bool) → T (not b) → b ≡ false
not_true true t = absurd t
not_true false t = refl

module _ (n top : ℕ) (js : List Judged) where
  abbrev here : ℕ → List Row → State
  here v rs = state_at false n top js v rs

  abbrev ended_at : End → State
  ended_at e = here e.level e.rows

  -- ---- each call's reply

  open_taken : (v : ℕ) (rs : List Row) → leb top v ≡ false → reply (here v rs) (a_step open_level) ≡ opening (here v rs)
  unfolding reply
  open_taken v rs e = ap {A = Bool} (λ b. cond b (unchanged (here v rs) (refused 14 0)) (opening (here v rs))) e

  pub give_taken : (v : ℕ) (rs : List Row) (l : ℤ) → no_atom (here v rs) l ≡ false → on_trail (here v rs) (atom l) ≡ false → reply (here v rs) (a_step (give l)) ≡ giving (here v rs) l
  unfolding reply
  give_taken v rs l e f =
      ap₂ {A = Bool} {B = Bool} (λ a b. cond a (unchanged (here v rs) (refused 10 0)) (cond b (unchanged (here v rs) (refused 11 0)) (giving (here v rs) l))) e f

  propagate_taken : (v : ℕ) (rs : List Row) → reply (here v rs) (a_step propagate) ≡ propagating (here v rs)
  unfolding reply
  propagate_taken v rs = refl

  -- ---- a turn

  turning_made : (d g v : ℕ) (rs : List Row) (on : State → ℕ → End) (calls : State → List Step)
      → ((rs' : List Row) (e : ℕ) → Leads (here v rs') (calls (here v rs')) (ended_at (on (here v rs') e)))
      → Leads (here v rs) (propagate_then (here v rs) calls) (ended_at (turning (here v rs) d g on))
  turning_made d g v rs on calls f =
      leads_on q propagate (propagating q) (at_still (propagated q).sentence (calls (following q (propagating q)))) (ended_at (turning q d g on))
      (propagate_taken v rs) (ended_taken (propagated q).sentence (put_on q)) (go (propagated q).sentence)
    where
      q : State
      q = here v rs

      go : (k : ℕ) → Leads (following q (propagating q)) (at_still k (calls (following q (propagating q)))) (ended_at (apart k (end_at (propagated q).sentence (d + put_on q) g (following q (propagating q))) (on (following q (propagating q)) (d + put_on q))))
      go zero = f (propagated q).rows (d + put_on q)
      go (suc k) = (tt, refl)

  -- ---- literal by literal

  trying_made : (ls : List ℤ) (d g v : ℕ) (rs : List Row) → T (not (any (no_atom (here v rs)) ls))
      → Leads (here v rs) (made_next (here v rs) ls) (ended_at (trying (here v rs) d g ls))
  unfolding trying made_next
  trying_made [] d g v rs t = (tt, refl)
  trying_made (l ∷ ls) d g v rs t =
      let rest = none_rest (no_atom (here v rs)) l ls t in
      let goal = ended_at (turning (tried (here v rs) l) d (suc g) (λ p e. trying p e (suc g) ls)) in
      let turn = propagate_then (tried (here v rs) l) (λ p. made_next p ls) in
      either₂ (λ xs e. Leads (here v rs) xs (ended_at e)) (on_trail (here v rs) (atom l)) (λ _. trying_made ls d (suc g) v rs rest)
      (λ off. either₂ (λ xs e. Leads (here v rs) xs (ended_at e)) (leb top v) (λ _. (tt, refl))
      (λ low. leads_on (here v rs) open_level (opening (here v rs)) (give l ∷ turn) goal (open_taken v rs (not_true (leb top v) low)) refl
      (leads_on (here (suc v) rs) (give l) (giving (here (suc v) rs) l) turn goal
      (give_taken (suc v) rs l (not_true (no_atom (here v rs) l) (none_first (no_atom (here v rs)) l ls t)) (not_true (on_trail (here v rs) (atom l)) off)) refl
      (turning_made d (suc g) (suc v) (a_row l (suc v) 0 ∷ rs) (λ p e. trying p e (suc g) ls) (λ p. made_next p ls)
      (λ rs' e. trying_made ls e (suc g) (suc v) rs' rest)))))

  -- ---- the search

  makes : (ls : List ℤ) (v : ℕ) (rs : List Row) → any (no_atom (here v rs)) ls ≡ false → Makes (here v rs) ls
  unfolding reply
  makes ls v rs e =
      let t : T (not (any (no_atom (here v rs)) ls)) = subst (λ (b : Bool). T (not b)) (sym e) tt in
      let h = turning_made 0 0 v rs (λ p d. trying p d 0 ls) (λ p. made_next p ls) (λ rs' d. trying_made ls d 0 v rs' t) in
      record {
        none_refused = h.0;
        after_them = h.1 ∙ ap {A = Bool} (λ b. following (here v rs) (cond b (unchanged (here v rs) (refused 10 0)) (search_ended (searching (here v rs) ls)))) (sym e);
      }

pub search_makes : (q : State) (ls : List ℤ) → Taken q (search ls) → Makes q ls
unfolding reply
search_makes q ls t = go q.broken (any (no_atom q) ls) refl refl t
  where
    go : (x y : Bool) → q.broken ≡ x → any (no_atom q) ls ≡ y
        → (returned_by (cond x (unchanged q (refused 9 0)) (cond y (unchanged q (refused 10 0)) (effect q (a_step (search ls))))).answer).code ≡ 0 → Makes q ls
    go true y e f t = absurd (let b : ⊥ = omega (arith, t) in b)
    go false true e f t = absurd (let b : ⊥ = omega (arith, t) in b)
    go false false e f t =
        subst (λ x. Makes (state_at x q.atoms q.levels q.sentences q.level q.rows) ls) (sym e)
        (makes q.atoms q.levels q.sentences ls q.level q.rows f)
