-- Load's table works both ways: the code is 0 exactly where no refusal applies, and another code is that of the first refusal that
-- applies, with its sentence, since no refusal has the number 0.
use mathlib.Core.Path.{◌≡◌, refl, sym, ◌∙◌}
use mathlib.Core.Bool.{Bool, true, false, cond}
use mathlib.Core.List.{List, [], ◌∷◌}
use mathlib.Core.Logic.{inl, inr}
use Prim.Native.Nat.{ℕ, suc}
use native.Mathlib.Omega.{arith}
use Rattle.types.specs.declared.Limits.{Limits}
use Rattle.meaning.specs.Meaning.{Each}
use Rattle.book.specs.Table.{Refusal}
use Rattle.columns.specs.Columns.{Columns, Written, all_written}
use Rattle.columns.specs.Refusals.{all_refusals, load_refusals, first_refusal, load_answer}
use Rattle.columns.specs.Decides.{Decides, answer}

decides : (rs : List Refusal) → Each (λ r. ¬ (r.code ≡ 0)) rs → Decides rs (first_refusal rs)
unfolding first_refusal
decides [] h = record { none = λ z. tt; nothing = λ e. refl; first = λ n. n refl }
decides (r ∷ rs) h = go r.applies refl (decides rs h.1)
  where
    go : (b : Bool) → r.applies ≡ b → Decides rs (first_refusal rs) → Decides (r ∷ rs) (cond b (answer r.code r.value) (first_refusal rs))
    go true e d = record { none = λ z. absurd (h.0 z); nothing = λ q. let x : true ≡ false = sym e ∙ q.0 in cc; first = λ n. inl (e, refl) }
    go false e d = record { none = λ z. (e, d.none z); nothing = λ q. d.nothing q.1; first = λ n. inr (e, d.first n) }

numbered : (lim : Limits) (n k : ℕ) (xs : List Written) → Each (λ r. ¬ (r.code ≡ 0)) (all_refusals lim n k xs)
unfolding all_refusals
numbered lim n k [] = tt
numbered lim n k (x ∷ xs) =
    (λ e. omega arith, (λ e. omega arith, (λ e. omega arith, (λ e. omega arith, (λ e. omega arith, (λ e. omega arith, numbered lim n (suc k) xs))))))

pub refused_or_not : (lim : Limits) (words n : ℕ) (c : Columns) → Decides (load_refusals lim words n c) (load_answer lim words n c)
refused_or_not lim words n c = decides (load_refusals lim words n c) (λ e. omega arith, (λ e. omega arith, numbered lim n 1 (all_written c)))
