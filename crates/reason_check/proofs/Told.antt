-- A row's reason is right where the word at its place says so: the head's word, or half the literal's word of a merged entry.
use mathlib.Core.Path.{◌≡◌, sym, ◌∙◌}
use mathlib.Core.Bool.{Bool}
use mathlib.Core.List.{List}
use Prim.Native.Nat.{ℕ, ◌+◌, ◌*◌, ◌-◌, ◌/◌, ◌<◌, ◌≤◌}
use native.Mathlib.Omega.{arith}
use lib.ListN.{length}
use Rattle.types.specs.declared.Limits.{Limits}
use Rattle.decide.specs.Inner.Tells.{Tells}
use Rattle.decide.proofs.Tells.{told_same}
use Rattle.area.specs.Layout.{word, merged_at, entry_at}
use Rattle.theory_check.proofs.Places.{placed}
use Rattle.theory_check.proofs.Scope.{scope_entry, scope_past}
use Rattle.reason_check.specs.Inner.Reasons.{Reasonable, ScopeAsked, HasAtom}

-- the sentence of a reason has its place
pub reason_inside : (lim : Limits) (w : List ℕ) (n S len s : ℕ) → Reasonable lim w n S len → s < S → ScopeAsked w n S (4 * n + 8 * s)
reason_inside lim w n S len s q l = let p = placed lim w n S s q.places l in
    record {
      atoms = omega (arith, q.atoms_high, q.fitting.atoms);
      sentences = omega (arith, q.sentences, q.fitting.sentences);
      own = p.own;
      room = omega (arith, p.room, p.merged);
    }

module _ (w : List ℕ) (n S b : ℕ) (room : entry_at w n S b + 2 * merged_at w b ≤ length w) where
  -- a place from 1 on is that of the entry before
  pub entry_told : {r : Bool} (entry place atom : ℕ) → place ≡ entry + 1 → entry < merged_at w b
      → Tells r (word w (entry_at w n S b + 2 * entry + 1) / 2 ≡ atom)
      → Tells r (HasAtom w n S b place atom)
  entry_told entry place atom e h t = let x = scope_entry w n S b room place (omega arith) (omega arith) in
      let i : entry ≡ place - 1 = omega arith in
      told_same (rw i at t) (λ q. x ∙ q) (λ q. sym x ∙ q)

  pub past_told : (place atom : ℕ) → 1 ≤ atom → merged_at w b < place → ¬ (HasAtom w n S b place atom)
  past_told place atom l h e = let f : 0 ≡ atom = sym (scope_past w n S b room place h) ∙ e in omega arith
