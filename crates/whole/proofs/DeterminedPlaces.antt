-- The stored place of a row is determined: a whole sentence has each atom at one place of its scope, since the entries are of different
-- atoms and none is of the head's; and the place of a given row is 0.
use mathlib.Core.Path.{◌≡◌, refl, sym, ◌∙◌, ap}
use mathlib.Core.Logic.{inl, inr}
use mathlib.Core.List.{List, [], ◌∷◌}
use Prim.Native.Nat.{ℕ, zero, suc, ◌<◌, ◌≤◌}
use native.Mathlib.Omega.{arith}
use lib.ListN.{get_or}
use Rattle.types.specs.declared.Limits.{Limits}
use Rattle.meaning.specs.Meaning.{atom, Entry, entry_atom}
use Rattle.meaning.specs.Merge.{Rule, entry_atoms, scope}
use Rattle.meaning.proofs.Gather.{each_map}
use Rattle.meaning.proofs.Members.{places_each}
use Rattle.book.specs.Rows.{Row}
use Rattle.book.specs.Sound.{In}
use Rattle.book.proofs.Number.{in_each}
use Rattle.book.proofs.Few.{Distinct}
use Rattle.area.specs.Layout.{row_at, place_at, record_at, rule_at}
use Rattle.area.specs.Whole.{EntryWhole, DistinctAtoms, RuleWhole, Reasoned}

-- ---- atoms by place

-- past the end stands 0
pub place_in : (bs : List ℕ) (p a : ℕ) → 1 ≤ a → get_or bs p 0 ≡ a → In a bs
place_in [] p a l e = let f : ⊥ = omega arith in absurd f
place_in (b ∷ bs) zero a l e = inl e
place_in (b ∷ bs) (suc p) a l e = inr (place_in bs p a l e)

distinct_place : (bs : List ℕ) (a p q : ℕ) → Distinct bs → 1 ≤ a → get_or bs p 0 ≡ a → get_or bs q 0 ≡ a → p ≡ q
distinct_place [] a p q d l e f = let b : ⊥ = omega arith in absurd b
distinct_place (b ∷ bs) a zero zero d l e f = refl
distinct_place (b ∷ bs) a zero (suc q) d l e f = absurd (in_each (λ x. ¬ (x ≡ b)) a bs (place_in bs q a l f) d.0 (sym e))
distinct_place (b ∷ bs) a (suc p) zero d l e f = absurd (in_each (λ x. ¬ (x ≡ b)) a bs (place_in bs p a l e) d.0 (sym f))
distinct_place (b ∷ bs) a (suc p) (suc q) d l e f = ap suc (distinct_place bs a p q d.1 l e f)

-- ---- a whole sentence's atoms

places_distinct : (es : List Entry) → DistinctAtoms es → Distinct (entry_atoms es)
places_distinct [] o = tt
places_distinct (e ∷ es) o = (places_each (λ x. ¬ (x ≡ entry_atom e)) es o.0, places_distinct es o.1)

pub scope_distinct : {lim : Limits} {n : ℕ} {r : Rule} → RuleWhole lim n r → Distinct (scope r)
scope_distinct {lim} {n} {r} h = (
  places_each (λ x. ¬ (x ≡ r.head)) r.set.entries
      (each_map (EntryWhole n r.head r.kind r.written) (λ e. ¬ (entry_atom e ≡ r.head)) r.set.entries (λ e x. x.other) h.entries),
  places_distinct r.set.entries h.once,
)

-- ---- row i of two areas with the same rows and the same sentences

module _ (lim : Limits) (w w' : List ℕ) (n S i : ℕ) where
  pub place_same : Reasoned w n S i → Reasoned w' n S i → row_at w n i ≡ row_at w' n i → 1 ≤ atom (row_at w n i).literal
      → ((s : ℕ) → s < S → RuleWhole lim n (rule_at w n S (record_at n s)))
      → ((s : ℕ) → s < S → rule_at w n S (record_at n s) ≡ rule_at w' n S (record_at n s)) → place_at w n i ≡ place_at w' n i
  place_same h h' row low whole rules = go (row_at w n i).reason refl
    where
      reasons : (row_at w n i).reason ≡ (row_at w' n i).reason
      reasons = ap {A = Row} (λ r. r.reason) row

      go : (k : ℕ) → (row_at w n i).reason ≡ k → place_at w n i ≡ place_at w' n i
      go zero e = h.given e ∙ sym (h'.given (sym reasons ∙ e))
      go (suc s) e = let l : s < S = omega (arith, h.few) in
          distinct_place (scope (rule_at w n S (record_at n s))) (atom (row_at w n i).literal) (place_at w n i) (place_at w' n i)
          (scope_distinct (whole s l)) low (h.derived s e)
          (ap {A = Rule} (λ r. get_or (scope r) (place_at w' n i) 0) (rules s l) ∙ h'.derived s (sym reasons ∙ e)
          ∙ ap {A = Row} (λ r. atom r.literal) (sym row))
