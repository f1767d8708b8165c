-- A merged set is its own merge. Its entries are of different atoms, so that none joins another; in a sum or count they are on the atoms
-- themselves, so that none is turned, and none has the weight 0.
use mathlib.Core.Path.{◌≡◌, refl, sym, ◌∙◌, ap, ap₂}
use mathlib.Core.Bool.{true, false, cond}
use mathlib.Core.List.{List, [], ◌∷◌, ◌++◌, append-nil}
use Prim.Native.Nat.{ℕ}
use lib.IntN.{ℤ, pos, ◌+ℤ◌}
use lib.Seq.{append_snoc}
use lib.Dec.{T}
use Rattle.meaning.specs.Meaning.{atom, Entry, entry_atom, Kind, sum, product, count, maximum, minimum, same, Each, mixes}
use Rattle.meaning.specs.Merge.{Merged, turned_by, freed_by, turned_all, freed_all, put, collect, nonzero, merge, merged_kind, Rule}
use Rattle.meaning.specs.Represents.{Off, DistinctAtoms, IsMerged}
use Rattle.meaning.proofs.Gather.{each_map}
use Rattle.meaning.proofs.Members.{same→eq, join, each, each_both}

-- ---- entries of different atoms

put_behind : (k : Kind) (xs : List Entry) (e : Entry) → Off (entry_atom e) xs → put k xs e ≡ xs ++ (e ∷ [])
unfolding put
put_behind k [] e h = refl
put_behind k (x ∷ xs) e h = elim (same x.literal e.literal) as (λ b. (T b → ⊥) → cond b (join k x e ∷ xs) (x ∷ put k xs e) ≡ x ∷ (xs ++ (e ∷ [])))
    [ true ↦ λ n. absurd (n tt) | false ↦ λ n. ap (λ y. x ∷ y) (put_behind k xs e h.1) ]
    (λ t. h.0 (ap {A = ℤ} atom (same→eq x.literal e.literal t)))

off_behind : (a : ℕ) (xs : List Entry) (e : Entry) → Off a xs → ¬ (entry_atom e ≡ a) → Off a (xs ++ (e ∷ []))
off_behind a [] e h n = (n, tt)
off_behind a (x ∷ xs) e h n = (h.0, off_behind a xs e h.1 n)

collect_behind : (k : Kind) (xs es : List Entry) → DistinctAtoms es → Each (λ e. Off (entry_atom e) xs) es → collect k xs es ≡ xs ++ es
unfolding collect
collect_behind k xs [] d h = sym (append-nil xs)
collect_behind k xs (e ∷ es) d h = ap (λ ys. collect k ys es) (put_behind k xs e h.0) ∙ collect_behind k (xs ++ (e ∷ [])) es d.1
    (each_map (λ x. Off (entry_atom x) xs × (¬ (entry_atom x ≡ entry_atom e))) (λ x. Off (entry_atom x) (xs ++ (e ∷ []))) es
    (λ x p. off_behind (entry_atom x) xs e p.0 (λ q. p.1 (sym q))) (each_both (λ x. Off (entry_atom x) xs) (λ x. ¬ (entry_atom x ≡ entry_atom e)) es h.1 d.0))
    ∙ append_snoc xs e es

collected : (k : Kind) (es : List Entry) → DistinctAtoms es → collect k [] es ≡ es
collected k es d = collect_behind k [] es d (each (λ e. Off (entry_atom e) []) (λ e. tt) es)

-- ---- sums

abbrev Turned : Entry → Type 0
Turned e = (e.literal ≡ pos (entry_atom e)) × (¬ (e.weight ≡ pos 0))

turned_same : (es : List Entry) → Each Turned es → turned_all es ≡ es
unfolding turned_all
turned_same [] h = refl
turned_same (e ∷ es) h = ap₂ {A = Entry} {B = List Entry} ◌∷◌
    (ap {A = ℤ} (turned_by e.weight) h.0.0 ∙ ap {A = ℤ} {B = Entry} (λ l. record { weight = e.weight; literal = l }) (sym h.0.0))
    (turned_same es h.1)

freed_none : (es : List Entry) → Each Turned es → freed_all es ≡ pos 0
unfolding freed_all
freed_none [] h = refl
freed_none (e ∷ es) h = ap₂ {A = ℤ} {B = ℤ} ◌+ℤ◌ (ap {A = ℤ} (freed_by e.weight) h.0.0) (freed_none es h.1)

nonzero_same : (es : List Entry) → Each Turned es → nonzero es ≡ es
unfolding nonzero
nonzero_same [] h = refl
nonzero_same (e ∷ es) h = elim (same e.weight (pos 0)) as (λ b. (T b → ⊥) → cond b (nonzero es) (e ∷ nonzero es) ≡ e ∷ es)
    [ true ↦ λ n. absurd (n tt) | false ↦ λ n. ap (λ y. e ∷ y) (nonzero_same es h.1) ] (λ t. h.0.1 (same→eq e.weight (pos 0) t))

abbrev merged_as : ℤ → List Entry → Merged
merged_as c es = record { constant = c; entries = es }

sum_restored : (es : List Entry) → DistinctAtoms es → Each Turned es → merge sum es ≡ merged_as (pos 0) es
sum_restored es d h = ap₂ {A = ℤ} {B = List Entry} merged_as (freed_none es h)
    (ap (λ xs. nonzero (collect sum [] xs)) (turned_same es h) ∙ ap nonzero (collected sum es d) ∙ nonzero_same es h)

-- ---- the entries of a rule

pub restored : (r : Rule) → IsMerged r → merge (merged_kind r.kind) r.set.entries ≡ record { constant = pos 0; entries = r.set.entries }
restored r m = go r.kind m.turned
  where
    joined : (k : Kind) → merged_as (pos 0) (collect k [] r.set.entries) ≡ merged_as (pos 0) r.set.entries
    joined k = ap (merged_as (pos 0)) (collected k r.set.entries m.distinct)

    go : (k : Kind) → (T (mixes k) → Each Turned r.set.entries) → merge (merged_kind k) r.set.entries ≡ merged_as (pos 0) r.set.entries
    go sum h = sum_restored r.set.entries m.distinct (h tt)
    go product h = joined product
    go count h = sum_restored r.set.entries m.distinct (h tt)
    go maximum h = joined maximum
    go minimum h = joined minimum
