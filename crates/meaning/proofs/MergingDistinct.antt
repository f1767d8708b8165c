-- The entries of a merged set have distinct atoms, since two entries of one atom have one literal and are joined: after turning all
-- literals are positive, and in the kinds that turn none an atom has one sign.
use mathlib.Core.Path.{◌≡◌, refl, sym, ◌∙◌, ap}
use mathlib.Core.Bool.{true, false, not, cond}
use mathlib.Core.List.{List, [], ◌∷◌}
use lib.IntN.{ℤ, pos, negsuc}
use lib.Dec.{T}
use Rattle.meaning.specs.Meaning.{atom, Entry, entry_atom, Kind, sum, product, count, maximum, minimum, same, members, Each, mixes, OneSigned}
use Rattle.meaning.specs.Merge.{turned_by, turned_all, put, collect, nonzero, merge}
use Rattle.meaning.specs.Represents.{DistinctAtoms}
use Rattle.meaning.proofs.Gather.{each_map}
use Rattle.meaning.proofs.Members.{eq→same, join, each, each_both, put_each, nonzero_each}

-- the entry has the literal l if it has its atom
abbrev SameLiteral : ℤ → Entry → Type 0
SameLiteral l x = entry_atom x ≡ atom l → x.literal ≡ l

put_distinct : (k : Kind) (xs : List Entry) (e : Entry) → DistinctAtoms xs → Each (SameLiteral e.literal) xs → DistinctAtoms (put k xs e)
unfolding put
put_distinct k [] e d h = (tt, tt)
put_distinct k (x ∷ xs) e d h =
    elim (same x.literal e.literal) as (λ b. (x.literal ≡ e.literal → T b) → DistinctAtoms (cond b (join k x e ∷ xs) (x ∷ put k xs e))) [
      | true ↦ λ eq. d
      | false ↦ λ eq. (put_each (λ y. ¬ (entry_atom y ≡ entry_atom x)) k (λ y z p q. p) xs e d.0 (λ q. eq (h.0 (sym q))), put_distinct k xs e d.1 h.1)
    ]
    (eq→same x.literal e.literal)

collect_distinct : (k : Kind) (xs es : List Entry) → DistinctAtoms xs → Each (λ e. Each (SameLiteral e.literal) xs) es → OneSigned es → DistinctAtoms (collect k xs es)
unfolding collect
collect_distinct k xs [] d h o = d
collect_distinct k xs (e ∷ es) d h o = collect_distinct k (put k xs e) es (put_distinct k xs e d h.0)
    (each_map (λ x. Each (SameLiteral x.literal) xs × (entry_atom x ≡ entry_atom e → x.literal ≡ e.literal)) (λ x. Each (SameLiteral x.literal) (put k xs e)) es
    (λ x p. put_each (SameLiteral x.literal) k (λ y z q r. q) xs e p.0 (λ q. sym (p.1 (sym q))))
    (each_both (λ x. Each (SameLiteral x.literal) xs) (λ x. entry_atom x ≡ entry_atom e → x.literal ≡ e.literal) es h.1 o.0)) o.1

nonzero_distinct : (es : List Entry) → DistinctAtoms es → DistinctAtoms (nonzero es)
unfolding nonzero
nonzero_distinct [] d = tt
nonzero_distinct (e ∷ es) d = elim (same e.weight (pos 0)) as (λ b. DistinctAtoms (cond b (nonzero es) (e ∷ nonzero es)))
    [ true ↦ nonzero_distinct es d.1 | false ↦ (nonzero_each (λ x. ¬ (entry_atom x ≡ entry_atom e)) es d.0, nonzero_distinct es d.1) ]

-- ---- after turning all literals are positive

turned_by_positive : (w l : ℤ) → (turned_by w l).literal ≡ pos (entry_atom (turned_by w l))
turned_by_positive w l = elim l as (λ l. (turned_by w l).literal ≡ pos (entry_atom (turned_by w l))) [ pos a ↦ refl | negsuc a ↦ refl ]

pub turned_all_positive : (es : List Entry) → Each (λ e. e.literal ≡ pos (entry_atom e)) (turned_all es)
unfolding turned_all
turned_all_positive [] = tt
turned_all_positive (e ∷ es) = (turned_by_positive e.weight e.literal, turned_all_positive es)

positive_one_signed : (es : List Entry) → Each (λ e. e.literal ≡ pos (entry_atom e)) es → OneSigned es
positive_one_signed [] h = tt
positive_one_signed (e ∷ es) h = (
  each_map (λ x. x.literal ≡ pos (entry_atom x)) (λ x. entry_atom x ≡ entry_atom e → x.literal ≡ e.literal) es (λ x p q. p ∙ ap pos q ∙ sym h.0) h.1,
  positive_one_signed es h.1,
)

-- ---- the merge

one_signed_distinct : (k : Kind) (es : List Entry) → OneSigned es → DistinctAtoms (collect k [] es)
one_signed_distinct k es o = collect_distinct k [] es tt (each (λ e. Unit {0}) (λ e. tt) es) o

turned_distinct : (k : Kind) (es : List Entry) → DistinctAtoms (nonzero (collect k [] (turned_all es)))
turned_distinct k es = nonzero_distinct (collect k [] (turned_all es)) (one_signed_distinct k (turned_all es) (positive_one_signed (turned_all es) (turned_all_positive es)))

pub merge_distinct : (k : Kind) (es : List Entry) → (T (not (mixes k)) → OneSigned es) → DistinctAtoms (merge k es).entries
merge_distinct sum es o = turned_distinct sum es
merge_distinct product es o = one_signed_distinct product es (o tt)
merge_distinct count es o = turned_distinct count (members count es)
merge_distinct maximum es o = one_signed_distinct maximum es (o tt)
merge_distinct minimum es o = one_signed_distinct minimum es (o tt)
