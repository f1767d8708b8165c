-- The merge of one entry more: the members, the turned entries, the constant, the collected entries and those of weight not 0 each take
-- it at their end. A count leaves an entry out if its literal was mentioned before.
use mathlib.Core.Path.{◌≡◌, refl, sym, ap, ◌∙◌}
use mathlib.Core.Bool.{Bool, true, false, not, cond, ◌||◌, or_assoc, or_comm}
use mathlib.Core.List.{List, [], ◌∷◌, ◌++◌, append-nil}
use lib.IntN.{ℤ, pos, ◌+ℤ◌, +ℤ_assoc, +ℤ_comm}
use lib.Signed.{le_z}
use lib.Dec.{T}
use Rattle.numbers.proofs.Integers.{ints}
use Rattle.meaning.specs.Meaning.{Entry, Kind, sum, product, count, maximum, minimum, same, without, once, ones, members}
use Rattle.meaning.specs.Merge.{turned_by, freed_by, turned_all, freed_all, turned, constant, put, collect, nonzero}
use Rattle.meaning.proofs.Verdicts.{and_first, and_second}
use Rattle.kinds.specs.Kinds.{weight_fits}
use Rattle.columns.specs.Refusals.{some_entry}
use Rattle.entry_words.specs.Inner.Entries.{positive, freed}
use Rattle.gather.specs.Inner.Gather.{mentioned, taken}

pub collect_next : (k : Kind) (xs es : List Entry) (e : Entry) → collect k xs (es ++ (e ∷ [])) ≡ put k (collect k xs es) e
unfolding collect
collect_next k xs [] e = refl
collect_next k xs (x ∷ es) e = collect_next k (put k xs x) es e

-- ---- turned entries and the constant

turned_all_next : (es : List Entry) (e : Entry) → turned_all (es ++ (e ∷ [])) ≡ turned_all es ++ (turned_by e.weight e.literal ∷ [])
unfolding turned_all
turned_all_next [] e = refl
turned_all_next (x ∷ es) e = ap (λ r. turned_by x.weight x.literal ∷ r) (turned_all_next es e)

pub turned_next : (k : Kind) (es : List Entry) (e : Entry) → turned k (es ++ (e ∷ [])) ≡ turned k es ++ (positive k e ∷ [])
turned_next k es e = elim k as (λ k. turned k (es ++ e ∷ []) ≡ turned k es ++ positive k e ∷ []) [ sum ↦ turned_all_next es e | product ↦ refl | count ↦ turned_all_next es e | maximum ↦ refl | minimum ↦ refl ]

freed_all_next : (es : List Entry) (e : Entry) → freed_all (es ++ (e ∷ [])) ≡ freed_all es +ℤ freed_by e.weight e.literal
unfolding freed_all
freed_all_next [] e = +ℤ_comm (freed_by e.weight e.literal) (pos 0)
freed_all_next (x ∷ es) e = ap (λ r. freed_by x.weight x.literal +ℤ r) (freed_all_next es e)
    ∙ sym (+ℤ_assoc (freed_by x.weight x.literal) (freed_all es) (freed_by e.weight e.literal))

pub constant_next : (k : Kind) (es : List Entry) (e : Entry) → constant k (es ++ (e ∷ [])) ≡ constant k es +ℤ freed k e
constant_next k es e = elim k as (λ k. constant k (es ++ e ∷ []) ≡ constant k es +ℤ freed k e) [ sum ↦ freed_all_next es e | product ↦ refl | count ↦ freed_all_next es e | maximum ↦ refl | minimum ↦ refl ]

-- ---- members

pub mentioned_next : (l : ℤ) (es : List Entry) (e : Entry) → mentioned l (es ++ (e ∷ [])) ≡ (mentioned l es || same e.literal l)
unfolding some_entry
mentioned_next l [] e = or_comm (same e.literal l) false
mentioned_next l (x ∷ es) e = ap (λ b. same x.literal l || b) (mentioned_next l es e) ∙ sym (or_assoc (same x.literal l) (mentioned l es) (same e.literal l))

without_next : (l : ℤ) (es : List Entry) (e : Entry) → without l (es ++ (e ∷ [])) ≡ without l es ++ cond (same l e.literal) [] (e ∷ [])
without_next l [] e = refl
without_next l (x ∷ es) e =
    let last = cond (same l e.literal) [] (e ∷ []) in
    ap (λ r. cond (same l x.literal) r (x ∷ r)) (without_next l es e)
    ∙ (elim (same l x.literal) as (λ b. cond b (without l es ++ last) (x ∷ (without l es ++ last)) ≡ cond b (without l es) (x ∷ without l es) ++ last) [ true ↦ refl | false ↦ refl ])

once_next : (es : List Entry) (e : Entry) → once (es ++ (e ∷ [])) ≡ cond (mentioned e.literal es) (once es) (once es ++ (e ∷ []))
unfolding some_entry
once_next [] e = refl
once_next (x ∷ es) e =
    ap (λ r. x ∷ without x.literal r) (once_next es e) ∙ go (mentioned e.literal es) (same x.literal e.literal) (without_next x.literal (once es) e)
  where
    -- b: e's literal is mentioned later; s: it is that of x
    go : (b s : Bool) → without x.literal (once es ++ (e ∷ [])) ≡ without x.literal (once es) ++ cond s [] (e ∷ [])
        → x ∷ without x.literal (cond b (once es) (once es ++ (e ∷ []))) ≡ cond (s || b) (x ∷ without x.literal (once es)) (x ∷ (without x.literal (once es) ++ (e ∷ [])))
    go true true w = refl
    go true false w = refl
    go false true w = ap (λ r. x ∷ r) (w ∙ append-nil (without x.literal (once es)))
    go false false w = ap (λ r. x ∷ r) w

ones_next : (es : List Entry) (e : Entry) → ones (es ++ (e ∷ [])) ≡ ones es ++ (record { weight = pos 1; literal = e.literal } ∷ [])
ones_next [] e = refl
ones_next (x ∷ es) e = ap (λ r. record { weight = pos 1; literal = x.literal } ∷ r) (ones_next es e)

mentioned_ones : (l : ℤ) (es : List Entry) → mentioned l (ones es) ≡ mentioned l es
unfolding some_entry
mentioned_ones l [] = refl
mentioned_ones l (x ∷ es) = ap (λ b. same x.literal l || b) (mentioned_ones l es)

one_weight : (w : ℤ) → T (weight_fits count w) → w ≡ pos 1
one_weight w t = let l = and_first (le_z (pos 1) w) (le_z w (pos 1)) t in let m = and_second (le_z (pos 1) w) (le_z w (pos 1)) t in omega ints

pub members_next : (k : Kind) (es : List Entry) (e : Entry) → T (weight_fits k e.weight)
    → members k (es ++ (e ∷ [])) ≡ cond (taken k (mentioned e.literal es)) (members k es ++ (e ∷ [])) (members k es)
members_next sum es e t = refl
members_next product es e t = refl
members_next count es e t =
    let one : Entry = record { weight = pos 1; literal = e.literal } in
    ap once (ones_next es e) ∙ once_next (ones es) one ∙ ap (λ b. cond b (once (ones es)) (once (ones es) ++ (one ∷ []))) (mentioned_ones e.literal es)
    ∙ ap (λ w. cond (mentioned e.literal es) (once (ones es)) (once (ones es) ++ (record { weight = w; literal = e.literal } ∷ []))) (sym (one_weight e.weight t))
    ∙ (elim (mentioned e.literal es) as (λ b. cond b (once (ones es)) (once (ones es) ++ (e ∷ [])) ≡ cond (not b) (once (ones es) ++ (e ∷ [])) (once (ones es))) [ true ↦ refl | false ↦ refl ])
members_next maximum es e t = refl
members_next minimum es e t = refl

-- ---- weight 0

pub nonzero_next : (es : List Entry) (e : Entry) → nonzero (es ++ (e ∷ [])) ≡ cond (same e.weight (pos 0)) (nonzero es) (nonzero es ++ (e ∷ []))
unfolding nonzero
nonzero_next [] e = refl
nonzero_next (x ∷ es) e = ap (λ r. cond (same x.weight (pos 0)) r (x ∷ r)) (nonzero_next es e) ∙ go (same x.weight (pos 0)) (same e.weight (pos 0))
  where
    go : (b z : Bool) → cond b (cond z (nonzero es) (nonzero es ++ (e ∷ []))) (x ∷ cond z (nonzero es) (nonzero es ++ (e ∷ [])))
        ≡ cond z (cond b (nonzero es) (x ∷ nonzero es)) (cond b (nonzero es) (x ∷ nonzero es) ++ (e ∷ []))
    go true true = refl
    go true false = refl
    go false true = refl
    go false false = refl
