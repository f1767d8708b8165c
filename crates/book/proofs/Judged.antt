-- The computed tests on the merge of a well_formed sentence judge it as full assignments do; and its scope is of atoms 1 to N, outside
-- which it is blind.
use mathlib.Core.Path.{◌≡◌, refl, sym, ap, subst}
use mathlib.Core.List.{List, [], ◌∷◌, map}
use Prim.Native.Nat.{ℕ, ◌≤◌}
use Rattle.numbers.specs.Extended.{up, down}
use Rattle.meaning.specs.Meaning.{entry_atom, Sentence, Each}
use Rattle.meaning.specs.Merge.{merge}
use Rattle.meaning.proofs.Merging.{merge_represents}
use Rattle.meaning.proofs.Members.{each_both, merge_places}
use Rattle.meaning.proofs.Gather.{each_map}
use Rattle.meaning.proofs.Extremes.{extreme_furthest}
use Rattle.meaning.proofs.Says.{says_right}
use Rattle.book.specs.Book.{Judgement, Judging, computed, judged_all, rules_of, WellFormed}
use Rattle.book.specs.Sound.{JudgesAll, none, more, Within, Scoped, Blind}
use Rattle.book.proofs.Blind.{written_blind}

pub computed_right : Judging computed
computed_right n s w =
    let m = merge s.kind s.entries in
    let p = merge_represents s w.admissible in
    record {
      scope_is = refl;
      said = λ t c. says_right s m t p w.head_low c;
      least_is = λ t c. extreme_furthest down s m t p c;
      greatest_is = λ t c. extreme_furthest up s m t p c;
    }

pub computed_all : (ss : List Sentence) → judged_all (rules_of ss) ≡ map computed ss
computed_all [] = refl
computed_all (s ∷ ss) = ap (λ js. computed s ∷ js) (computed_all ss)

module _ (n : ℕ) where
  pub all_judging : (j : Judgement) → Judging j → (ss : List Sentence) → Each (WellFormed n) ss → JudgesAll ss (map j ss)
  all_judging j m [] w = none
  all_judging j m (s ∷ ss) w = more (m n s w.0) (all_judging j m ss w.1)

  pub all_judged : (ss : List Sentence) → Each (WellFormed n) ss → JudgesAll ss (judged_all (rules_of ss))
  all_judged ss w = subst (JudgesAll ss) (sym (computed_all ss)) (all_judging computed computed_right ss w)

  scoped : (s : Sentence) → WellFormed n s → Scoped n s
  scoped s w = (
    (w.head_low, w.head_high),
    merge_places (Within n) s.kind s.entries (each_both (λ e. 1 ≤ entry_atom e) (λ e. entry_atom e ≤ n) s.entries w.admissible.literals w.atoms_high),
  )

  pub all_scoped : (ss : List Sentence) → Each (WellFormed n) ss → Each (Scoped n) ss
  all_scoped ss w = each_map (WellFormed n) (Scoped n) ss scoped w

  pub all_blind : (ss : List Sentence) → Each (WellFormed n) ss → Each Blind ss
  all_blind ss w = each_map (WellFormed n) Blind ss (λ s h. written_blind s) w
