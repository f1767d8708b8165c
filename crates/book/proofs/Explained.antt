-- An explanation is a clause that its sentence alone entails: an assignment that satisfies the sentence gives the literal, or makes a
-- cause false. The causes stand on the trail, so the clause's other literals are false there.
use mathlib.Core.Path.{◌≡◌, refl, sym, ◌∙◌, ap, subst}
use mathlib.Core.Bool.{Bool, true, false, not}
use mathlib.Core.Logic.{◌⊎◌, inl, inr, ⊎_elim}
use mathlib.Core.List.{List, [], ◌∷◌, map}
use Prim.Native.Nat.{ℕ, zero, suc, ◌≤◌}
use lib.IntN.{ℤ, neg_ℤ, neg_ℤ-neg_ℤ}
use lib.Dec.{T_not}
use Rattle.meaning.specs.Meaning.{Assignment, atom, holds, same, Sentence, Agrees, Consistent, Conflicting, Forces, Each}
use Rattle.meaning.specs.Merge.{rule_of, scope}
use Rattle.book.specs.Rows.{Row, trail, causes, Standpoint, row_of, numbered, explanation, conflict_explanation}
use Rattle.book.specs.Table.{Judged, scopes}
use Rattle.meaning.proofs.Trails.{opposite_holds}
use Rattle.meaning.proofs.Members.{same→eq, eq→same}
use Rattle.book.specs.Means.{IsNumber, Among, Some, EntailedBy, AllFalse, Explains, ExplainsConflict}
use Rattle.book.specs.Sound.{JudgesAll, none, more, In, RowReasoned, Sits, Sound, BlindOutside, Blind}
use Rattle.book.proofs.Number.{numbered_each}
use Rattle.book.proofs.Sound.{consistent}
use Rattle.book.proofs.Blind.{causes_from, forced_by_causes, conflict_by_causes}
use Rattle.book.proofs.Tests.{either}

-- ---- negations

-- all hold, or the negation of one does
all_or_some : (σ : Assignment) (ls : List ℤ) → ((l : ℤ) → Among l ls → 1 ≤ atom l) → Agrees σ ls ⊎ Some (λ m. holds σ m ≡ true) (map neg_ℤ ls)
all_or_some σ [] p = inl tt
all_or_some σ (x ∷ xs) p = go (holds σ x) refl (all_or_some σ xs (λ l h. p l (inr h)))
  where
    go : (b : Bool) → holds σ x ≡ b → Agrees σ xs ⊎ Some (λ m. holds σ m ≡ true) (map neg_ℤ xs) → Agrees σ (x ∷ xs) ⊎ Some (λ m. holds σ m ≡ true) (map neg_ℤ (x ∷ xs))
    go true e (inl g) = inl (e, g)
    go true e (inr h) = inr (inr h)
    go false e r = inr (inl (opposite_holds x (p x (inl refl)) σ ∙ ap not e))

causes_false : (t ls : List ℤ) → ((m : ℤ) → Among m ls → Among m t) → AllFalse t (map neg_ℤ ls)
causes_false t [] f = tt
causes_false t (x ∷ xs) f = (subst (λ m. Among m t) (sym (neg_ℤ-neg_ℤ x)) (f x (inl refl)), causes_false t xs (λ m h. f m (inr h)))

-- ---- the two clauses, over the trail's literals of the scope

module _ {sc : List ℕ} (s : Sentence) (blind : BlindOutside sc s) (t : List ℤ) (c : Consistent t) (literals : (l : ℤ) → Among l t → 1 ≤ atom l) where
  abbrev reasons : List ℤ
  reasons = causes t sc

  decide : (σ : Assignment) → Agrees σ reasons ⊎ Some (λ m. holds σ m ≡ true) (map neg_ℤ reasons)
  decide σ = all_or_some σ reasons (λ l a. literals l (causes_from t sc l a))

  conflict_clause : Conflicting s t → EntailedBy s (map neg_ℤ reasons)
  conflict_clause no_way σ sat = ⊎_elim (λ g. absurd (conflict_by_causes s blind t c σ sat g no_way)) (λ x. x) (decide σ)

  derived_clause : (l : ℤ) → In (atom l) sc → Forces s t l → EntailedBy s (l ∷ map neg_ℤ reasons)
  derived_clause l inside f σ sat = ⊎_elim (λ g. inl (forced_by_causes s blind t c σ sat g l inside f)) inr (decide σ)

-- ---- the row of a literal

module _ (n : ℕ) (ss : List Sentence) where
  record RowSound (l : ℤ) (p : Standpoint) : Type 0 where
    pub literal_is : p.mine.literal ≡ l
    pub level : ℕ
    pub sits : Sits n ss level p.mine p.before
    pub sound : Sound n ss p.mine.level p.before

  row_of_sound : (v : ℕ) (rs : List Row) (l : ℤ) → Sound n ss v rs → Among l (trail rs) → RowSound l (row_of l rs)
  unfolding row_of
  row_of_sound v [] l h a = absurd a
  row_of_sound v (r ∷ rs) l h a =
      either (RowSound l) (same r.literal l) (λ y. record { literal_is = same→eq r.literal l y; level = v; sits = h.0; sound = h.1 })
      (λ n. ⊎_elim (λ e. absurd (T_not (same r.literal l) n (eq→same r.literal l (sym e)))) (row_of_sound r.level rs l h.1) a)

  trail_within : (v : ℕ) (rs : List Row) (l : ℤ) → Sound n ss v rs → Among l (trail rs) → 1 ≤ atom l
  trail_within v [] l h a = absurd a
  trail_within v (r ∷ rs) l h (inl e) = subst (λ x. 1 ≤ atom x) (sym e) h.0.atom_within.0
  trail_within v (r ∷ rs) l h (inr k) = trail_within r.level rs l h.1 k

pub scope_numbered : (k : ℕ) (ss : List Sentence) (js : List Judged) (s : Sentence) → JudgesAll ss js → IsNumber k ss s → numbered [] k (scopes js) ≡ scope (rule_of s)
unfolding numbered
scope_numbered k [] [] s none h = absurd h
scope_numbered zero (x ∷ ss) (j ∷ js) s (more p m) h = absurd h
scope_numbered (suc zero) (x ∷ ss) (j ∷ js) s (more p m) h = p.scope_is ∙ ap (λ y. scope (rule_of y)) h
scope_numbered (suc (suc k)) (x ∷ ss) (j ∷ js) s (more p m) h = scope_numbered (suc k) ss js s m h
scope_numbered k [] (j ∷ js) s x4 h = elim x4 [ ]
scope_numbered zero (x ∷ ss) [] s x6 h = elim x6 [ ]
scope_numbered (suc zero) (x ∷ ss) [] s x9 h = elim x9 [ ]
scope_numbered (suc (suc k)) (x ∷ ss) [] s x10 h = elim x10 [ ]

-- ---- explanations

-- of a conflict, over any consistent trail of literals, where the sentence is blind outside the scope with its number
pub conflict_listed : (ss : List Sentence) (js : List Judged) (rows : List Row) → Consistent (trail rows) → ((l : ℤ) → Among l (trail rows) → 1 ≤ atom l)
    → (k : ℕ) (s : Sentence) → IsNumber k ss s → BlindOutside (numbered [] k (scopes js)) s → Conflicting s (trail rows)
    → ExplainsConflict ss rows k (conflict_explanation (scopes js) rows k)
conflict_listed ss js rows agreed literals k s num blind c = record {
  sentence = s;
  number = num;
  entailed = conflict_clause s blind (trail rows) agreed literals c;
  literals_false = causes_false (trail rows) (causes (trail rows) (numbered [] k (scopes js))) (λ x a. causes_from (trail rows) (numbered [] k (scopes js)) x a);
}

module _ (n : ℕ) (ss : List Sentence) (js : List Judged) (blind : Each Blind ss) (m : JudgesAll ss js) (v : ℕ) (rows : List Row) (h : Sound n ss v rows) where
  pub conflict_explained : (k : ℕ) (s : Sentence) → IsNumber k ss s → Conflicting s (trail rows) → ExplainsConflict ss rows k (conflict_explanation (scopes js) rows k)
  conflict_explained k s num =
      conflict_listed ss js rows (consistent n ss v rows h) (λ l a. trail_within n ss v rows l h a) k s num
      (subst (λ sc. BlindOutside sc s) (sym (scope_numbered k ss js s m num)) (numbered_each Blind k ss s num blind))

  module _ (l : ℤ) (a : Among l (trail rows)) where
    abbrev mine : Row
    mine = (row_of l rows).mine

    abbrev before : List Row
    before = (row_of l rows).before

    abbrev others_of : List ℕ → List ℤ
    others_of sc = map neg_ℤ (causes (trail before) sc)

    reasoned_clause : RowReasoned n ss mine before → Explains ss rows l (explanation (scopes js) rows l)
    reasoned_clause z =
        let x = row_of_sound n ss v rows l h a in
        record {
          sentence = z.sentence;
          number = z.number;
          entailed = subst (λ sc. EntailedBy z.sentence (l ∷ others_of sc)) (sym (scope_numbered mine.reason ss js z.sentence m z.number))
              (subst (λ k. EntailedBy z.sentence (k ∷ others_of (scope (rule_of z.sentence)))) x.literal_is
              (derived_clause z.sentence (numbered_each Blind mine.reason ss z.sentence z.number blind) (trail before)
              (consistent n ss mine.level before x.sound) (λ k i. trail_within n ss mine.level before k x.sound i) mine.literal z.inside z.forces));
          others = others_of (numbered [] mine.reason (scopes js));
          list_is = refl;
          others_false = causes_false (trail before) (causes (trail before) (numbered [] mine.reason (scopes js)))
              (λ y k. causes_from (trail before) (numbered [] mine.reason (scopes js)) y k);
        }

    pub explained : ¬ ((row_of l rows).mine.reason ≡ 0) → Explains ss rows l (explanation (scopes js) rows l)
    explained given = ⊎_elim (λ z. absurd (given z)) reasoned_clause (row_of_sound n ss v rows l h a).sits.reason_is
