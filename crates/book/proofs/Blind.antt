-- A sentence is blind outside its scope: whether it is satisfied depends only on its head and its merged entries' atoms, since the
-- merged set has its value; and a rule read as a sentence depends only on the rule's own. So a satisfying assignment that gives the
-- trail's literals of the scope can be turned to the whole trail.
use mathlib.Core.Path.{◌≡◌, refl, sym, ◌∙◌, ap, ap₂, subst}
use mathlib.Core.Bool.{Bool, true, cond}
use mathlib.Core.Logic.{◌⊎◌, inl, inr, ⊎_elim}
use mathlib.Core.List.{List, [], ◌∷◌}
use Prim.Native.Nat.{ℕ}
use native.Mathlib.Decide.{ℕ_discrete}
use lib.IntN.{ℤ}
use lib.Dec.{T, eqb, eqb→eq, eqb_refl, T_not}
use Rattle.meaning.specs.Meaning.{Assignment, atom, truth, holds, Entry, chosen, aggregate, comparison, Sentence, Satisfied, Agrees, Consistent, Conflicting, Forces, On}
use Rattle.meaning.specs.Merge.{raised, merged_value, Rule, rule_of, entry_atoms, scope, as_sentence}
use Rattle.meaning.specs.Represents.{merged_comparison}
use Rattle.book.specs.Rows.{pick, causes}
use Rattle.meaning.proofs.Trails.{truth_wanted, agrees_from}
use Rattle.meaning.proofs.Stored.{satisfied_stored, satisfied_written}
use Rattle.book.specs.Sound.{In, BlindOutside, Blind}
use Rattle.book.specs.Means.{Among}
use Rattle.book.proofs.Tests.{either}

-- ---- where a merged set has the sentence's value

chosen_same : (σ σ' : Assignment) (es : List Entry) → ((a : ℕ) → In a (entry_atoms es) → σ' a ≡ σ a) → chosen σ' es ≡ chosen σ es
chosen_same σ σ' [] same = refl
chosen_same σ σ' (e ∷ es) same =
    ap₂ (λ b ws. cond (truth e.literal b) (e.weight ∷ ws) ws) (same (atom e.literal) (inl refl)) (chosen_same σ σ' es (λ a h. same a (inr h)))

merged_same : (r : Rule) (σ σ' : Assignment) → ((a : ℕ) → In a (scope r) → σ' a ≡ σ a) → merged_comparison r σ' ≡ merged_comparison r σ
unfolding merged_value
merged_same r σ σ' same =
    ap (λ ws. comparison r.side r.bound (raised r.set.constant (aggregate r.kind ws)))
    (chosen_same σ σ' r.set.entries (λ a h. same a (inr h)))

pub stored_blind : (r : Rule) → BlindOutside (scope r) (as_sentence r)
stored_blind r = record {
  unseen = λ σ σ' same h. (satisfied_stored r σ').1 (same r.head (inl refl) ∙ (satisfied_stored r σ).0 h ∙ sym (merged_same r σ σ' same));
}

pub written_blind : (s : Sentence) → Blind s
written_blind s = record {
  unseen = λ σ σ' same h. (satisfied_written s σ').0 ((stored_blind (rule_of s)).unseen σ σ' same ((satisfied_written s σ).1 h));
}

-- ---- the causes: the trail's literals of some atoms

record Found (a : ℕ) (t ls : List ℤ) : Type 0 where
  pub literal : ℤ
  pub there : Among literal ls
  pub on : Among literal t
  pub is : atom literal ≡ a

pick_keeps : (t : List ℤ) (a : ℕ) (rest : List ℤ) (m : ℤ) → Among m rest → Among m (pick t a rest)
unfolding pick
pick_keeps [] a rest m h = h
pick_keeps (l ∷ t) a rest m h = either (Among m) (eqb (atom l) a) (λ _. inr h) (λ _. pick_keeps t a rest m h)

pick_finds : (t : List ℤ) (a : ℕ) (rest : List ℤ) → On a t → Found a t (pick t a rest)
unfolding pick
pick_finds [] a rest o = absurd o
pick_finds (l ∷ t) a rest o =
    either (Found a (l ∷ t)) (eqb (atom l) a) (λ y. record { literal = l; there = inl refl; on = inl refl; is = eqb→eq (atom l) a y })
    (λ n. ⊎_elim (λ e. absurd (T_not (eqb (atom l) a) n (subst (λ x. T (eqb (atom l) x)) e (eqb_refl (atom l)))))
    (λ k. let x = pick_finds t a rest k in record { literal = x.literal; there = x.there; on = inr x.on; is = x.is }) o)

pick_from : (t : List ℤ) (a : ℕ) (rest : List ℤ) (m : ℤ) → Among m (pick t a rest) → Among m t ⊎ Among m rest
unfolding pick
pick_from [] a rest m h = inr h
pick_from (l ∷ t) a rest m h =
    either (λ xs. Among m xs → Among m (l ∷ t) ⊎ Among m rest) (eqb (atom l) a) (λ _. ⊎_elim (λ e. inl (inl e)) inr)
    (λ _ k. ⊎_elim (λ x. inl (inr x)) inr (pick_from t a rest m k)) h

causes_find : (t : List ℤ) (a : ℕ) (sc : List ℕ) → In a sc → On a t → Found a t (causes t sc)
unfolding causes
causes_find t a [] h o = absurd h
causes_find t a (b ∷ bs) (inl e) o = subst (λ x. Found x t (pick t b (causes t bs))) e (pick_finds t b (causes t bs) (subst (λ x. On x t) (sym e) o))
causes_find t a (b ∷ bs) (inr h) o =
    let x = causes_find t a bs h o in
    record { literal = x.literal; there = pick_keeps t b (causes t bs) x.literal x.there; on = x.on; is = x.is }

pub causes_from : (t : List ℤ) (sc : List ℕ) (m : ℤ) → Among m (causes t sc) → Among m t
unfolding causes
causes_from t [] m h = absurd h
causes_from t (b ∷ bs) m h = ⊎_elim (λ x. x) (causes_from t bs m) (pick_from t b (causes t bs) m h)

-- ---- an assignment turned to the trail

pub agrees_each : (σ : Assignment) (ls : List ℤ) (l : ℤ) → Agrees σ ls → Among l ls → holds σ l ≡ true
agrees_each σ [] l g h = absurd h
agrees_each σ (x ∷ xs) l g (inl e) = ap (holds σ) e ∙ g.0
agrees_each σ (x ∷ xs) l g (inr h) = agrees_each σ xs l g.1 h

pub each_agrees : (σ : Assignment) (ls : List ℤ) → ((l : ℤ) → Among l ls → holds σ l ≡ true) → Agrees σ ls
each_agrees σ [] g = tt
each_agrees σ (x ∷ xs) g = (g x (inl refl), each_agrees σ xs (λ l h. g l (inr h)))

in_or_out : (a : ℕ) (bs : List ℕ) → In a bs ⊎ ¬ (In a bs)
in_or_out a [] = inr (λ h. h)
in_or_out a (b ∷ bs) = go (ℕ_discrete b a) (in_or_out a bs)
  where
    neither : ¬ (b ≡ a) → ¬ (In a bs) → ¬ (In a (b ∷ bs))
    neither n m (inl e) = n e
    neither n m (inr h) = m h

    go : Dec (b ≡ a) → In a bs ⊎ ¬ (In a bs) → In a (b ∷ bs) ⊎ ¬ (In a (b ∷ bs))
    go (yes e) r = inl (inl e)
    go (no n) (inl r) = inl (inr r)
    go (no n) (inr r) = inr (neither n r)

module _ (sc : List ℕ) where
  abbrev choose : (a : ℕ) → In a sc ⊎ ¬ (In a sc) → Bool → Bool → Bool
  choose a (inl h) x y = x
  choose a (inr h) x y = y

  -- σ on the scope, and τ elsewhere
  abbrev mixed : Assignment → Assignment → Assignment
  mixed σ τ a = choose a (in_or_out a sc) (σ a) (τ a)

  mixed_in : (σ τ : Assignment) (a : ℕ) → In a sc → mixed σ τ a ≡ σ a
  mixed_in σ τ a h = go (in_or_out a sc)
    where
      go : (x : In a sc ⊎ ¬ (In a sc)) → choose a x (σ a) (τ a) ≡ σ a
      go (inl k) = refl
      go (inr k) = absurd (k h)

  mixed_same : (σ τ : Assignment) (a : ℕ) → (In a sc → σ a ≡ τ a) → mixed σ τ a ≡ τ a
  mixed_same σ τ a h = go (in_or_out a sc)
    where
      go : (x : In a sc ⊎ ¬ (In a sc)) → choose a x (σ a) (τ a) ≡ τ a
      go (inl k) = h k
      go (inr k) = refl

module _ {sc : List ℕ} (s : Sentence) (blind : BlindOutside sc s) (t : List ℤ) (c : Consistent t) (σ : Assignment) (sat : Satisfied σ s) (g : Agrees σ (causes t sc)) where
  abbrev turned : Assignment
  turned = mixed sc σ c.0

  on_trail : (a : ℕ) → On a t → In a sc → σ a ≡ c.0 a
  on_trail a o h =
      let x = causes_find t a sc h o in
      let k = x.literal in
      ap σ (sym x.is) ∙ truth_wanted k (σ (atom k)) (agrees_each σ (causes t sc) k g x.there)
      ∙ sym (truth_wanted k (c.0 (atom k)) (agrees_each c.0 t k c.1 x.on)) ∙ ap c.0 x.is

  turned_agrees : Agrees turned t
  turned_agrees = agrees_from c.0 turned t (λ a o. mixed_same sc σ c.0 a (λ h. on_trail a o h)) c.1

  turned_satisfied : Satisfied turned s
  turned_satisfied = blind.unseen σ turned (λ a h. mixed_in sc σ c.0 a h) sat

  -- a forced literal of the scope follows from the sentence and the causes alone
  pub forced_by_causes : (l : ℤ) → In (atom l) sc → Forces s t l → holds σ l ≡ true
  forced_by_causes l inside f = ap (truth l) (sym (mixed_in sc σ c.0 (atom l) inside)) ∙ f turned turned_agrees turned_satisfied

  -- and so does a conflict
  pub conflict_by_causes : Conflicting s t → ⊥
  conflict_by_causes f = f turned turned_agrees turned_satisfied
