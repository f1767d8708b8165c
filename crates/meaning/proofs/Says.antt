-- What a rule says first is what its sentence says first: the scan stops at the first literal that is due, and due is open and forced;
-- past the scope nothing is forced. A sentence says one thing first.
use mathlib.Core.Path.{◌≡◌, refl, sym, ◌∙◌, ap, subst}
use mathlib.Core.Bool.{Bool, true, false, cond}
use mathlib.Core.Logic.{◌⊎◌, inl, inr}
use mathlib.Core.List.{List, [], ◌∷◌}
use Prim.Native.Nat.{ℕ, ◌≤◌}
use native.Mathlib.Omega.{arith}
use native.Mathlib.Decide.{ℕ_discrete}
use lib.IntN.{ℤ, pos, neg_ℤ}
use lib.Dec.{T}
use Rattle.meaning.specs.Meaning.{atom, Entry, entry_atom, Sentence, Consistent, Satisfiable, Conflicting, Forces, Open, Said, silent, conflict, forced, Quiet, FirstForced, Says, Each}
use Rattle.meaning.specs.Merge.{Merged, rule_with, entry_atoms, scope}
use Rattle.meaning.specs.Computed.{refuted, due, first_due, first_said}
use Rattle.meaning.proofs.Members.{places_each}
use Rattle.meaning.specs.Represents.{Off, Represents}
use Rattle.meaning.proofs.Orders.{T_true, T_false}
use Rattle.meaning.proofs.Trails.{opposite_atom, two_literals, literal_unique}
use Rattle.meaning.proofs.Verdicts.{refuted_conflict, satisfiable_test, due_test, outside_unforced}

-- what a scan of some atoms tells
abbrev Scanned : Sentence → List ℤ → List ℕ → Said → Type 0
Scanned s t atoms silent = Each (Quiet s t) atoms
Scanned s t atoms conflict = ⊥
Scanned s t atoms (forced l) = FirstForced s t atoms l

scanned_later : (s : Sentence) (t : List ℤ) (a : ℕ) (rest : List ℕ) (x : Said) → Quiet s t a → Scanned s t rest x → Scanned s t (a ∷ rest) x
scanned_later s t a rest silent q h = (q, h)
scanned_later s t a rest conflict q h = h
scanned_later s t a rest (forced l) q h = inr (q, h)

quiet_or_off : (s : Sentence) (t : List ℤ) (a : ℕ) (es : List Entry) → Each (Quiet s t) (entry_atoms es) → Quiet s t a ⊎ Off a es
quiet_or_off s t a [] h = inr tt
quiet_or_off s t a (e ∷ es) h = go (ℕ_discrete (entry_atom e) a) (quiet_or_off s t a es h.1)
  where
    go : Dec (entry_atom e ≡ a) → Quiet s t a ⊎ Off a es → Quiet s t a ⊎ Off a (e ∷ es)
    go (yes q) r = inl (subst (Quiet s t) q h.0)
    go (no n) (inl r) = inl r
    go (no n) (inr r) = inr (n, r)

module _ (s : Sentence) (m : Merged) (t : List ℤ) (p : Represents s m) (c : Consistent t) where
  abbrev test : ℤ → Bool
  test l = due (rule_with s m) t l

  first_found : (l : ℤ) (a : ℕ) (rest : List ℕ) → atom l ≡ a → 1 ≤ a → test l ≡ true → FirstForced s t (a ∷ rest) l
  first_found l a rest e n h =
      let told : Open t l × Forces s t l = (due_test s m t l (omega (arith, e, n)) p c).1 (T_true h) in
      inl (e, told.0, told.1)

  undue_quiet : (a : ℕ) → test (pos a) ≡ false → test (neg_ℤ (pos a)) ≡ false → Quiet s t a
  undue_quiet a e g l q o f = go (two_literals l a q)
    where
      found : T (test l)
      found = (due_test s m t l o.literal p c).0 (o, f)

      go : (l ≡ pos a) ⊎ (l ≡ neg_ℤ (pos a)) → ⊥
      go (inl x) = T_false (ap test x ∙ e) found
      go (inr x) = T_false (ap test x ∙ g) found

  first_due_right : (atoms : List ℕ) → Each (λ a. 1 ≤ a) atoms → Scanned s t atoms (first_due (rule_with s m) t atoms)
  unfolding first_due
  first_due_right [] n = tt
  first_due_right (a ∷ rest) n = go (test (pos a)) (test (neg_ℤ (pos a))) refl refl (first_due_right rest n.1)
    where
      go : (x y : Bool) → test (pos a) ≡ x → test (neg_ℤ (pos a)) ≡ y → Scanned s t rest (first_due (rule_with s m) t rest)
          → Scanned s t (a ∷ rest) (cond x (forced (pos a)) (cond y (forced (neg_ℤ (pos a))) (first_due (rule_with s m) t rest)))
      go true y ex ey ih = first_found (pos a) a rest refl n.0 ex
      go false true ex ey ih = first_found (neg_ℤ (pos a)) a rest (opposite_atom (pos a)) n.0 ey
      go false false ex ey ih = scanned_later s t a rest (first_due (rule_with s m) t rest) (undue_quiet a ex ey) ih

  -- where no atom of the scope speaks, no literal is forced
  scope_quiet : Satisfiable s t → Each (Quiet s t) (scope (rule_with s m)) → (l : ℤ) → Open t l → ¬ (Forces s t l)
  scope_quiet sat h l o = go (ℕ_discrete s.head (atom l)) (quiet_or_off s t (atom l) m.entries h.1)
    where
      go : Dec (s.head ≡ atom l) → Quiet s t (atom l) ⊎ Off (atom l) m.entries → ¬ (Forces s t l)
      go (yes e) r = h.0 l (sym e) o
      go (no n) (inl q) = q l refl o
      go (no n) (inr off) = outside_unforced s m t l p c sat o n off

  scanned_says : (x : Said) → Satisfiable s t → Scanned s t (scope (rule_with s m)) x → Says s t (scope (rule_with s m)) x
  scanned_says silent sat h = (sat, scope_quiet sat h)
  scanned_says conflict sat h = absurd h
  scanned_says (forced l) sat h = (sat, h)

pub says_right : (s : Sentence) (m : Merged) (t : List ℤ) → Represents s m → 1 ≤ s.head → Consistent t → Says s t (scope (rule_with s m)) (first_said (rule_with s m) t)
unfolding first_said
says_right s m t p n c = go (refuted (rule_with s m) t) refl
  where
    go : (x : Bool) → refuted (rule_with s m) t ≡ x → Says s t (scope (rule_with s m)) (cond x conflict (first_due (rule_with s m) t (scope (rule_with s m))))
    go true e = refuted_conflict s m t p (T_true e)
    go false e = scanned_says s m t p c (first_due (rule_with s m) t (scope (rule_with s m))) (satisfiable_test s m t p c (T_false e))
        (first_due_right s m t p c (scope (rule_with s m)) (n, places_each (λ a. 1 ≤ a) m.entries p.literals))

-- ---- what a sentence says first is one answer

module _ (s : Sentence) (t : List ℤ) where
  first_forced : (scope : List ℕ) (l : ℤ) → FirstForced s t scope l → Open t l × Forces s t l
  first_forced [] l h = absurd h
  first_forced (a ∷ rest) l (inl h) = (h.1, h.2)
  first_forced (a ∷ rest) l (inr h) = first_forced rest l h.1

  unconflicted : Satisfiable s t → ¬ (Conflicting s t)
  unconflicted σ f = f σ.0 σ.1 σ.2

  first_unique : Satisfiable s t → (scope : List ℕ) (l m : ℤ) → FirstForced s t scope l → FirstForced s t scope m → l ≡ m
  first_unique σ [] l m h g = absurd h
  first_unique σ (a ∷ rest) l m (inl h) (inl g) =
      let e : atom l ≡ atom m = h.0 ∙ sym g.0 in
      literal_unique l m e (σ.0 (atom l)) (h.2 σ.0 σ.1 σ.2) (rw e (g.2 σ.0 σ.1 σ.2))
  first_unique σ (a ∷ rest) l m (inl h) (inr g) = absurd (g.0 l h.0 h.1 h.2)
  first_unique σ (a ∷ rest) l m (inr h) (inl g) = absurd (h.0 m g.0 g.1 g.2)
  first_unique σ (a ∷ rest) l m (inr h) (inr g) = first_unique σ rest l m h.1 g.1

  silent_not_first : (scope : List ℕ) (l : ℤ) → ((l : ℤ) → Open t l → ¬ (Forces s t l)) → ¬ (FirstForced s t scope l)
  silent_not_first scope l n h = let f : Open t l × Forces s t l = first_forced scope l h in n l f.0 f.1

  pub says_unique : (scope : List ℕ) (x y : Said) → Says s t scope x → Says s t scope y → x ≡ y
  says_unique scope silent silent h g = refl
  says_unique scope silent conflict h g = absurd (unconflicted h.0 g)
  says_unique scope silent (forced m) h g = absurd (silent_not_first scope m h.1 g.1)
  says_unique scope conflict silent h g = absurd (unconflicted g.0 h)
  says_unique scope conflict conflict h g = refl
  says_unique scope conflict (forced m) h g = absurd (unconflicted g.0 h)
  says_unique scope (forced l) silent h g = absurd (silent_not_first scope l g.1 h.1)
  says_unique scope (forced l) conflict h g = absurd (unconflicted h.0 g)
  says_unique scope (forced l) (forced m) h g = ap forced (first_unique h.0 scope l m h.1 g.1)
