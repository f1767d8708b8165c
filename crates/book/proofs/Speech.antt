-- What the judgements say first is what the sentences mean: nothing where all are silent, and otherwise the conflict or the first
-- forced literal of the lowest-numbered sentence that is not silent. By induction over the list, from the judgement of each sentence.
use mathlib.Core.Path.{◌≡◌, refl, subst}
use mathlib.Core.List.{List, [], ◌∷◌}
use Prim.Native.Nat.{ℕ, zero, suc, ◌+◌, ◌<◌}
use native.Mathlib.Omega.{arith}
use lib.IntN.{ℤ}
use Rattle.meaning.specs.Meaning.{Sentence, Consistent, Conflicting, Said, silent, conflict, forced, Says, Each}
use Rattle.meaning.specs.Merge.{rule_of, scope}
use Rattle.book.specs.Table.{Judged, Speech, nothing, conflicts, derives, spoken, first_to_speak}
use Rattle.book.specs.Sound.{JudgesAll, none, more}
use Rattle.book.specs.Means.{IsNumber, SaysNothing, ForcesFirst, Speaker}
use Rattle.book.proofs.Number.{numbered_positive}

module _ (t : List ℤ) where
  first_speaker : (P : Sentence → Type 0) (s : Sentence) (ss : List Sentence) → P s → Speaker t P (s ∷ ss) 1
  first_speaker P s ss p = record { sentence = s; number = refl; speaks = p; earlier = earlier }
    where
      earlier : (i : ℕ) (u : Sentence) → i < 1 → IsNumber i (s ∷ ss) u → SaysNothing t u
      earlier i u q h = let p = numbered_positive i (s ∷ ss) u h in absurd (omega (arith, p, q))

  later_speaker : (P : Sentence → Type 0) (s : Sentence) (ss : List Sentence) (k : ℕ) → SaysNothing t s → Speaker t P ss k → Speaker t P (s ∷ ss) (suc k)
  later_speaker P s ss zero q x = absurd (let p = numbered_positive 0 ss x.sentence x.number in omega (arith, p))
  later_speaker P s ss (suc k) q x = record { sentence = x.sentence; number = x.number; speaks = x.speaks; earlier = earlier }
    where
      earlier : (i : ℕ) (u : Sentence) → i < suc (suc k) → IsNumber i (s ∷ ss) u → SaysNothing t u
      earlier zero u p h = absurd h
      earlier (suc zero) u p h = subst (SaysNothing t) h q
      earlier (suc (suc i)) u p h = x.earlier (suc i) u (omega (arith, p)) h

  -- the first of the list has number suc k
  record Located (P : Sentence → Type 0) (ss : List Sentence) (k number : ℕ) : Type 0 where
    pub place : ℕ
    pub is : number ≡ place + k
    pub speaker : Speaker t P ss place

  abbrev Told : List Sentence → ℕ → Speech → Type 0
  Told ss k nothing = Each (SaysNothing t) ss
  Told ss k (conflicts i) = Located (λ s. Conflicting s t) ss k i
  Told ss k (derives i l) = Located (ForcesFirst t l) ss k i

  located_first : (P : Sentence → Type 0) (s : Sentence) (ss : List Sentence) (k : ℕ) → P s → Located P (s ∷ ss) k (suc k)
  located_first P s ss k p = record { place = 1; is = omega arith; speaker = first_speaker P s ss p }

  located_later : (P : Sentence → Type 0) (s : Sentence) (ss : List Sentence) (k i : ℕ) → SaysNothing t s → Located P ss (suc k) i → Located P (s ∷ ss) k i
  located_later P s ss k i q x = let e = x.is in record { place = suc x.place; is = omega (arith, e); speaker = later_speaker P s ss x.place q x.speaker }

  told_later : (s : Sentence) (ss : List Sentence) (k : ℕ) (y : Speech) → SaysNothing t s → Told ss (suc k) y → Told (s ∷ ss) k y
  told_later s ss k nothing q x = (q, x)
  told_later s ss k (conflicts i) q x = located_later (λ s. Conflicting s t) s ss k i q x
  told_later s ss k (derives i l) q x = located_later (ForcesFirst t l) s ss k i q x

  speech_told : Consistent t → (k : ℕ) (ss : List Sentence) (js : List Judged) → JudgesAll ss js → Told ss k (first_to_speak (suc k) js t)
  unfolding first_to_speak
  speech_told c k [] [] none = tt
  speech_told c k (s ∷ ss) (j ∷ js) (more p m) =
      go (j.says t) (subst (λ x. Says s t x (j.says t)) p.scope_is (p.said t c)) (speech_told c (suc k) ss js m)
    where
      go : (y : Said) → Says s t (scope (rule_of s)) y → Told ss (suc k) (first_to_speak (suc (suc k)) js t) → Told (s ∷ ss) k (spoken y (suc k) (first_to_speak (suc (suc k)) js t))
      go silent h rest = told_later s ss k (first_to_speak (suc (suc k)) js t) h rest
      go conflict h rest = located_first (λ s. Conflicting s t) s ss k h
      go (forced l) h rest = located_first (ForcesFirst t l) s ss k h
  speech_told c k [] (j ∷ js) x'' = elim x'' [ ]
  speech_told c k (s ∷ ss) [] x3 = elim x3 [ ]

  module _ (c : Consistent t) (ss : List Sentence) (js : List Judged) (m : JudgesAll ss js) where
    spoken_of : (P : Sentence → Type 0) (k : ℕ) → Located P ss 0 k → Speaker t P ss k
    spoken_of P k x = subst (Speaker t P ss) (let e = x.is in omega (arith, e)) x.speaker

    pub silent_of : first_to_speak 1 js t ≡ nothing → Each (SaysNothing t) ss
    silent_of e = subst (Told ss 0) e (speech_told c 0 ss js m)

    pub conflict_of : (k : ℕ) → first_to_speak 1 js t ≡ conflicts k → Speaker t (λ s. Conflicting s t) ss k
    conflict_of k e = spoken_of (λ s. Conflicting s t) k (subst (Told ss 0) e (speech_told c 0 ss js m))

    pub derived_of : (k : ℕ) (l : ℤ) → first_to_speak 1 js t ≡ derives k l → Speaker t (ForcesFirst t l) ss k
    derived_of k l e = spoken_of (ForcesFirst t l) k (subst (Told ss 0) e (speech_told c 0 ss js m))
