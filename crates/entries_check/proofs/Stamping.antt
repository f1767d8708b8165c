-- Stamps: those up to `old` are of other sentences, and each entry of this one is stamped old + 1. So an atom met before in this
-- sentence has a stamp above `old`, and an atom whose stamp is not above `old` is apart from those before it.
use mathlib.Core.Path.{◌≡◌, refl, sym, ap, ◌∙◌, subst}
use mathlib.Core.List.{List}
use mathlib.Core.Bool.{Bool, true, false}
use mathlib.Core.Logic.{⊎_elim}
use Prim.Native.Nat.{ℕ, ◌+◌, ◌<◌, ◌≤◌}
use native.Mathlib.Omega.{arith}
use native.Mathlib.Nat.{eq-or-lt_of_le}
use lib.Dec.{eqb}
use borrow.Author.Tests.{eqb-true, eqb-false}
use lib.ListN.{length, set, length-set, replicate, length-replicate, get_or-replicate}
use lib.Seq.{get_or-set_same, get_or-set_other}
use Rattle.area.specs.Layout.{word}
use Rattle.entries_check.specs.Inner.Entries.{Stamps}

-- the first i entries, with the atoms f 0, .., f (i - 1), are apart and stamped
pub record Stamped (f : ℕ → ℕ) (old i : ℕ) (seen : List ℕ) : Type 0 where
  pub size : length seen ≡ 4097
  pub apart : (j k : ℕ) → j < i → k < i → f j ≡ f k → j ≡ k
  pub forth : (k : ℕ) → k < i → word seen (f k) ≡ old + 1
  pub back : (a : ℕ) → a < 4097 → old < word seen a → (k : ℕ) × (k < i) × (f k ≡ a)
  pub upto : (a : ℕ) → a < 4097 → word seen a ≤ old + 1

same_or {ℓ} : {P : Type ℓ} (i k : ℕ) → (i ≡ k → P) → ((i ≡ k → ⊥) → P) → P
same_or {P = P} i k here other = by (eqb i k) refl
  where
    by : (b : Bool) → eqb i k ≡ b → P
    by true e = here (eqb-true i k e)
    by false e = other (eqb-false i k e)

pub none_stamped : (f : ℕ → ℕ) (old : ℕ) (seen : List ℕ) → Stamps seen old → Stamped f old 0 seen
none_stamped f old seen s = record {
  size = s.size;
  apart = λ j k l m e. absurd (omega arith);
  forth = λ k l. absurd (omega arith);
  back = λ a l h. absurd (omega (arith, s.upto a l));
  upto = λ a l. omega (arith, s.upto a l);
}

module _ (f : ℕ → ℕ) (old i : ℕ) (seen : List ℕ) (s : Stamped f old i seen) (low : f i < 4097) where
  -- an atom with a stamp of this sentence is that of an earlier entry
  pub met_before : (n : ℕ) → i < n → old < word seen (f i) → ((j k : ℕ) → j < n → k < n → f j ≡ f k → j ≡ k) → ⊥
  met_before n l h o = let k = s.back (f i) low h in let e = o k.0 i (omega (arith, k.1)) l k.2 in omega (arith, k.1)

  module _ (v : ℕ) (new : v ≡ old + 1) (fresh : word seen (f i) ≤ old) where
    here : word (set seen (f i) v) (f i) ≡ old + 1
    here = get_or-set_same seen (f i) v 0 (omega (arith, s.size)) ∙ new

    -- an earlier entry has another atom
    other : (k : ℕ) → k < i → f k ≡ f i → ⊥
    other k l e = omega (arith, s.forth k l, ap {A = ℕ} (λ j. word seen j) e)

    all_apart : (j k : ℕ) → j < i + 1 → k < i + 1 → f j ≡ f k → j ≡ k
    all_apart j k l m e = same_or j i
        (λ p. same_or k i (λ q. p ∙ sym q) (λ d. absurd (other k (omega arith) (sym e ∙ ap {A = ℕ} f p))))
        (λ d. same_or k i (λ q. absurd (other j (omega arith) (e ∙ ap {A = ℕ} f q))) (λ c. s.apart j k (omega arith) (omega arith) e))

    pub one_stamped : Stamped f old (i + 1) (set seen (f i) v)
    one_stamped = record {
      size = length-set seen (f i) v ∙ s.size;
      apart = all_apart;
      forth = λ k l. ⊎_elim
          (λ (e : k ≡ i). ap {A = ℕ} (λ j. word (set seen (f i) v) (f j)) e ∙ here)
          (λ (m : k < i). get_or-set_other seen (f i) (f k) v 0 (other k m) ∙ s.forth k m) (eq-or-lt_of_le (omega arith));
      back = λ a l h. same_or a (f i) (λ e. (i, omega arith, sym e)) (λ d.
          let o = s.back a l (subst (λ (x : ℕ). old < x) (get_or-set_other seen (f i) a v 0 d) h) in (o.0, omega (arith, o.1), o.2));
      upto = λ a l. same_or a (f i)
          (λ e. omega (arith, here, ap {A = ℕ} (λ j. word (set seen (f i) v) j) e))
          (λ d. omega (arith, get_or-set_other seen (f i) a v 0 d, s.upto a l));
    }

pub stamps_upto : (f : ℕ → ℕ) (old i : ℕ) (seen : List ℕ) → Stamped f old i seen → Stamps seen (old + 1)
stamps_upto f old i seen s = record { size = s.size; upto = s.upto }

pub stamps_more : (seen : List ℕ) (a b : ℕ) → Stamps seen a → a ≤ b → Stamps seen b
stamps_more seen a b s h = record { size = s.size; upto = λ k l. omega (arith, s.upto k l) }

-- a table of zeros
pub zero_stamps : (n old : ℕ) → n ≡ 4097 → Stamps (replicate n 0) old
zero_stamps n old e = record { size = length-replicate n 0 ∙ e; upto = λ k l. omega (arith, get_or-replicate {A = ℕ} n k 0 0 (omega arith)) }
