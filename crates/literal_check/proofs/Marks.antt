-- The table of refusal 7: at each atom that was met stands its literal's mark, 1 and one more where it is negative. A literal has been met
-- negated just where the mark at its atom is the other one.
use mathlib.Core.Path.{◌≡◌, refl, sym, ap, ◌∙◌}
use mathlib.Core.Bool.{true, false}
use mathlib.Core.List.{List}
use mathlib.Core.Logic.{⊎_elim}
use Prim.Native.Nat.{ℕ, zero, suc, ◌+◌, ◌-◌, ◌<◌, ◌≤◌}
use native.Mathlib.Omega.{arith}
use native.Mathlib.Nat.{eq-or-lt_of_le}
use lib.Dec.{eqb}
use lib.IntN.{ℤ, pos, negsuc, neg_ℤ, nat_abs}
use lib.ListN.{length, get_or, set, replicate, get_or-replicate}
use lib.Seq.{get_or-set_same, get_or-set_other}
use borrow.Author.Tests.{eqb-true, eqb-false}
use Rattle.decide.proofs.Below.{none_of, none_has, some_here}
use Rattle.meaning.specs.Meaning.{atom, same}
use Rattle.meaning.proofs.Orders.{is_true, is_false}
use Rattle.meaning.proofs.Members.{same→eq, eq→same}
use Rattle.area.specs.Layout.{sign}
use Rattle.meaning.proofs.Trails.{atom_size}
use Rattle.columns.specs.Refusals.{outside}
use Rattle.columns.specs.Indexed.{nth, no_literal, negated_before}
use Rattle.columns.proofs.Clauses.{is_atom}

-- ---- two literals of one atom are opposite where their signs differ

sign_low : (l : ℤ) → sign l ≤ 1
sign_low (pos a) = omega arith
sign_low (negsuc a) = omega arith

opposite_true : (l m : ℤ) → atom l ≡ atom m → sign l + sign m ≡ 1 → same m (neg_ℤ l) ≡ true
opposite_true l m e s = is_true (eq→same m (neg_ℤ l) (by l m e s))
  where
    by : (l m : ℤ) → atom l ≡ atom m → sign l + sign m ≡ 1 → m ≡ neg_ℤ l
    by (pos a) (pos b) e s = let c : ⊥ = omega arith in absurd c
    by (pos a) (negsuc b) e s = sym (ap (λ n. neg_ℤ (pos n)) e)
    by (negsuc a) (pos b) e s = ap pos (sym e)
    by (negsuc a) (negsuc b) e s = let c : ⊥ = omega arith in absurd c

-- for literals that are not 0
opposite_false : (l m : ℤ) → 1 ≤ atom l → (atom l ≡ atom m → sign l + sign m ≡ 1 → ⊥) → same m (neg_ℤ l) ≡ false
opposite_false l m p h = is_false (λ t. let q = by l m p (same→eq m (neg_ℤ l) t) in h q.0 q.1)
  where
    by : (l m : ℤ) → 1 ≤ atom l → m ≡ neg_ℤ l → (atom l ≡ atom m) × (sign l + sign m ≡ 1)
    by (pos zero) m p e = let c : ⊥ = omega arith in absurd c
    by (pos (suc a)) m p e = rw e (refl, refl)
    by (negsuc a) m p e = rw e (refl, refl)

-- ---- the table

-- the first i literals are met, and no other
pub record Met (ls : List ℤ) (i : ℕ) (met : List ℕ) : Type 0 where
  pub forth : (k : ℕ) → k < i → get_or met (atom (nth ls k)) 0 ≡ 1 + sign (nth ls k)
  pub back : (a : ℕ) → a < 4097 → 0 < get_or met a 0 → (k : ℕ) × (k < i) × (atom (nth ls k) ≡ a)

same_or {ℓ} : {P : Type ℓ} (i k : ℕ) → (i ≡ k → P) → ((i ≡ k → ⊥) → P) → P
same_or {P} i k here other = elim (eqb i k) as (λ b. eqb i k ≡ b → P) [ true ↦ λ e. here (eqb-true i k e) | false ↦ λ e. other (eqb-false i k e) ] refl

pub none_met : (ls : List ℤ) (n : ℕ) → n ≡ 4097 → Met ls 0 (replicate n 0)
none_met ls n e = record { forth = λ k l. absurd (omega arith); back = λ b l h. absurd (omega (arith, get_or-replicate {A = ℕ} n b 0 0 (omega arith))) }

-- literal i, of atom a with mark m
module _ (ls : List ℤ) (i : ℕ) (met : List ℕ) (size : length met ≡ 4097) (s : Met ls i met) (low : (k : ℕ) → k ≤ i → 1 ≤ atom (nth ls k))
    (high : atom (nth ls i) < 4097) where
  met_at : (k : ℕ) → k < i → atom (nth ls k) ≡ atom (nth ls i) → get_or met (atom (nth ls i)) 0 ≡ 1 + sign (nth ls k)
  met_at k l e = ap {A = ℕ} (λ b. get_or met b 0) (sym e) ∙ s.forth k l

  met_opposite : get_or met (atom (nth ls i)) 0 ≡ 3 - (1 + sign (nth ls i)) → negated_before ls i ≡ true
  met_opposite e =
      let b = sign_low (nth ls i) in
      let o = s.back (atom (nth ls i)) high (omega arith) in
      some_here o.0 i (λ k. same (nth ls i) (neg_ℤ (nth ls k))) o.1 (opposite_true (nth ls o.0) (nth ls i) o.2 (omega (arith, met_at o.0 o.1 o.2)))

  module _ (differ : get_or met (atom (nth ls i)) 0 ≡ 3 - (1 + sign (nth ls i)) → ⊥) where
    same_sign : (k : ℕ) → k < i → atom (nth ls k) ≡ atom (nth ls i) → sign (nth ls k) ≡ sign (nth ls i)
    same_sign k l e = omega (arith, sign_low (nth ls i), sign_low (nth ls k), met_at k l e)

    none_opposite : negated_before ls i ≡ false
    none_opposite =
        none_of i (λ k. same (nth ls i) (neg_ℤ (nth ls k))) (λ k l.
        opposite_false (nth ls k) (nth ls i) (low k (omega arith)) (λ e m. omega (arith, same_sign k l e, sign_low (nth ls i))))

    abbrev next : List ℕ
    next = set met (atom (nth ls i)) (1 + sign (nth ls i))

    here : get_or next (atom (nth ls i)) 0 ≡ 1 + sign (nth ls i)
    here = get_or-set_same met (atom (nth ls i)) (1 + sign (nth ls i)) 0 (omega arith)

    old : (k : ℕ) → k < i → get_or next (atom (nth ls k)) 0 ≡ 1 + sign (nth ls k)
    old k l =
        same_or (atom (nth ls k)) (atom (nth ls i)) (λ e. ap {A = ℕ} (λ b. get_or next b 0) e ∙ here ∙ ap (λ x. 1 + x) (sym (same_sign k l e)))
        (λ d. get_or-set_other met (atom (nth ls i)) (atom (nth ls k)) (1 + sign (nth ls i)) 0 d ∙ s.forth k l)

    one_met : Met ls (i + 1) (set met (atom (nth ls i)) (1 + sign (nth ls i)))
    one_met = record {
      forth = λ k l. ⊎_elim (λ (e : k ≡ i). rw e here) (λ (m : k < i). old k m) (eq-or-lt_of_le (omega arith));
      back = λ b l h. same_or b (atom (nth ls i)) (λ e. (i, omega arith, sym e)) (λ d.
          let o = s.back b l (omega (arith, get_or-set_other met (atom (nth ls i)) b (1 + sign (nth ls i)) 0 d)) in (o.0, omega (arith, o.1), o.2));
    }

-- ---- literal i as the loop meets it: a is its atom, m its mark

-- every literal is of an atom
atoms : (ls : List ℤ) → no_literal 4096 ls ≡ false → (k : ℕ) → k < length ls → (1 ≤ atom (nth ls k)) × (atom (nth ls k) ≤ 4096)
atoms ls e k l = is_atom 4096 (atom (nth ls k)) (none_has k (length ls) (λ j. outside 4096 (atom (nth ls j))) e l)

pub record Known (ls : List ℤ) (i a m : ℕ) : Type 0 where
  pub atom_is : a ≡ atom (nth ls i)
  pub mark_is : m ≡ 1 + sign (nth ls i)
  pub low : (k : ℕ) → k ≤ i → 1 ≤ atom (nth ls k)
  pub high : atom (nth ls i) < 4097

pub known : (ls : List ℤ) (i a m : ℕ) → no_literal 4096 ls ≡ false → i < length ls → a ≡ nat_abs (nth ls i) → m ≡ 1 + sign (nth ls i) → Known ls i a m
known ls i a m e l size mark =
    let h = (atoms ls e i l).1 in
    record { atom_is = size ∙ sym (atom_size (nth ls i)); mark_is = mark; low = λ k q. (atoms ls e k (omega arith)).0; high = omega arith }

pub low_size : {ls : List ℤ} {i a m : ℕ} → Known ls i a m → a < 4097
low_size k = let h = k.high in omega (arith, k.atom_is)

pub low_mark : {ls : List ℤ} {i a m : ℕ} → Known ls i a m → m ≤ 2
low_mark {ls} {i} k = omega (arith, k.mark_is, sign_low (nth ls i))

module _ {ls : List ℤ} {i a m : ℕ} (met : List ℕ) (size : length met ≡ 4097) (s : Met ls i met) (k : Known ls i a m) where
  pub step_opposite : get_or met a 0 ≡ 3 - m → negated_before ls i ≡ true
  step_opposite e = met_opposite ls i met size s k.low k.high (rw (k.atom_is, k.mark_is) at e)

  pub step_none : (get_or met a 0 ≡ 3 - m → ⊥) → negated_before ls i ≡ false
  step_none d = none_opposite ls i met size s k.low k.high (rw (k.atom_is, k.mark_is) at d)

  pub step_met : (get_or met a 0 ≡ 3 - m → ⊥) → Met ls (i + 1) (set met a m)
  step_met d = rw (k.atom_is, k.mark_is) (one_met ls i met size s k.low k.high (rw (k.atom_is, k.mark_is) at d))
