-- What the turned entry is, by the kind and the literal's sign.
use mathlib.Core.Path.{◌≡◌, refl, sym, ap, ◌∙◌}
use mathlib.Core.Bool.{true, false}
use Prim.Native.Nat.{ℕ, suc, ◌-◌, ◌/◌, ◌%◌, ◌≤◌}
use native.Mathlib.Omega.{arith}
use lib.IntN.{pos}
use Rattle.numbers.specs.Words.{half, literal_of}
use Rattle.numbers.proofs.Words.{unbias_zero, unbias_neg, literal_even, literal_odd}
use Rattle.meaning.specs.Meaning.{Entry, Kind, sum, product, count, maximum, minimum, mixes}
use Rattle.meaning.specs.Merge.{turned_by, freed_by}
use Rattle.area.specs.Layout.{entry_of}
use Rattle.entry_words.specs.Inner.Entries.{positive, freed, TurnedIs}

plain : (k : Kind) (e : Entry) → mixes k ≡ false → (positive k e ≡ e) × (freed k e ≡ pos 0)
plain k e = elim k as (λ k. mixes k ≡ false → (positive k e ≡ e) × (freed k e ≡ pos 0)) [ sum ↦ λ h. (cc, cc) | product ↦ λ h. (refl, refl) | count ↦ λ h. (cc, cc) | maximum ↦ λ h. (refl, refl) | minimum ↦ λ h. (refl, refl) ]

mixed : (k : Kind) (e : Entry) → mixes k ≡ true → (positive k e ≡ turned_by e.weight e.literal) × (freed k e ≡ freed_by e.weight e.literal)
mixed k e = elim k as (λ k. mixes k ≡ true → (positive k e ≡ turned_by e.weight e.literal) × (freed k e ≡ freed_by e.weight e.literal)) [ sum ↦ λ h. (refl, refl) | product ↦ λ h. (cc, cc) | count ↦ λ h. (refl, refl) | maximum ↦ λ h. (cc, cc) | minimum ↦ λ h. (cc, cc) ]

pub turned_plain : (kind : Kind) (x l : ℕ) → mixes kind ≡ false → 2 ≤ l → l ≤ 8193 → TurnedIs kind x l (record { weight = x; literal = l; freed = half })
turned_plain kind x l m low high = record {
  entry = sym (plain kind (entry_of x l) m).0;
  freed_is = unbias_zero ∙ sym (plain kind (entry_of x l) m).1;
  low = low;
  high = high;
}

pub turned_even : (kind : Kind) (x l : ℕ) → mixes kind ≡ true → l % 2 ≡ 0 → 2 ≤ l → l ≤ 8193 → TurnedIs kind x l (record { weight = x; literal = l; freed = half })
turned_even kind x l m e low high = record {
  entry = sym ((mixed kind (entry_of x l) m).0 ∙ rw (literal_even l e));
  freed_is = unbias_zero ∙ sym ((mixed kind (entry_of x l) m).1 ∙ rw (literal_even l e));
  low = low;
  high = high;
}

pub turned_odd : (kind : Kind) (x l : ℕ) → mixes kind ≡ true → l % 2 ≡ 1 → 2 ≤ l → l ≤ 8193 → x ≤ 9223372036854775808
    → TurnedIs kind x l (record { weight = 9223372036854775808 - x; literal = l - 1; freed = x })
turned_odd kind x l m e low high h =
    let p : (l - 1) % 2 ≡ 0 = omega arith in
    let q : (l - 1) / 2 ≡ suc (l / 2 - 1) = omega arith in
    let even : literal_of (l - 1) ≡ pos (suc (l / 2 - 1)) = literal_even (l - 1) p ∙ ap pos q in
    record {
      entry = rw (even, unbias_neg x h) (sym ((mixed kind (entry_of x l) m).0 ∙ rw (literal_odd l low e)));
      freed_is = sym ((mixed kind (entry_of x l) m).1 ∙ rw (literal_odd l low e));
      low = omega arith;
      high = omega arith;
    }
