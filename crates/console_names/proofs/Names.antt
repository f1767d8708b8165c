-- What a word's length and bytes, read one by one, say of its being a name.
use Rattle.std.proofs.Common.{◌≡◌, ◌≢◌, refl, ap, ℕ, Bool, true, false, List, length, get_or}
use Rattle.std.specs.Prelude.{bytes_eq}
use Rattle.std.proofs.lemmas.Slice.Eq.{HasBytesAt, text_from_reads, bytes_eq-Decides}

module _ (w p : List ℕ) where
  pub all_bytes : length w ≡ length p → HasBytesAt w 0 p → bytes_eq w p ≡ true
  all_bytes l h = (bytes_eq-Decides w p).1 (text_from_reads w p l h)

  differ : (t : Bool) → bytes_eq w p ≡ t → w ≢ p → bytes_eq w p ≡ false
  differ true e h = absurd (h ((bytes_eq-Decides w p).0 e))
  differ false e h = e

  pub other_length : length w ≢ length p → bytes_eq w p ≡ false
  other_length h = differ (bytes_eq w p) refl (λ e. h (ap length e))

  pub other_byte : (k : ℕ) → get_or w k 0 ≢ get_or p k 0 → bytes_eq w p ≡ false
  other_byte k h = differ (bytes_eq w p) refl (λ e. h (ap (λ (x : List ℕ). get_or x k 0) e))

pub ruleset bytes_read = (all_bytes, other_length, other_byte)
