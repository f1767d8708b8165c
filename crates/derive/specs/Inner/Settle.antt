-- What clearing the pending marks asks and leaves.
use Rattle.std.specs.Prelude.{◌≡◌, List, ℕ, ◌+◌, ◌*◌, ◌%◌, ◌<◌, ◌≤◌, length}
use Rattle.types.specs.Limits.{widest}
use Rattle.area.specs.Layout.{word, record_at, tag_at}

-- the records of n atoms and S sentences are inside
pub record Settleable (w : List ℕ) (n S : ℕ) : Type 0 where
  pub atoms : n ≤ widest.atoms
  pub sentences : S ≤ widest.sentences
  pub records : 4 * n + 8 * S ≤ length w

-- the first k sentences are not marked as pending, and every other word is as it was
pub record Settled (w w' : List ℕ) (n k : ℕ) : Type 0 where
  pub size : length w' ≡ length w
  pub tags : (s : ℕ) → s < k → tag_at w' (record_at n s) ≡ tag_at w (record_at n s) % 16
  pub other : (i : ℕ) → ((s : ℕ) → s < k → ¬ (i ≡ record_at n s + 1)) → word w' i ≡ word w i
