-- Levels that do not fall, taken apart at the last row, and none at no row.
use mathlib.Core.Path.{◌≡◌, sym, subst}
use mathlib.Core.List.{List}
use Prim.Native.Nat.{ℕ, zero, suc, ◌-◌, ◌%◌, ◌<◌, ◌≤◌}
use native.Mathlib.Omega.{arith}
use Rattle.area.specs.Layout.{cause_at, rows_from}
use Rattle.area.specs.Whole.{Rising}
use Rattle.trail_check.proofs.Rows.{rows_last}

module _ (w : List ℕ) (n : ℕ) where
  pub rising_row : (k v : ℕ) → 0 < k → Rising v (rows_from w n k)
      → (cause_at w n (k - 1) % 65536 ≤ v) × Rising (cause_at w n (k - 1) % 65536) (rows_from w n (k - 1))
  rising_row k v l h = subst (Rising v) (rows_last w n k l) h

  pub rising_more : (k v : ℕ) → 0 < k → cause_at w n (k - 1) % 65536 ≤ v → Rising (cause_at w n (k - 1) % 65536) (rows_from w n (k - 1))
      → Rising v (rows_from w n k)
  rising_more k v l q h = subst (Rising v) (sym (rows_last w n k l)) (q, h)

  pub rising_none : (k v : ℕ) → k ≤ 0 → Rising v (rows_from w n k)
  unfolding rows_from
  rising_none zero v l = tt
  rising_none (suc k) v l = let b : ⊥ = omega arith in absurd b

  -- the same, with the level that was read
  pub rising_down : (k v own : ℕ) → 0 < k → own ≡ cause_at w n (k - 1) % 65536 → Rising v (rows_from w n k) → (own ≤ v) × Rising own (rows_from w n (k - 1))
  rising_down k v own l e h = rw e (rising_row k v l h)

  pub rising_up : (k v own : ℕ) → 0 < k → own ≡ cause_at w n (k - 1) % 65536 → own ≤ v → Rising own (rows_from w n (k - 1)) → Rising v (rows_from w n k)
  rising_up k v own l e q h = rising_more k v l (omega arith) (rw e at h)
