-- Some trail shows the values of n atoms: the one that has, for each atom whose value is not 0, the literal that the value says.
use mathlib.Core.Path.{◌≡◌, refl, sym, ◌∙◌, subst}
use mathlib.Core.Bool.{Bool, true, false, cond}
use mathlib.Core.List.{List, [], ◌∷◌}
use Prim.Native.Nat.{ℕ, zero, suc, ◌%◌, ◌≤◌, ◌<◌}
use native.Mathlib.Omega.{arith}
use native.Mathlib.Decide.{ℕ_discrete}
use lib.IntN.{ℤ, pos, negsuc}
use lib.Dec.{eqb}
use Rattle.meaning.specs.Computed.{free, fixed, standing_of}
use Rattle.meaning.proofs.Trails.{standing_same, standing_other}
use Rattle.area.specs.Layout.{standing_word}
use Rattle.extremes.proofs.Contributions.{ShowsIn}

-- the literal of atom k + 1 that its value x says, if it is set and odd or even
said_by : Bool → Bool → ℕ → List ℤ → List ℤ
said_by true odd k t = t
said_by false true k t = pos (suc k) ∷ t
said_by false false k t = negsuc k ∷ t

said_other : (open_is odd : Bool) (k : ℕ) (t : List ℤ) (a : ℕ) → ¬ (a ≡ suc k) → standing_of (said_by open_is odd k t) a ≡ standing_of t a
unfolding said_by
said_other true odd k t a d = refl
said_other false true k t a d = standing_other (pos (suc k)) t a d
said_other false false k t a d = standing_other (negsuc k) t a d

said_same : (open_is odd : Bool) (k : ℕ) (t : List ℤ) → standing_of t (suc k) ≡ free → standing_of (said_by open_is odd k t) (suc k) ≡ cond open_is free (fixed odd)
unfolding said_by
said_same true odd k t e = e
said_same false true k t e = standing_same (pos (suc k)) t
said_same false false k t e = standing_same (negsuc k) t

module _ (v : ℕ → ℕ) where
  trail_upto : ℕ → List ℤ
  trail_upto zero = []
  trail_upto (suc k) = said_by (eqb (v (suc k)) 0) (eqb (v (suc k) % 2) 1) k (trail_upto k)

  later_free : (k a : ℕ) → k < a → standing_of (trail_upto k) a ≡ free
  unfolding trail_upto standing_of
  later_free zero a h = refl
  later_free (suc k) a h =
      said_other (eqb (v (suc k)) 0) (eqb (v (suc k) % 2) 1) k (trail_upto k) a (λ e. omega arith) ∙ later_free k a (omega arith)

  shows_upto : (k : ℕ) → ShowsIn k v (trail_upto k)
  unfolding trail_upto
  shows_upto zero a low high = let b : ⊥ = omega arith in absurd b
  shows_upto (suc k) a low high = go (ℕ_discrete a (suc k)) (shows_upto k a low)
    where
      go : Dec (a ≡ suc k) → (a ≤ k → standing_of (trail_upto k) a ≡ standing_word (v a))
          → standing_of (said_by (eqb (v (suc k)) 0) (eqb (v (suc k) % 2) 1) k (trail_upto k)) a ≡ standing_word (v a)
      go (yes e) ih =
          subst (λ x. standing_of (said_by (eqb (v (suc k)) 0) (eqb (v (suc k) % 2) 1) k (trail_upto k)) x ≡ standing_word (v x)) (sym e)
          (said_same (eqb (v (suc k)) 0) (eqb (v (suc k) % 2) 1) k (trail_upto k) (later_free k (suc k) (omega arith)))
      go (no d) ih = said_other (eqb (v (suc k)) 0) (eqb (v (suc k) % 2) 1) k (trail_upto k) a d ∙ ih (omega arith)

  pub some_trail : (n : ℕ) → (t : List ℤ) × ShowsIn n v t
  some_trail n = (trail_upto n, shows_upto n)
