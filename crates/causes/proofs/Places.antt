-- A sentence's atoms by place: there is one place more than merged entries, each has an atom of the area, and the causes from a place on are
-- its own and those from the next place on.
use mathlib.Core.Path.{◌≡◌, refl, sym, ◌∙◌, ap}
use mathlib.Core.Bool.{Bool, true, false, cond}
use mathlib.Core.List.{List, [], ◌∷◌}
use Prim.Native.Nat.{ℕ, zero, suc, ◌+◌, ◌*◌, ◌-◌, ◌/◌, ◌<◌, ◌≤◌}
use native.Mathlib.Omega.{arith}
use native.Mathlib.Numerals.{add-one}
use lib.IntN.{ℤ}
use lib.ListN.{length, get_or, drop, drop_of_length-le}
use lib.Seq.{drop-cons}
use lib.Dec.{eqb}
use Rattle.meaning.specs.Meaning.{atom, Entry, Kind, Each}
use Rattle.meaning.specs.Merge.{entry_atoms, scope}
use Rattle.book.specs.Rows.{pick, causes}
use Rattle.area.specs.Layout.{word, merged_at, entry_at, rule_at}
use Rattle.area.specs.Whole.{EntryWhole}
use Rattle.extremes.specs.Inner.Stored.{EvaluateReady}
use Rattle.theory_check.proofs.Listing.{entries_length}
use Rattle.theory_check.proofs.Scope.{scope_entry}
use Rattle.causes.specs.Inner.Causes.{AtomAt}

-- ---- the atoms of entries

places_length : (es : List Entry) → length (entry_atoms es) ≡ length es
places_length [] = refl
places_length (e ∷ es) = ap {A = ℕ} suc (places_length es)

place_within : (n head : ℕ) (kind : Kind) (written : ℕ) (es : List Entry) (i : ℕ) → i < length es → Each (EntryWhole n head kind written) es
    → (1 ≤ get_or (entry_atoms es) i 0) × (get_or (entry_atoms es) i 0 ≤ n)
place_within n head kind written [] i l h = let b : ⊥ = omega arith in absurd b
place_within n head kind written (e ∷ es) zero l h = (h.0.atom_low, h.0.atom_high)
place_within n head kind written (e ∷ es) (suc i) l h = place_within n head kind written es i (omega arith) h.1

-- ---- the places of a sentence that can be evaluated

module _ (w : List ℕ) (n S b : ℕ) (ready : EvaluateReady w n S b) where
  abbrev sc : List ℕ
  sc = scope (rule_at w n S b)

  abbrev es : List Entry
  es = (rule_at w n S b).set.entries

  merged : length es ≡ merged_at w b
  merged = entries_length w (entry_at w n S b) (merged_at w b) ready.entries

  pub scope_length : length sc ≡ merged_at w b + 1
  scope_length = omega (arith, places_length es, merged)

  pub head_at : (i : ℕ) → i ≡ 0 → AtomAt n (get_or sc i 0) (word w b)
  head_at i e = let r = ready.rule in record { is = ap {A = ℕ} (λ j. get_or sc j 0) (sym e); low = r.head_low; high = r.head_high }

  pub entry_within : (i : ℕ) → ¬ (i ≡ 0) → i ≤ merged_at w b → AtomAt n (get_or sc i 0) (word w (entry_at w n S b + 2 * (i - 1) + 1) / 2)
  entry_within zero d h = absurd (d refl)
  entry_within (suc i) d h =
      let r = ready.rule in
      let x = place_within n (rule_at w n S b).head (rule_at w n S b).kind (rule_at w n S b).written es i (omega (arith, merged)) r.entries in
      let e = scope_entry w n S b ready.entries (suc i) (omega arith) h in
      record { is = sym e; low = omega (arith, x.0, e); high = omega (arith, x.1, e) }

-- ---- the causes from a place on

module _ (t : List ℤ) (sc : List ℕ) where
  pub causes_next : (i : ℕ) → i < length sc → causes t (drop i sc) ≡ pick t (get_or sc i 0) (causes t (drop (i + 1) sc))
  unfolding causes
  causes_next i l = ap {A = List ℕ} (causes t) (drop-cons sc i 0 l) ∙ ap {A = ℕ} (λ j. pick t (get_or sc i 0) (causes t (drop j sc))) (sym (add-one i))

  pub causes_end : (i : ℕ) → length sc ≤ i → causes t (drop i sc) ≡ []
  unfolding causes
  causes_end i l = ap {A = List ℕ} (causes t) (drop_of_length-le sc l)

-- ---- no more causes than places

pick_few : (t : List ℤ) (a : ℕ) (rest : List ℤ) → length (pick t a rest) ≤ 1 + length rest
unfolding pick
pick_few [] a rest = omega arith
pick_few (l ∷ t) a rest = go (eqb (atom l) a) (pick_few t a rest)
  where
    go : (x : Bool) → length (pick t a rest) ≤ 1 + length rest → length (cond x (l ∷ rest) (pick t a rest)) ≤ 1 + length rest
    go true ih = omega arith
    go false ih = ih

pub causes_few : (t : List ℤ) (sc : List ℕ) → length (causes t sc) ≤ length sc
unfolding causes
causes_few t [] = omega arith
causes_few t (a ∷ sc) = omega (arith, pick_few t a (causes t sc), causes_few t sc)
