-- Stores into a column: a front that grows, and a part once more behind itself.
use mathlib.Core.Path.{◌≡◌, refl, sym, ap, ◌∙◌, subst}
use mathlib.Core.Bool.{Bool, true, cond}
use mathlib.Core.List.{List, ◌++◌}
use Prim.Native.Nat.{ℕ, ◌+◌, ◌-◌, ◌≤◌}
use native.Mathlib.Omega.{arith}
use lib.ListN.{length, take, drop, length-append, length-drop}
use lib.Seq.{take_at, drop-append-add, drop-drop, sets, sets-eq, slice, length-slice}
use lib.IntN.{ℤ}
use Rattle.std.specs.List.{copy_within}
use Rattle.std.proofs.lemmas.List.{drop-take}
use Rattle.columns.specs.Columns.{seven_columns}
use Rattle.opb_grammar.specs.declared.State.{State}
use Rattle.opb_rows.specs.Inner.Rows.{copied}

-- ---- columns, each of which is the same

pub same_columns :
    {h h' k k' d d' n n' : List ℕ} {b b' w w' l l' : List ℤ} →
    h ≡ h' → k ≡ k' → d ≡ d' → b ≡ b' → n ≡ n' → w ≡ w' → l ≡ l' → seven_columns h k d b n w l ≡ seven_columns h' k' d' b' n' w' l'
same_columns eh ek ed eb en ew el = cc

-- ---- a column whose front is written

module _ {A : Type 0} where
  pub over_sets : (xs vs old : List A) → length xs + length vs ≤ length old → sets (xs ++ drop (length xs) old) (length xs) vs ≡ (xs ++ vs) ++ drop (length (xs ++ vs)) old
  over_sets xs vs old h =
      let l : List A = xs ++ drop (length xs) old in
      let long : length xs + length vs ≤ length l = omega (arith, length-append xs (drop (length xs) old), length-drop (length xs) old) in
      sets-eq vs l (length xs) long
      ∙ ap (λ (x : List A). (x ++ vs) ++ drop (length xs + length vs) l) (take_at xs (drop (length xs) old) (length xs) refl)
      ∙ ap (λ (x : List A). (xs ++ vs) ++ x) (drop-append-add xs (drop (length xs) old) (length vs) ∙ drop-drop (length vs) (length xs) old)
      ∙ ap (λ (n : ℕ). (xs ++ vs) ++ drop n old) (sym (length-append xs vs))

-- ---- a constraint's terms once more

module _ (l : List ℤ) (from to : ℕ) (ordered : from ≤ to) (room : to + (to - from) ≤ length l) where
  part_is : take (to - from) (drop from l) ≡ slice from to l
  part_is = let e : from + (to - from) ≡ to = omega arith in rw e at (sym (drop-take from (to - from) l))

  again : copy_within l from to to ≡ sets l to (slice from to l)
  again =
      let n : length (slice from to l) ≡ to - from = length-slice from to l (omega arith) in
      ap (λ (xs : List ℤ). (take to l ++ xs) ++ drop (to + (to - from)) l) part_is
      ∙ ap (λ (k : ℕ). (take to l ++ slice from to l) ++ drop (to + k) l) (sym n)
      ∙ sym (sets-eq (slice from to l) l to (omega (arith, n)))

pub is_copied :
    (s : State) (l new : List ℤ) → s.equal ≡ true → s.counts.entries ≤ length l →
    cond s.equal (s.counts.terms + s.counts.terms) 0 ≤ s.counts.entries →
    new ≡ copy_within l (s.counts.entries - s.counts.terms - s.counts.terms) (s.counts.entries - s.counts.terms) (s.counts.entries - s.counts.terms) →
    new ≡ copied s l
is_copied s l new e h g q =
    let r : s.counts.terms + s.counts.terms ≤ s.counts.entries = subst (λ (b : Bool). cond b (s.counts.terms + s.counts.terms) 0 ≤ s.counts.entries) e g in
    rw e (q ∙ again l (s.counts.entries - s.counts.terms - s.counts.terms) (s.counts.entries - s.counts.terms) (omega arith) (omega arith))
