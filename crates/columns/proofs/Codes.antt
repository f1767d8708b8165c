-- The code of a sentence is that of the first test that holds, and the answer of a list of sentences that of the first sentence whose
-- code is not 0.
use mathlib.Core.Path.{◌≡◌, refl, ap, ◌∙◌}
use mathlib.Core.Bool.{Bool, true, false, cond}
use mathlib.Core.List.{List, [], ◌∷◌, ◌++◌}
use Prim.Native.Nat.{ℕ}
use native.Mathlib.Omega.{arith}
use lib.Dec.{eqb}
use borrow.Author.Tests.{eq-eqb, ne_eqb}
use Rattle.types.specs.declared.Limits.{Limits}
use Rattle.meaning.specs.Meaning.{Each}
use Rattle.book.specs.Table.{Refusal}
use Rattle.columns.specs.Columns.{Written}
use Rattle.columns.specs.Refusals.{unknown, strange, out_of_range, own_head, mixed, too_great, about, sentence_refusals, first_refusal}
use Rattle.columns.specs.Indexed.{first_code, sentence_code, Passes}
use Rattle.columns.specs.Decides.{answer}

abbrev tests : ℕ → Bool → Bool → Bool → Bool → Bool → Bool → List Refusal
tests k a b c d e f = about k 3 a ∷ about k 4 b ∷ about k 5 c ∷ about k 6 d ∷ about k 7 e ∷ about k 8 f ∷ []

found : (k : ℕ) (a b c d e f : Bool) (rest : List Refusal)
    → first_refusal (tests k a b c d e f ++ rest) ≡ cond (eqb (first_code a b c d e f) 0) (first_refusal rest) (answer (first_code a b c d e f) k)
unfolding first_refusal
found k true b c d e f rest = refl
found k false true c d e f rest = refl
found k false false true d e f rest = refl
found k false false false true e f rest = refl
found k false false false false true f rest = refl
found k false false false false false true rest = refl
found k false false false false false false rest = refl

none_found : (a b c d e f : Bool) → first_code a b c d e f ≡ 0 → Each (λ b. b ≡ false) (a ∷ b ∷ c ∷ d ∷ e ∷ f ∷ [])
none_found true b c d e f z = absurd (omega arith)
none_found false true c d e f z = absurd (omega arith)
none_found false false true d e f z = absurd (omega arith)
none_found false false false true e f z = absurd (omega arith)
none_found false false false false true f z = absurd (omega arith)
none_found false false false false false true z = absurd (omega arith)
none_found false false false false false false z = (refl, (refl, (refl, (refl, (refl, (refl, tt))))))

-- where all weights fit, another last test gives the same code
pub last_test : (a b c d e f g : Bool) → (c ≡ false → f ≡ g) → first_code a b c d e f ≡ first_code a b c d e g
last_test a b true d e f g h = refl
last_test a b false d e f g h = ap (first_code a b false d e) (h refl)

module _ (lim : Limits) (n : ℕ) (x : Written) where
  pub code_passes : sentence_code lim n x ≡ 0 → Passes lim n x
  code_passes z =
      let h = none_found (unknown lim x) (strange n x) (out_of_range x) (own_head x) (mixed x) (too_great x) z in
      record { known = h.0; atoms = h.1.0; ranges = h.1.1.0; headless = h.1.1.1.0; unmixed = h.1.1.1.1.0; small = h.1.1.1.1.1.0 }

  -- the first refusal of a sentence and of those behind it
  module _ (k : ℕ) (rest : List Refusal) where
    found_by : {b : Bool} → eqb (sentence_code lim n x) 0 ≡ b → first_refusal (sentence_refusals lim n k x ++ rest) ≡ cond b (first_refusal rest) (answer (sentence_code lim n x) k)
    found_by e = found k (unknown lim x) (strange n x) (out_of_range x) (own_head x) (mixed x) (too_great x) rest
        ∙ ap (λ b. cond b (first_refusal rest) (answer (sentence_code lim n x) k)) e

    pub here : (sentence_code lim n x ≡ 0 → ⊥) → first_refusal (sentence_refusals lim n k x ++ rest) ≡ answer (sentence_code lim n x) k
    here e = found_by (ne_eqb (sentence_code lim n x) 0 e)

    pub later : sentence_code lim n x ≡ 0 → first_refusal (sentence_refusals lim n k x ++ rest) ≡ first_refusal rest
    later e = found_by (eq-eqb (sentence_code lim n x) 0 e)
