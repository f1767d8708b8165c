-- One number more, behind the first i; and the front of a list.
use mathlib.Core.Path.{◌≡◌, refl, sym, ap, ◌∙◌, subst}
use mathlib.Core.List.{List, [], ◌∷◌, ◌++◌, append_assoc, append-nil}
use Prim.Native.Nat.{ℕ, zero, suc, ◌+◌, ◌<◌}
use native.Mathlib.Numerals.{add-one}
use lib.ListN.{length, take, drop, get_or}
use lib.Seq.{take-suc}
use lib.IntN.{ℤ, pos}
use mir.Syntax.{w64}
use mir.Val.{to_z, of_z, SFits}
use Rattle.numbers.specs.Text.{bytes}
use Rattle.pages.specs.declared.Page.{Page}
use Rattle.pages.specs.Page.{Puts}
use Rattle.pages.specs.Lines.{named}
use Rattle.pages.proofs.Laws.{nothing, then, puts_as}
use Rattle.pages.proofs.Numbers.{named_put}
use Rattle.answer_lines.specs.Lines.{numbers}

numbers_last : (xs : List ℤ) (z : ℤ) → numbers (xs ++ (z ∷ [])) ≡ numbers xs ++ named (bytes " ") z
unfolding numbers
numbers_last [] z = append-nil (named (bytes " ") z)
numbers_last (x ∷ xs) z = ap (λ l. named (bytes " ") x ++ l) (numbers_last xs z) ∙ sym
    (append_assoc (named (bytes " ") x) (numbers xs) (named (bytes " ") z))

no_more : (xs : List ℤ) → numbers (take 0 xs) ≡ []
unfolding numbers
no_more [] = refl
no_more (x ∷ xs) = refl

pub no_numbers : (xs : List ℤ) (p : Page) → Puts p p (numbers (take 0 xs))
no_numbers xs p = puts_as (sym (no_more xs)) (nothing p)

-- the list gone through is that list
pub number_more : {p q s : Page} (xs ys : List ℤ) (i : ℕ) → ys ≡ xs → i < length ys → SFits w64 (get_or ys i (pos 0)) → Puts p q (numbers (take i xs))
    → Puts q s (named (bytes " ") (to_z w64 (of_z w64 (get_or ys i (pos 0))))) → Puts p s (numbers (take (i + 1) xs))
number_more xs ys i same l f w v =
    puts_as
    (sym (numbers_last (take i xs) (get_or ys i (pos 0))) ∙ ap (λ (zs : List ℤ). numbers (take i xs ++ (get_or zs i (pos 0) ∷ []))) same
    ∙ ap numbers (sym (take-suc xs i (pos 0) (subst (λ (zs : List ℤ). i < length zs) same l))) ∙ ap (λ (k : ℕ). numbers (take k xs)) (sym (add-one i)))
    (then w (named_put (bytes " ") (get_or ys i (pos 0)) f v))

-- a list from its first number on is all of it
pub none_gone : (k : ℕ) (xs : List ℤ) → k ≡ 0 → drop k xs ≡ xs
none_gone k xs z = ap {A = ℕ} (λ j. drop j xs) z

-- a front of the list as long as the answer says, or all of it
pub front : (k : ℕ) (xs : List ℤ) → take (length (take k xs)) xs ≡ take k xs
front zero [] = refl
front (suc k) [] = refl
front zero (x ∷ xs) = refl
front (suc k) (x ∷ xs) = ap (λ (l : List ℤ). x ∷ l) (front k xs)
