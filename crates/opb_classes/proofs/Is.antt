-- The test of a class.
use mathlib.Core.Path.{◌≡◌, refl, sym, ap, ◌∙◌}
use mathlib.Core.List.{[], ◌∷◌}
use Prim.Native.Nat.{ℕ}
use lib.Dec.{T, eqb→eq}
use lib.ListN.{get_or}
use Rattle.opb_classes.specs.declared.Class.{Class}
use Rattle.opb_classes.specs.declared.Class.TheVariants.{Blank, Digit, Plus, Minus, Star, Ex, Greater, Equal, Semicolon, Other}
use Rattle.opb_classes.specs.Bytes.{place, is}

at_place : ℕ → Class
at_place n = get_or (Blank ∷ Digit ∷ Plus ∷ Minus ∷ Star ∷ Ex ∷ Greater ∷ Equal ∷ Semicolon ∷ []) n Other

placed : (k : Class) → k ≡ at_place (place k)
unfolding at_place
placed Blank = refl
placed Digit = refl
placed Plus = refl
placed Minus = refl
placed Star = refl
placed Ex = refl
placed Greater = refl
placed Equal = refl
placed Semicolon = refl
placed Other = refl

pub same : (k c : Class) → T (is k c) → k ≡ c
same k c t = placed k ∙ ap at_place (eqb→eq (place k) (place c) t) ∙ sym (placed c)
