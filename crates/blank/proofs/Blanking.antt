-- Zeros in the place of the words from one place to another; and the words before the first of them, one by one.
use mathlib.Core.Path.{◌≡◌, sym, ap, ◌∙◌}
use mathlib.Core.List.{List}
use Prim.Native.Nat.{ℕ, ◌+◌, ◌-◌, ◌<◌, ◌≤◌}
use native.Mathlib.Omega.{arith}
use lib.ListN.{length, replicate, length-replicate, get_or-replicate}
use lib.Seq.{get_or-take}
use borrow.Rule.Slice.PartMut.{put_mid}
use Rattle.std.proofs.lemmas.Slice.{take-put_mid_below}
use Rattle.area.specs.Layout.{word}
use Rattle.blank.specs.Inner.Blank.{Blanked}
use Rattle.blank.proofs.Parts.{put_size, put_within, put_above}

pub blanked : (before zeros : List ℕ) (from to : ℕ) → from ≤ to → to ≤ length before → zeros ≡ replicate (to - from) 0
    → Blanked before (put_mid from (to - from) before zeros) from to
blanked before zeros from to h l e =
    let k : length zeros ≡ to - from = ap length e ∙ length-replicate (to - from) 0 in
    record {
      size = put_size before zeros from to h l k;
      front = take-put_mid_below from (to - from) before zeros from (omega arith) (omega arith);
      zeros = λ i low high.
          let q : from + (i - from) ≡ i = omega arith in
          ap {A = ℕ} (word (put_mid from (to - from) before zeros)) (sym q) ∙ put_within before zeros from to h l k (i - from) (omega arith)
          ∙ ap {A = List ℕ} (λ zs. word zs (i - from)) e ∙ get_or-replicate (to - from) (i - from) 0 0 (omega arith);
      above = put_above before zeros from to h l k;
    }

pub blank_below : {before words : List ℕ} {from to : ℕ} → Blanked before words from to → (i : ℕ) → i < from → word words i ≡ word before i
blank_below {before} {words} {from} b i l = sym (get_or-take from words i 0 l) ∙ ap {A = List ℕ} (λ w. word w i) b.front ∙ get_or-take from before i 0 l
