-- A part of the area, lent and taken back: its words are the part's and all others are as before. And a slice of words that did not change
-- is the same slice.
use mathlib.Core.Path.{◌≡◌, sym, ap, ◌∙◌}
use mathlib.Core.List.{List}
use Prim.Native.Nat.{ℕ, ◌+◌, ◌-◌, ◌*◌, ◌<◌, ◌≤◌}
use native.Mathlib.Omega.{arith}
use lib.IntN.{ℤ}
use lib.ListN.{length, take}
use lib.Seq.{slice, length-slice, length-take-le, ext_get_or, get_or-take, get_or-drop}
use borrow.Rule.Slice.PartMut.{put_mid}
use Rattle.meaning.specs.Meaning.{Kind}
use Rattle.area.specs.Layout.{word, entries_of}
use Rattle.blank.proofs.Parts.{put_size, put_below, put_within, put_above}
use Rattle.merge.specs.Inner.Into.{MergedInto}
use Rattle.gather.specs.declared.Merged.{Merged}
use Rattle.stored_sentence.specs.Inner.Sentences.{MergedAt}

-- ---- the words f to t, by number

pub slice_is : (w : List ℕ) (f t : ℕ) (part : List ℕ) → t ≤ length w → length part ≡ t - f → ((i : ℕ) → f + i < t → word w (f + i) ≡ word part i) → slice f t w ≡ part
slice_is w f t part l e h = ext_get_or 0 (slice f t w) part (length-slice f t w l ∙ sym e) (λ i m.
    let q : f + i < t = omega (arith, length-slice f t w l) in
    get_or-drop f (take t w) i 0 ∙ get_or-take t w (f + i) 0 q ∙ h i q)

pub slice_kept : (w w' : List ℕ) (f t : ℕ) → length w' ≡ length w → t ≤ length w → ((i : ℕ) → f ≤ i → i < t → word w' i ≡ word w i) → slice f t w' ≡ slice f t w
slice_kept w w' f t e l h = slice_is w' f t (slice f t w) (omega arith) (length-slice f t w l)
    (λ i m. h (f + i) (omega arith) m ∙ sym (get_or-drop f (take t w) i 0 ∙ get_or-take t w (f + i) 0 m))

-- ---- a part with ys in its place

module _ (xs ys : List ℕ) (a e : ℕ) (h : a ≤ e) (l : e ≤ length xs) (k : length ys ≡ e - a) where
  abbrev put : List ℕ
  put = put_mid a (e - a) xs ys

  -- what the merge left in the part
  pub merged_put : (kind : Kind) (ws ls : List ℤ) (r : Merged) → e ≡ a + 2 * length ws → MergedInto ys kind ws ls r → MergedAt xs put a kind ws ls r
  merged_put kind ws ls r q m =
      let c = m.count in
      record {
        size = put_size xs ys a e h l k;
        count = m.count;
        entries = ap {A = List ℕ} entries_of (slice_is put a (a + 2 * r.count) (take (2 * r.count) ys) (omega (arith, put_size xs ys a e h l k))
            (length-take-le (2 * r.count) ys (omega arith) ∙ omega arith)
            (λ i t. put_within xs ys a e h l k i (omega arith) ∙ sym (get_or-take (2 * r.count) ys i 0 (omega arith)))) ∙ m.entries;
        rest = λ i s t. put_within xs ys a e h l k i (omega arith) ∙ m.rest i s t;
        constant = m.constant;
        no_constant = m.no_constant;
        below = put_below xs ys a e h l k;
        above = λ i t. put_above xs ys a e h l k i (omega arith);
      }
