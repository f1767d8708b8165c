-- A list with ys in the place of the words from a to e, word by word.
use mathlib.Core.Path.{◌≡◌, sym, ap, ◌∙◌}
use mathlib.Core.List.{List, ◌++◌}
use Prim.Native.Nat.{ℕ, ◌+◌, ◌-◌, ◌<◌, ◌≤◌}
use native.Mathlib.Omega.{arith}
use lib.ListN.{length, take, drop, get_or-append}
use lib.Seq.{length-take-le, get_or-append-add, get_or-take, get_or-drop}
use borrow.Rule.Slice.PartMut.{put_mid, post_of, same_len_mid, mid_len}
use Rattle.area.specs.Layout.{word}

module _ (xs ys : List ℕ) (a e : ℕ) (h : a ≤ e) (l : e ≤ length xs) (k : length ys ≡ e - a) where
  abbrev put : List ℕ
  put = put_mid a (e - a) xs ys

  pub put_size : length put ≡ length xs
  put_size = same_len_mid a (e - a) xs ys (k ∙ sym (mid_len a e xs l))

  front : length (take a xs) ≡ a
  front = length-take-le a xs (omega arith)

  pub put_below : (i : ℕ) → i < a → word put i ≡ word xs i
  put_below i m = get_or-append (take a xs) (ys ++ post_of a (e - a) xs) 0 i (omega (arith, front)) ∙ get_or-take a xs i 0 m

  skip : (i : ℕ) → a ≤ i → word put i ≡ word (ys ++ post_of a (e - a) xs) (i - a)
  skip i m =
      let q : i ≡ length (take a xs) + (i - a) = omega (arith, front) in
      ap {A = ℕ} (word put) q ∙ get_or-append-add (take a xs) (ys ++ post_of a (e - a) xs) (i - a) 0

  pub put_within : (i : ℕ) → i < e - a → word put (a + i) ≡ word ys i
  put_within i m =
      let q : a + i - a ≡ i = omega arith in
      skip (a + i) (omega arith) ∙ ap {A = ℕ} (word (ys ++ post_of a (e - a) xs)) q ∙ get_or-append ys (post_of a (e - a) xs) 0 i (omega arith)

  pub put_above : (i : ℕ) → e ≤ i → word put i ≡ word xs i
  put_above i m =
      let p : i - a ≡ length ys + (i - e) = omega arith in
      let q : a + (e - a + (i - e)) ≡ i = omega arith in
      skip i (omega arith) ∙ ap {A = ℕ} (word (ys ++ post_of a (e - a) xs)) p ∙ get_or-append-add ys (post_of a (e - a) xs) (i - e) 0
      ∙ get_or-drop (e - a) (drop a xs) (i - e) 0 ∙ get_or-drop a xs (e - a + (i - e)) 0 ∙ ap {A = ℕ} (word xs) q
