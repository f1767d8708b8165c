-- Columns made of rows hold exactly these rows: what load sees is what the text says.
use mathlib.Core.Path.{◌≡◌, refl, sym, ap, ap₂, ◌∙◌}
use mathlib.Core.List.{List, [], ◌∷◌, ◌++◌, map, map-append, append_assoc}
use Prim.Native.Nat.{ℕ, zero, suc, ◌+◌}
use native.Mathlib.Omega.{arith}
use lib.ListN.{length, get_or, take, drop, length-map, length-append}
use lib.Seq.{slice, take_at, drop_at, get_or_at}
use lib.IntN.{ℤ, pos}
use Rattle.decide.specs.Below.{sum_first}
use Rattle.meaning.specs.Meaning.{Entry}
use Rattle.columns.specs.Columns.{Written, paired, part, written_at, written_from, all_written}
use Rattle.opb_text.specs.Text.{all_entries, columns_of}
use Rattle.opb_text.proofs.Totals.{entries_append}

-- ---- the row behind the rows ys

module _ {A B : Type 0} (f : B → A) where
  nth_is : (ys : List B) (x : B) (xs : List B) (d : A) → get_or (map f (ys ++ x ∷ xs)) (length ys) d ≡ f x
  nth_is ys x xs d =
      ap (λ (l : List A). get_or l (length ys) d) (map-append f ys (x ∷ xs)) ∙ get_or_at (map f ys) (f x) (map f xs) d (length ys) (length-map ys f)

sum_cons : (n : ℕ) (l : List ℕ) (k : ℕ) → sum_first (n ∷ l) (suc k) ≡ n + sum_first l k
unfolding sum_first
sum_cons n l zero = omega arith
sum_cons n l (suc k) = omega (arith, sum_cons n l k)

abbrev count : Written → ℕ
count x = length x.entries

entries_before : (ys xs : List Written) → sum_first (map count (ys ++ xs)) (length ys) ≡ length (all_entries ys)
unfolding sum_first all_entries
entries_before [] xs = refl
entries_before (y ∷ ys) xs =
    sum_cons (count y) (map count (ys ++ xs)) (length ys)
    ∙ ap (λ (n : ℕ). count y + n) (entries_before ys xs)
    ∙ sym (length-append y.entries (all_entries ys))

middle : {A : Type 0} (a b c : List A) → slice (length a) (length a + length b) (a ++ (b ++ c)) ≡ b
middle a b c =
    ap (λ l. drop (length a) (take (length a + length b) l)) (sym (append_assoc a b c))
    ∙ ap (drop (length a)) (take_at (a ++ b) c (length a + length b) (length-append a b))
    ∙ drop_at a b (length a) refl

module _ (f : Entry → ℤ) (ys : List Written) (x : Written) (xs : List Written) where
  entries_split : map f (all_entries (ys ++ x ∷ xs)) ≡ map f (all_entries ys) ++ (map f x.entries ++ map f (all_entries xs))
  unfolding all_entries
  entries_split =
      ap (map f) (entries_append ys (x ∷ xs))
      ∙ map-append f (all_entries ys) (x.entries ++ all_entries xs)
      ∙ ap (λ (l : List ℤ). map f (all_entries ys) ++ l) (map-append f x.entries (all_entries xs))

  part_is : part (columns_of (ys ++ x ∷ xs)) (length ys) (map f (all_entries (ys ++ x ∷ xs))) ≡ map f x.entries
  part_is =
      let from : sum_first (map count (ys ++ x ∷ xs)) (length ys) ≡ length (map f (all_entries ys)) =
      entries_before ys (x ∷ xs) ∙ sym (length-map (all_entries ys) f) in
      let size : get_or (map count (ys ++ x ∷ xs)) (length ys) 0 ≡ length (map f x.entries) =
      nth_is count ys x xs 0 ∙ sym (length-map x.entries f) in
      ap₂ (λ (n m : ℕ). slice n (n + m) (map f (all_entries (ys ++ x ∷ xs)))) from size
      ∙ ap (slice (length (map f (all_entries ys))) (length (map f (all_entries ys)) + length (map f x.entries))) entries_split
      ∙ middle (map f (all_entries ys)) (map f x.entries) (map f (all_entries xs))

pairs : (es : List Entry) → paired (map (λ (e : Entry). e.weight) es) (map (λ (e : Entry). e.literal) es) ≡ es
unfolding paired
pairs [] = refl
pairs (e ∷ es) = ap (λ (fs : List Entry). e ∷ fs) (pairs es)

abbrev row : ℕ → ℕ → ℕ → ℤ → List Entry → Written
row h k s b es = record { head = h; kind = k; side = s; bound = b; entries = es }

same_row :
    {h h' k k' s s' : ℕ} {b b' : ℤ} {es es' : List Entry} → h ≡ h' → k ≡ k' → s ≡ s' → b ≡ b' → es ≡ es' → row h k s b es ≡ row h' k' s' b' es'
same_row eh ek es eb ee = cc

row_is : (ys : List Written) (x : Written) (xs : List Written) → written_at (columns_of (ys ++ x ∷ xs)) (length ys) ≡ x
row_is ys x xs =
    same_row (nth_is (λ (y : Written). y.head) ys x xs 0) (nth_is (λ (y : Written). y.kind) ys x xs 0) (nth_is (λ (y : Written). y.side) ys x xs 0)
    (nth_is (λ (y : Written). y.bound) ys x xs (pos 0))
    (ap₂ paired (part_is (λ (e : Entry). e.weight) ys x xs) (part_is (λ (e : Entry). e.literal) ys x xs) ∙ pairs x.entries)

-- ---- all rows

rows_are : (ys xs : List Written) → written_from (columns_of (ys ++ xs)) (length ys) (length xs) ≡ xs
unfolding written_from
rows_are ys [] = refl
rows_are ys (x ∷ xs) =
    ap₂ (λ (y : Written) (zs : List Written). y ∷ zs) (row_is ys x xs)
    (ap₂ (λ (zs : List Written) (n : ℕ). written_from (columns_of zs) n (length xs)) (sym (append_assoc ys (x ∷ []) xs))
    (sym (length-append ys (x ∷ []) ∙ omega arith))
    ∙ rows_are (ys ++ (x ∷ [])) xs)

pub same_rows : (xs : List Written) → all_written (columns_of xs) ≡ xs
same_rows xs = ap (written_from (columns_of xs) 0) (length-map xs (λ (x : Written). x.head)) ∙ rows_are [] xs
