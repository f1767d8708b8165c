-- The two columns of a list of records: each is as long as the list, grows by one record at a time, and the fronts of the arrays are what is
-- loaded; where the list is longer than the arrays, which have at least the room that the limits ask, load refuses it by its first number.
use mathlib.Core.Path.{◌≡◌, refl, sym, ap, subst, ◌∙◌}
use mathlib.Core.Bool.{true, not, ◌||◌}
use mathlib.Core.List.{List, [], ◌∷◌, ◌++◌}
use Prim.Native.Nat.{ℕ, zero, suc, ◌+◌, ◌<◌, ◌≤◌}
use native.Mathlib.Omega.{arith}
use lib.IntN.{ℤ, pos}
use lib.ListN.{length, length-set, get_or, set, take}
use lib.Seq.{take-length, take-suc, take-suc-set}
use lib.Dec.{eqb, ltb}
use borrow.Author.Tests.{lt-ltb}
use Rattle.types.specs.declared.Limits.{Limits}
use Rattle.columns.specs.Columns.{Columns}
use Rattle.columns.specs.Answers.{answer}
use Rattle.columns.specs.Refusals.{misshapen}
use Rattle.columns.specs.Indexed.{sizes, unequal_sizes}
use Rattle.decide.proofs.Below.{or_left, or_right}
use Rattle.columns.proofs.Shapes.{limits_passed, counts_add_up, misshapen_is}
use Rattle.columns.proofs.Answers.{answer_1}
use Rattle.load.specs.Load.{Loads}
use Rattle.lent_records.specs.Inner.Copy.{CopyOf}
use Rattle.lent_records.specs.Records.{weights_in, literals_in}
use Rattle.lent_records.specs.Columns.{with_records}
use Rattle.lent_records.specs.declared.Sentences.{Sentences}
use Rattle.lent_records.specs.declared.Weighted.{Weighted}
use Rattle.lent_records.specs.declared.Copied.{Copied}

pub length_weights : (rs : List Weighted) → length (weights_in rs) ≡ length rs
unfolding weights_in
length_weights [] = refl
length_weights (r ∷ rs) = ap suc (length_weights rs)

length_literals : (rs : List Weighted) → length (literals_in rs) ≡ length rs
unfolding literals_in
length_literals [] = refl
length_literals (r ∷ rs) = ap suc (length_literals rs)

weight_at : (rs : List Weighted) (i : ℕ) (d : Weighted) → get_or (weights_in rs) i d.weight ≡ (get_or rs i d).weight
unfolding weights_in
weight_at [] i d = refl
weight_at (r ∷ rs) zero d = refl
weight_at (r ∷ rs) (suc i) d = weight_at rs i d

literal_at : (rs : List Weighted) (i : ℕ) (d : Weighted) → get_or (literals_in rs) i d.literal ≡ (get_or rs i d).literal
unfolding literals_in
literal_at [] i d = refl
literal_at (r ∷ rs) zero d = refl
literal_at (r ∷ rs) (suc i) d = literal_at rs i d

-- ---- the arrays, of room for `most`, while the first i records are copied

abbrev pub blank_record : Weighted
blank_record = record { weight = pos 0; literal = pos 0 }

module _ (most : ℕ) where
  -- the array has its room, and its first i numbers are those of the column, where they are inside
  abbrev pub Front : List ℤ → List ℤ → ℕ → Type 0
  Front column array i = i ≤ most → (length array ≡ most) × (take i array ≡ take i column)

  front_grows : (column array array' : List ℤ) (i : ℕ) (x d : ℤ) → i < length column → get_or column i d ≡ x
      → (i < most → array' ≡ set array i x) → Front column array i → Front column array' (i + 1)
  front_grows column array array' i x d inside is put front fits =
      let e : i + 1 ≡ suc i = omega arith in
      let before : (length array ≡ most) × (take i array ≡ take i column) = front (omega arith) in
      let here : i < length array = omega (arith, before.0) in
      let new : array' ≡ set array i x = put (omega arith) in (
        ap length new ∙ length-set array i x ∙ before.0,
        ap (λ (l : List ℤ). take (i + 1) l) new ∙ ap (λ (k : ℕ). take k (set array i x)) e ∙ take-suc-set array i x here
            ∙ ap (λ (l : List ℤ). l ++ (x ∷ [])) before.1 ∙ ap (λ (y : ℤ). take i column ++ (y ∷ [])) (sym is) ∙ sym (take-suc column i d inside)
            ∙ ap (λ (k : ℕ). take k column) (sym e),
      )

  pub weights_grow : (rs : List Weighted) (ws ws' : List ℤ) (i : ℕ) → i < length rs
      → (i < most → ws' ≡ set ws i (get_or rs i blank_record).weight) → Front (weights_in rs) ws i → Front (weights_in rs) ws' (i + 1)
  weights_grow rs ws ws' i inside =
      front_grows (weights_in rs) ws ws' i _ (pos 0) (subst (λ (k : ℕ). i < k) (sym (length_weights rs)) inside) (weight_at rs i blank_record)

  pub literals_grow : (rs : List Weighted) (ls ls' : List ℤ) (i : ℕ) → i < length rs
      → (i < most → ls' ≡ set ls i (get_or rs i blank_record).literal) → Front (literals_in rs) ls i → Front (literals_in rs) ls' (i + 1)
  literals_grow rs ls ls' i inside =
      front_grows (literals_in rs) ls ls' i _ (pos 0) (subst (λ (k : ℕ). i < k) (sym (length_literals rs)) inside) (literal_at rs i blank_record)

  whole_front : (column array : List ℤ) (n : ℕ) → length column ≡ n → Front column array n → n ≤ most → take n array ≡ column
  whole_front column array n e front fits = (front fits).1 ∙ ap (λ (k : ℕ). take k column) (sym e) ∙ take-length column

  pub all_copied : (rs : List Weighted) (r : Copied) → r.count ≡ length rs → Front (weights_in rs) r.weights r.count
      → Front (literals_in rs) r.literals r.count → CopyOf most rs r
  all_copied rs r e ws ls = record {
    count_is = e;
    weights_are = whole_front (weights_in rs) r.weights (length rs) (length_weights rs) (subst (Front (weights_in rs) r.weights) e ws);
    literals_are = whole_front (literals_in rs) r.literals (length rs) (length_literals rs) (subst (Front (literals_in rs) r.literals) e ls);
  }

-- ---- load, of more records than it takes

module _ (lim : Limits) (w : List ℕ) (n : ℕ) where
  many_misshapen : (c : Columns) → lim.entries < length c.weights → misshapen lim n c ≡ true
  many_misshapen c many =
      let limits : limits_passed lim n c ≡ true =
      or_right (eqb n 0 || ltb lim.atoms n || ltb lim.sentences (length c.heads)) (ltb lim.entries (length c.weights))
      (lt-ltb lim.entries (length c.weights) many) in
      misshapen_is lim n c
      ∙ or_left (limits_passed lim n c || unequal_sizes (sizes c)) (not (counts_add_up c)) (or_left (limits_passed lim n c) (unequal_sizes (sizes c)) limits)

  pub many_refused : (s : Sentences) (records : List Weighted) → lim.entries < length records → Loads lim w w n (with_records s records) (answer 1 0)
  many_refused s records many = record {
    answer_is = answer_1 lim (length w) n (with_records s records) (many_misshapen (with_records s records) (omega (arith, length_weights records)));
    refused = λ _. refl;
    accepted = λ e. let b : ⊥ = omega (arith, e) in absurd b;
  }
