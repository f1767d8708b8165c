-- The columns of the constraints and terms read so far: a term, and a constraint's rows, go behind them.
use mathlib.Core.Path.{◌≡◌, refl, sym, ap, ◌∙◌}
use mathlib.Core.Bool.{Bool, true, false, cond}
use mathlib.Core.List.{List, [], ◌∷◌, ◌++◌, map, map-append, append-nil, append_assoc}
use Prim.Native.Nat.{ℕ, ◌+◌, ◌-◌, ◌≤◌, ◌<◌}
use native.Mathlib.Omega.{arith}
use lib.ListN.{length, set, drop, length-map, length-append}
use lib.Seq.{sets, slice, take_at, drop_at}
use lib.IntN.{ℤ}
use Rattle.meaning.specs.Meaning.{Entry}
use Rattle.columns.specs.Columns.{Columns, seven_columns, Written}
use Rattle.opb_grammar.specs.declared.State.{State}
use Rattle.opb_text.specs.Text.{Constraint, term_of, constraint_of, sum_row, rows_of, rows_from, all_entries, columns_of, over, over_all}
use Rattle.opb_rows.specs.Signed.{signed_of}
use Rattle.opb_rows.specs.Inner.Rows.{both, first_row, copied, with_term, with_rows}
use Rattle.opb_rows.proofs.Stores.{same_columns, over_sets}
use Rattle.opb_text.proofs.Totals.{again, entries_of, all_rows, all_row_entries, entries_append, rows_length, rows_more}
use Rattle.opb_text.proofs.Keeps.{Tracks, inside, behind_relation}

-- the columns of these constraints, the first of which has this head, and of these terms of the next
abbrev pub so_far : ℕ → List Constraint → List Entry → Columns
so_far first cs es =
    seven_columns (map (λ (x : Written). x.head) (rows_from first cs)) (map (λ (x : Written). x.kind) (rows_from first cs))
    (map (λ (x : Written). x.side) (rows_from first cs)) (map (λ (x : Written). x.bound) (rows_from first cs))
    (map (λ (x : Written). length x.entries) (rows_from first cs))
    (map (λ (e : Entry). e.weight) (all_entries (rows_from first cs) ++ es)) (map (λ (e : Entry). e.literal) (all_entries (rows_from first cs) ++ es))

pub none_so_far : (first : ℕ) (old : Columns) → old ≡ over_all (so_far first [] []) old
unfolding rows_from all_entries
none_so_far first old = refl

pub all_so_far : (first : ℕ) (cs : List Constraint) → so_far first cs [] ≡ columns_of (rows_from first cs)
all_so_far first cs =
    same_columns refl refl refl refl refl
    (ap (map (λ (e : Entry). e.weight)) (append-nil (all_entries (rows_from first cs))))
    (ap (map (λ (e : Entry). e.literal)) (append-nil (all_entries (rows_from first cs))))

-- ---- more behind a column's front

module _ {A B : Type 0} (f : B → A) where
  pub front : (xs ys : List B) (old : List A) (n : ℕ) → n ≡ length xs → n + length ys ≤ length old → sets (over (map f xs) old) n (map f ys) ≡ over (map f (xs ++ ys)) old
  front xs ys old n e h =
      let l : length (map f xs) ≡ length xs = length-map xs f in
      ap (λ (k : ℕ). sets (over (map f xs) old) k (map f ys)) (e ∙ sym l)
      ∙ over_sets (map f xs) (map f ys) old (omega (arith, l, length-map ys f))
      ∙ ap (λ (zs : List A). over zs old) (sym (map-append f xs ys))

  -- a part of the front
  part : (xs ys : List B) (old : List A) → slice (length xs) (length xs + length ys) (over (map f (xs ++ ys)) old) ≡ map f ys
  part xs ys old =
      let e : length (map f (xs ++ ys)) ≡ length xs + length ys = length-map (xs ++ ys) f ∙ length-append xs ys in
      ap (drop (length xs)) (take_at (map f (xs ++ ys)) (drop (length (map f (xs ++ ys))) old) (length xs + length ys) e ∙ map-append f xs ys)
      ∙ drop_at (map f xs) (map f ys) (length xs) (length-map xs f)

  map_both : (equal : Bool) (x y : B) → both equal (f x) (f y) ≡ map f (both equal x y)
  map_both true x y = refl
  map_both false x y = refl

-- ---- a constraint's rows

module _ (first : ℕ) (s : State) (cs : List Constraint) (es : List Entry) (w : Tracks behind_relation 14 s cs (length es)) where
  abbrev c : Constraint
  c = constraint_of s es

  abbrev rows : List Written
  rows = rows_from first cs

  first_is : first_row s ≡ length rows
  first_is = omega (arith, all_rows first cs)

  rows_put :
      {A : Type 0} (f : Written → A) (old : List A) → s.counts.sentences ≤ length old → (x y : A) → both s.equal x y ≡ map f (rows_of (first + length cs) c) →
      sets (over (map f rows) old) (first_row s) (both s.equal x y) ≡ over (map f (rows_from first (cs ++ (c ∷ [])))) old
  rows_put f old h x y q =
      ap (sets (over (map f rows) old) (first_row s)) q
      ∙ front f rows (rows_of (first + length cs) c) old (first_row s) first_is
      (omega (arith, h, rows_length (first + length cs) c s.equal refl))
      ∙ ap (λ (xs : List Written). over (map f xs) old) (sym (rows_more first cs c))

  abbrev entries : List Entry
  entries = all_entries rows

  row_terms : (equal : Bool) → s.equal ≡ equal → all_entries (rows_of (first + length cs) c) ≡ es ++ cond equal es []
  unfolding all_entries
  row_terms true q = rw q (ap (λ (fs : List Entry). es ++ fs) (append-nil es))
  row_terms false q = rw q

  new_entries : (equal : Bool) → s.equal ≡ equal → all_entries (rows_from first (cs ++ (c ∷ []))) ++ [] ≡ (entries ++ es) ++ cond equal es []
  new_entries equal q =
      append-nil (all_entries (rows_from first (cs ++ (c ∷ []))))
      ∙ ap all_entries (rows_more first cs c)
      ∙ entries_append rows (rows_of (first + length cs) c)
      ∙ ap (λ (fs : List Entry). entries ++ fs) (row_terms equal q)
      ∙ sym (append_assoc entries es (cond equal es []))

  counted : length entries ≡ entries_of cs
  counted = all_row_entries first cs

  abbrev twice : List ℤ → List ℤ
  twice l =
      sets l (s.counts.entries - s.counts.terms) (slice (s.counts.entries - s.counts.terms - s.counts.terms) (s.counts.entries - s.counts.terms) l)

  terms_put :
      (f : Entry → ℤ) (old : List ℤ) → s.counts.entries ≤ length old → (equal : Bool) → s.equal ≡ equal →
      copied s (over (map f (entries ++ es)) old) ≡ over (map f (all_entries (rows_from first (cs ++ (c ∷ []))) ++ [])) old
  terms_put f old h false q =
      let l : List ℤ = over (map f (entries ++ es)) old in
      ap (λ (b : Bool). cond b (twice l) l) q
      ∙ ap (λ (fs : List Entry). over (map f fs) old) (sym (new_entries false q ∙ append-nil (entries ++ es)))
  terms_put f old h true q =
      let l : List ℤ = over (map f (entries ++ es)) old in
      let a : again s.equal (length es) ≡ length es = ap (λ (b : Bool). again b (length es)) q in
      let m : s.counts.entries - s.counts.terms - s.counts.terms ≡ length entries = omega (arith, a, counted) in
      let n : s.counts.entries - s.counts.terms ≡ length entries + length es = omega (arith, a, counted) in
      ap (λ (b : Bool). cond b (twice l) l) q
      ∙ ap (λ (k : ℕ). sets l k (slice (s.counts.entries - s.counts.terms - s.counts.terms) k l)) n
      ∙ ap (λ (k : ℕ). sets l (length entries + length es) (slice k (length entries + length es) l)) m
      ∙ ap (sets l (length entries + length es)) (part f entries es old)
      ∙ front f (entries ++ es) es old (length entries + length es) (sym (length-append entries es)) (omega (arith, a, counted))
      ∙ ap (λ (fs : List Entry). over (map f fs) old) (sym (new_entries true q))

  pub constraint_put :
      (old : Columns) → s.counts.sentences ≤ length old.heads → s.counts.sentences ≤ length old.kinds → s.counts.sentences ≤ length old.sides →
      s.counts.sentences ≤ length old.bounds → s.counts.sentences ≤ length old.counts → s.counts.entries ≤ length old.weights →
      s.counts.entries ≤ length old.literals →
      with_rows s (first + length cs) (over_all (so_far first cs es) old) ≡ over_all (so_far first (cs ++ (c ∷ [])) []) old
  constraint_put old hh hk hd hb hn hw hl =
      let z : ℤ = signed_of s.number in
      let t : s.counts.terms ≡ length es = w.open_terms in
      let low : Written = sum_row (first + length cs) 0 c in
      let high : Written = sum_row (first + length cs) 1 c in
      same_columns
      (rows_put (λ (x : Written). x.head) old.heads hh (first + length cs) (first + length cs) (map_both (λ (x : Written). x.head) s.equal low high))
      (rows_put (λ (x : Written). x.kind) old.kinds hk 0 0 (map_both (λ (x : Written). x.kind) s.equal low high))
      (rows_put (λ (x : Written). x.side) old.sides hd 0 1 (map_both (λ (x : Written). x.side) s.equal low high))
      (rows_put (λ (x : Written). x.bound) old.bounds hb z z (map_both (λ (x : Written). x.bound) s.equal low high))
      (rows_put (λ (x : Written). length x.entries) old.counts hn s.counts.terms s.counts.terms
      (ap (λ (n : ℕ). both s.equal n n) t ∙ map_both (λ (x : Written). length x.entries) s.equal low high))
      (terms_put (λ (e : Entry). e.weight) old.weights hw s.equal refl)
      (terms_put (λ (e : Entry). e.literal) old.literals hl s.equal refl)

-- ---- a term

module _ (first : ℕ) (s : State) (cs : List Constraint) (es : List Entry) (w : Tracks inside 14 s cs (length es)) where
  one_put :
      (f : Entry → ℤ) (old : List ℤ) → s.counts.entries < length old →
      set (over (map f (all_entries (rows_from first cs) ++ es)) old) s.counts.entries (f (term_of s))
      ≡ over (map f (all_entries (rows_from first cs) ++ (es ++ (term_of s ∷ [])))) old
  one_put f old h =
      front f (all_entries (rows_from first cs) ++ es) (term_of s ∷ []) old s.counts.entries
      (omega (arith, length-append (all_entries (rows_from first cs)) es, all_row_entries first cs)) (omega arith)
      ∙ ap (λ (fs : List Entry). over (map f fs) old) (append_assoc (all_entries (rows_from first cs)) es (term_of s ∷ []))

  pub term_put :
      (old : Columns) → s.counts.entries < length old.weights → s.counts.entries < length old.literals →
      with_term s (over_all (so_far first cs es) old) ≡ over_all (so_far first cs (es ++ (term_of s ∷ []))) old
  term_put old hw hl =
      same_columns refl refl refl refl refl (one_put (λ (x : Entry). x.weight) old.weights hw) (one_put (λ (x : Entry). x.literal) old.literals hl)
