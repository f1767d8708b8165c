-- How many sentences and entries constraints make, and that the rows made of them have as many.
use mathlib.Core.Path.{◌≡◌, refl, sym, ap, ◌∙◌}
use mathlib.Core.Bool.{Bool, true, false, cond}
use mathlib.Core.List.{List, [], ◌∷◌, ◌++◌, append-nil, append_assoc}
use Prim.Native.Nat.{ℕ, suc, ◌+◌, ◌≤◌}
use native.Mathlib.Omega.{arith}
use lib.ListN.{length, length-append}
use Rattle.columns.specs.Columns.{Written}
use Rattle.opb_text.specs.Text.{Constraint, rows_of, rows_from, all_entries}

-- `=` makes two sentences, and has its terms twice
abbrev pub made : Bool → ℕ
made equal = cond equal 2 1

abbrev pub again : Bool → ℕ → ℕ
again equal n = cond equal n 0

unfoldable pub sentences_of : List Constraint → ℕ
sentences_of [] = 0
sentences_of (c ∷ cs) = made c.equal + sentences_of cs

unfoldable pub entries_of : List Constraint → ℕ
entries_of [] = 0
entries_of (c ∷ cs) = length c.terms + again c.equal (length c.terms) + entries_of cs

some_made : (equal : Bool) → 1 ≤ made equal
some_made true = omega arith
some_made false = omega arith

pub constraints_few : (cs : List Constraint) → length cs ≤ sentences_of cs
unfolding sentences_of
constraints_few [] = omega arith
constraints_few (c ∷ cs) = omega (arith, constraints_few cs, some_made c.equal)

-- ---- one constraint more

pub sentences_more : (cs : List Constraint) (c : Constraint) → sentences_of (cs ++ (c ∷ [])) ≡ sentences_of cs + made c.equal
unfolding sentences_of
sentences_more [] c = omega arith
sentences_more (x ∷ cs) c = omega (arith, sentences_more cs c)

pub entries_more :
    (cs : List Constraint) (c : Constraint) → entries_of (cs ++ (c ∷ [])) ≡ entries_of cs + length c.terms + again c.equal (length c.terms)
unfolding entries_of
entries_more [] c = omega arith
entries_more (x ∷ cs) c = omega (arith, entries_more cs c)

-- ---- the rows

pub rows_length : (h : ℕ) (c : Constraint) (e : Bool) → c.equal ≡ e → length (rows_of h c) ≡ made c.equal
rows_length h c true q = rw q
rows_length h c false q = rw q

pub all_rows : (h : ℕ) (cs : List Constraint) → length (rows_from h cs) ≡ sentences_of cs
unfolding rows_from sentences_of
all_rows h [] = refl
all_rows h (c ∷ cs) = length-append (rows_of h c) (rows_from (suc h) cs) ∙ omega (arith, rows_length h c c.equal refl, all_rows (suc h) cs)

pub entries_append : (xs ys : List Written) → all_entries (xs ++ ys) ≡ all_entries xs ++ all_entries ys
unfolding all_entries
entries_append [] ys = refl
entries_append (x ∷ xs) ys = ap (λ es. x.entries ++ es) (entries_append xs ys) ∙ sym (append_assoc x.entries (all_entries xs) (all_entries ys))

row_entries : (h : ℕ) (c : Constraint) (e : Bool) → c.equal ≡ e → length (all_entries (rows_of h c)) ≡ length c.terms + again c.equal (length c.terms)
unfolding all_entries
row_entries h c true q = rw q (length-append c.terms (c.terms ++ []) ∙ omega (arith, length-append c.terms []))
row_entries h c false q = rw q (length-append c.terms [])

pub all_row_entries : (h : ℕ) (cs : List Constraint) → length (all_entries (rows_from h cs)) ≡ entries_of cs
unfolding rows_from entries_of all_entries
all_row_entries h [] = refl
all_row_entries h (c ∷ cs) =
    ap length (entries_append (rows_of h c) (rows_from (suc h) cs))
    ∙ length-append (all_entries (rows_of h c)) (all_entries (rows_from (suc h) cs))
    ∙ omega (arith, row_entries h c c.equal refl, all_row_entries (suc h) cs)

pub rows_more : (h : ℕ) (cs : List Constraint) (c : Constraint) → rows_from h (cs ++ (c ∷ [])) ≡ rows_from h cs ++ rows_of (h + length cs) c
unfolding rows_from
rows_more h [] c = append-nil (rows_of h c) ∙ ap (λ (n : ℕ). rows_of n c) (omega arith)
rows_more h (x ∷ cs) c =
    let e : suc h + length cs ≡ h + suc (length cs) = omega arith in
    ap (λ xs. rows_of h x ++ xs) (rows_more (suc h) cs c ∙ ap (λ (n : ℕ). rows_from (suc h) cs ++ rows_of n c) e)
    ∙ sym (append_assoc (rows_of h x) (rows_from (suc h) cs) (rows_of (h + suc (length cs)) c))
