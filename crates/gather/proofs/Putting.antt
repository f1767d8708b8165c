-- One entry more in the part and in the table: the table's word at the literal is the slot of the literal, so that 0 says that the entry
-- goes behind all others, and i + 1 that entry i has the literal and is joined. No other literal's slot changes.
use mathlib.Core.Path.{◌≡◌, refl, sym, ap, ◌∙◌, subst}
use mathlib.Core.Bool.{true, false}
use mathlib.Core.List.{List, [], ◌∷◌}
use mathlib.Core.Logic.{⊎_elim}
use Prim.Native.Nat.{ℕ, zero, suc, ◌+◌, ◌-◌, ◌*◌, ◌≤◌, ◌<◌}
use native.Mathlib.Omega.{arith}
use native.Mathlib.Numerals.{add-one}
use native.Mathlib.Nat.{eq-or-lt_of_le}
use lib.IntN.{ℤ}
use lib.ListN.{length, get_or, set, length-set}
use lib.Seq.{get_or-set_same, get_or-set_other}
use lib.Dec.{T}
use Rattle.numbers.specs.Words.{unbias, literal_word, literal_of}
use Rattle.numbers.proofs.Words.{literal_of_word, literal_word_of}
use Rattle.meaning.specs.Meaning.{Kind, atom, Entry, same, Each}
use Rattle.meaning.specs.Merge.{joined, put}
use Rattle.meaning.proofs.Members.{same→eq, eq→same, join}
use Rattle.meaning.proofs.Trails.{atom_half}
use Rattle.area.specs.Layout.{word, entry_of}
use Rattle.entry_words.specs.Inner.Entries.{Joinable}
use Rattle.gather.specs.Inner.Gather.{first_entries, slot, Places, PutReady, Literals, PutInto}
use Rattle.gather.proofs.Slots.{put_new, Found, put_old, slot_other, slot_new, slot_old}
use Rattle.gather.proofs.Held.{entries_length, entries_at, entries_set, entries_added}

-- one literal or another
pub either : (P : Type 0) (l m : ℤ) → (l ≡ m → P) → ((l ≡ m → ⊥) → P) → P
either P l m here other =
    elim (same l m) as (λ b. (T b → l ≡ m) → (l ≡ m → T b) → P) [ true ↦ λ f g. here (f tt) | false ↦ λ f g. other g ] (same→eq l m) (eq→same l m)

pub each_at : {A : Type 0} (P : A → Type 0) (xs : List A) (i : ℕ) (d : A) → i < length xs → Each P xs → P (get_or xs i d)
each_at P [] i d h e = absurd (omega arith)
each_at P (x ∷ xs) zero d h e = e.0
each_at P (x ∷ xs) (suc i) d h e = each_at P xs i d (omega arith) e.1

pub one_less : (q : ℕ) → (q ≡ 0 → ⊥) → q ≡ suc (q - 1)
one_less zero h = absurd (h refl)
one_less (suc q) h = omega arith

module _ {part table : List ℕ} {n : ℕ} {kind : Kind} {x l : ℕ} (p : PutReady part table n kind x l) where
  atom_most : atom (literal_of l) ≤ 4096
  atom_most = omega (arith, atom_half l)

  literal_back : literal_word (literal_of l) ≡ l
  literal_back = literal_word_of l p.low

  held_length : length (first_entries part n) ≡ n
  held_length = entries_length part n (let r = p.room in omega arith)

  pub table_slot : get_or table l 0 ≡ slot (first_entries part n) (literal_of l)
  table_slot = ap (λ i. get_or table i 0) (sym literal_back) ∙ p.places.each (literal_of l) atom_most

  abbrev all : List Entry
  all = put kind (first_entries part n) (entry_of x l)

  -- a table that has l's slot, and its words for the other literals as they were
  places_after : (next : List ℕ) → length next ≡ 8194 → get_or next l 0 ≡ slot all (literal_of l) → ((i : ℕ) → (i ≡ l → ⊥) → get_or next i 0 ≡ get_or table i 0) → Places next all
  places_after next size here other = record { size = size; each = at }
    where
      at : (m : ℤ) → atom m ≤ 4096 → get_or next (literal_word m) 0 ≡ slot all m
      at m h =
          either (get_or next (literal_word m) 0 ≡ slot all m) m (literal_of l)
          (λ (e : m ≡ literal_of l). ap (λ z. get_or next (literal_word z) 0) e ∙ ap (λ i. get_or next i 0) literal_back ∙ here ∙ ap (slot all) (sym e))
          (λ (d : m ≡ literal_of l → ⊥). other (literal_word m) (λ e. d (sym (literal_of_word m) ∙ ap literal_of e)) ∙ p.places.each m h
          ∙ sym (slot_other kind (first_entries part n) (entry_of x l) m (λ e. d (sym e))))

  -- ---- a new literal

  module _ (new : get_or table l 0 ≡ 0) where
    no_slot : slot (first_entries part n) (literal_of l) ≡ 0
    no_slot = sym table_slot ∙ new

    new_entries : first_entries (set (set part (2 * n) x) (2 * n + 1) l) (n + 1) ≡ put kind (first_entries part n) (entry_of x l)
    new_entries = ap (first_entries (set (set part (2 * n) x) (2 * n + 1) l)) (add-one n) ∙ entries_added part n x l p.room
        ∙ sym (put_new kind (first_entries part n) (entry_of x l) no_slot)

    new_places : Places (set table l (n + 1)) all
    new_places =
        places_after (set table l (n + 1)) (length-set table l (n + 1) ∙ p.places.size)
        (get_or-set_same table l (n + 1) 0 (let s = p.places.size in let q = p.high in omega arith) ∙ add-one n ∙ ap suc (sym held_length)
        ∙ sym (slot_new kind (first_entries part n) (entry_of x l) no_slot))
        (λ i d. get_or-set_other table l i (n + 1) 0 d)

    new_literals : Literals part n → Literals (set (set part (2 * n) x) (2 * n + 1) l) (n + 1)
    new_literals h i g = ⊎_elim {A = i ≡ n} {B = i < n}
        (λ (e : i ≡ n). let w : word (set (set part (2 * n) x) (2 * n + 1) l) (2 * n + 1) ≡ l = get_or-set_same (set part (2 * n) x) (2 * n + 1) l 0
        (let r = p.room in omega (arith, length-set part (2 * n) x)) in
        rw (e, w) p.low) (λ (q : i < n). let w : word (set (set part (2 * n) x) (2 * n + 1) l) (2 * i + 1) ≡ word part (2 * i + 1) =
        get_or-set_other (set part (2 * n) x) (2 * n + 1) (2 * i + 1) l 0 (λ z. omega arith) ∙ get_or-set_other part (2 * n) (2 * i + 1) x 0 (λ z. omega arith) in
        rw w (h i q)) (eq-or-lt_of_le (omega arith))

    pub put_behind : PutInto part (set (set part (2 * n) x) (2 * n + 1) l) (set table l (n + 1)) n kind x l (n + 1)
    put_behind = record { entries = new_entries; places = rw new_entries new_places; literals = new_literals; most = omega arith }

  -- ---- a literal that has an entry

  module _ (i : ℕ) (old : get_or table l 0 ≡ suc i) where
    found : Found kind (first_entries part n) (entry_of x l) (entry_of 0 0) i
    found = put_old kind (first_entries part n) (entry_of x l) (entry_of 0 0) i (sym table_slot ∙ old)

    pub old_few : i < n
    old_few = omega (arith, found.low, held_length)

    there : get_or (first_entries part n) i (entry_of 0 0) ≡ entry_of (word part (2 * i)) (word part (2 * i + 1))
    there = entries_at part n i (entry_of 0 0) old_few (let r = p.room in omega arith)

    pub old_joinable : Joinable kind (unbias (word part (2 * i))) (unbias x)
    old_joinable = subst (λ (e : Entry). Joinable kind e.weight (unbias x)) there
        (each_at (λ e. Joinable kind e.weight (unbias x)) (first_entries part n) i (entry_of 0 0) found.low p.joinable)

    module _ (z : ℕ) (is : unbias z ≡ joined kind (unbias (word part (2 * i))) (unbias x)) where
      old_entries : first_entries (set part (2 * i) z) n ≡ put kind (first_entries part n) (entry_of x l)
      old_entries = entries_set part n i z old_few (let r = p.room in omega arith)
          ∙ ap (λ w. set (first_entries part n) i (record { weight = w; literal = literal_of (word part (2 * i + 1)) })) is
          ∙ ap (λ y. set (first_entries part n) i (join kind y (entry_of x l))) (sym there) ∙ sym found.put_is

      old_places : Places table all
      old_places =
          places_after table p.places.size (old ∙ sym (slot_old kind (first_entries part n) (entry_of x l) i (sym table_slot ∙ old))) (λ j d. refl)

      old_literals : Literals part n → Literals (set part (2 * i) z) n
      old_literals h j g = let w : word (set part (2 * i) z) (2 * j + 1) ≡ word part (2 * j + 1) = get_or-set_other part (2 * i) (2 * j + 1) z 0 (λ q. omega arith) in rw w (h j g)

      pub put_onto : PutInto part (set part (2 * i) z) table n kind x l n
      put_onto = record { entries = old_entries; places = rw old_entries old_places; literals = old_literals; most = omega arith }
