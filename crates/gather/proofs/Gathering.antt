-- One written entry more: its literal is noted; a member's turned entry is put, and what it frees goes to the constant. So the words hold the
-- merge of the entries taken so far, since each part of the merge takes a last entry at its end.
use mathlib.Core.Path.{◌≡◌, refl, sym, ap, ◌∙◌}
use mathlib.Core.Bool.{Bool, true, false, cond, ◌||◌}
use mathlib.Core.List.{List, [], ◌∷◌, ◌++◌}
use Prim.Native.Nat.{ℕ, ◌+◌, ◌-◌, ◌*◌, ◌≤◌, ◌<◌}
use native.Mathlib.Omega.{arith}
use lib.IntN.{ℤ, nat_abs, ◌+ℤ◌}
use lib.ListN.{length, get_or, set, length-set, length-append}
use lib.Seq.{get_or-set_same, get_or-set_other}
use lib.Dec.{T}
use Rattle.numbers.specs.Words.{half, unbias, literal_word, literal_of}
use Rattle.numbers.proofs.Integers.{sum_size, size_parts}
use Rattle.numbers.proofs.Words.{unbias_parts, unbias_sum, literal_of_word, literal_word_of}
use Rattle.meaning.specs.Meaning.{atom, Entry, Kind, same, members, mixes, Each}
use Rattle.meaning.specs.Merge.{turned, constant, put, collect}
use Rattle.meaning.proofs.Gather.{each_map}
use Rattle.meaning.proofs.Members.{same→eq, eq→same}
use Rattle.meaning.proofs.Orders.{is_true, is_false}
use Rattle.meaning.proofs.Trails.{atom_half}
use Rattle.kinds.proofs.Weights.{fits_size}
use Rattle.area.specs.Layout.{entry_of}
use Rattle.columns.proofs.MergedSizes.{put_size}
use Rattle.entry_words.specs.declared.Turned.{Turned}
use Rattle.entry_words.specs.Inner.Entries.{positive, freed, TurnedIs}
use Rattle.gather.specs.Inner.Gather.{first_entries, PutReady, PutInto, mentioned, Seen, taken, Gathered, Takeable}
use Rattle.gather.proofs.Prefix.{collect_next, turned_next, constant_next, mentioned_next, members_next}
use Rattle.entry_words.proofs.Joining.{joined_sum}
use Rattle.gather.proofs.Bounds.{turn_size, freed_size, all_joinable}
use Rattle.gather.proofs.Putting.{either}

-- ---- the table of literals

or_true : (b : Bool) → true ≡ (b || true)
or_true b = elim b as (λ b. true ≡ b || true) [ true ↦ refl | false ↦ refl ]

or_false : (b : Bool) → b ≡ (b || false)
or_false b = elim b as (λ b. b ≡ b || false) [ true ↦ refl | false ↦ refl ]

pub seen_next : (seen : List Bool) (es : List Entry) (x l : ℕ) → Seen seen es → 2 ≤ l → l ≤ 8193 → Seen (set seen l true) (es ++ (entry_of x l ∷ []))
seen_next seen es x l s low high = record { size = length-set seen l true ∙ s.size; each = at }
  where
    at : (m : ℤ) → atom m ≤ 4096 → get_or (set seen l true) (literal_word m) false ≡ mentioned m (es ++ (entry_of x l ∷ []))
    at m h = either (get_or (set seen l true) (literal_word m) false ≡ mentioned m (es ++ (entry_of x l ∷ []))) m (literal_of l) (λ (e : m ≡ literal_of l).
        let w : literal_word m ≡ l = ap literal_word e ∙ literal_word_of l low in
        let b : same (literal_of l) m ≡ true = is_true (eq→same (literal_of l) m (sym e)) in
        ap (λ i. get_or (set seen l true) i false) w ∙ get_or-set_same seen l true false (let z = s.size in omega arith)
        ∙ or_true (mentioned m es) ∙ sym (mentioned_next m es (entry_of x l) ∙ ap (λ b. mentioned m es || b) b)) (λ (d : m ≡ literal_of l → ⊥).
        let b : same (literal_of l) m ≡ false = is_false (λ t. d (sym (same→eq (literal_of l) m t))) in
        get_or-set_other seen l (literal_word m) true false (λ e. d (sym (literal_of_word m) ∙ ap literal_of e))
        ∙ s.each m h ∙ or_false (mentioned m es) ∙ sym (mentioned_next m es (entry_of x l) ∙ ap (λ b. mentioned m es || b) b))

-- ---- one entry

module _ {kind : Kind} {es : List Entry} {part table : List ℕ} {seen : List Bool} {n c x l : ℕ} (g : Gathered kind es part table seen n c) (t : Takeable kind es x l (length part)) where
  noted : get_or seen l false ≡ mentioned (literal_of l) es
  noted = ap (λ i. get_or seen i false) (sym (literal_word_of l t.low)) ∙ g.seen_is.each (literal_of l) (let h = t.high in omega (arith, atom_half l))

  members_by : (b : Bool) → taken kind (get_or seen l false) ≡ b
      → members kind (es ++ (entry_of x l ∷ [])) ≡ cond b (members kind es ++ (entry_of x l ∷ [])) (members kind es)
  members_by b e = members_next kind es (entry_of x l) t.fits
      ∙ ap (λ b. cond b (members kind es ++ (entry_of x l ∷ [])) (members kind es)) (ap (taken kind) (sym noted) ∙ e)

  one_longer : length (es ++ (entry_of x l ∷ [])) ≡ length es + 1
  one_longer = length-append es (entry_of x l ∷ [])

  weight_small : nat_abs (unbias x) ≤ 1000000000
  weight_small = fits_size kind (unbias x) t.fits

  pub weight_top : x ≤ 9223372036854775808
  weight_top = omega (arith, weight_small, unbias_parts x, size_parts (unbias x))

  pub left_out : taken kind (get_or seen l false) ≡ false → Gathered kind (es ++ (entry_of x l ∷ [])) part table (set seen l true) n c
  left_out e = record {
    collected = record {
      entries = g.collected.entries ∙ ap (λ ms. collect kind [] (turned kind ms)) (sym (members_by false e));
      literals = g.collected.literals;
      few = let f = g.collected.few in omega (arith, one_longer);
      constant_is = g.collected.constant_is ∙ ap (constant kind) (sym (members_by false e));
    };
    small = λ m. each_map (λ e. nat_abs e.weight ≤ 1000000000 * length es) (λ e. nat_abs e.weight ≤ 1000000000 * length
        (es ++ (entry_of x l ∷ []))) (first_entries part n) (λ y h. omega (arith, one_longer)) (g.small m);
    places = g.places;
    seen_is = seen_next seen es x l g.seen_is t.low t.high;
    near = let h = g.near in omega (arith, one_longer);
  }

  module _ {r : Turned} (is : TurnedIs kind x l r) where
    turned_weight : unbias r.weight ≡ (positive kind (entry_of x l)).weight
    turned_weight = ap (λ e. e.weight) is.entry

    freed_small : nat_abs (unbias r.freed) ≤ 1000000000
    freed_small = omega (arith, weight_small, ap nat_abs is.freed_is, freed_size kind (entry_of x l))

    pub constant_low : half ≤ c + r.freed
    constant_low = let h = g.near in let f = t.few in omega (arith, freed_small, unbias_parts c, unbias_parts r.freed, size_parts (unbias c), size_parts (unbias r.freed))

    pub constant_high : c + r.freed < 18446744073709551616
    constant_high = let h = g.near in let f = t.few in omega (arith, freed_small, unbias_parts c, unbias_parts r.freed, size_parts (unbias c), size_parts (unbias r.freed))

    pub puttable : PutReady part table n kind r.weight r.literal
    puttable = record {
      room = let f = g.collected.few in let h = t.room in omega arith;
      few = let f = g.collected.few in let h = t.few in omega arith;
      low = is.low;
      high = is.high;
      places = g.places;
      joinable = rw turned_weight (all_joinable kind es (entry_of x l) (first_entries part n) g.collected.entries
          (let f = t.few in omega arith) g.small t.fit t.fits t.product);
    }

    module _ {part' table' : List ℕ} {n' : ℕ} (p : PutInto part part' table' n kind r.weight r.literal n') (e : taken kind (get_or seen l false) ≡ true) where
      put_is : first_entries part' n' ≡ put kind (first_entries part n) (positive kind (entry_of x l))
      put_is = p.entries ∙ ap (put kind (first_entries part n)) is.entry

      entries_are : first_entries part' n' ≡ collect kind [] (turned kind (members kind (es ++ (entry_of x l ∷ []))))
      entries_are = put_is ∙ ap (λ xs. put kind xs (positive kind (entry_of x l))) g.collected.entries
          ∙ sym (collect_next kind [] (turned kind (members kind es)) (positive kind (entry_of x l)))
          ∙ ap (collect kind []) (sym (turned_next kind (members kind es) (entry_of x l)))
          ∙ ap (λ ms. collect kind [] (turned kind ms)) (sym (members_by true e))

      all_small : T (mixes kind) → Each (λ e. nat_abs e.weight ≤ 1000000000 * length (es ++ (entry_of x l ∷ []))) (first_entries part' n')
      all_small m = rw put_is
          (each_map (λ e. nat_abs e.weight ≤ 1000000000 * length es + 1000000000) (λ e. nat_abs e.weight ≤ 1000000000 * length (es ++ (entry_of x l ∷ [])))
          (put kind (first_entries part n) (positive kind (entry_of x l))) (λ y h. omega (arith, one_longer))
          (put_size kind (λ v w. joined_sum kind v w m) (1000000000 * length es) 1000000000 (first_entries part n) (positive kind (entry_of x l)) (g.small m)
          (omega (arith, weight_small, turn_size kind (entry_of x l)))))

      new_constant : unbias (c + r.freed - half) ≡ unbias c +ℤ unbias r.freed
      new_constant = unbias_sum c r.freed constant_low

      pub taken_in : Gathered kind (es ++ (entry_of x l ∷ [])) part' table' (set seen l true) n' (c + r.freed - half)
      taken_in = record {
        collected = record {
          entries = entries_are;
          literals = p.literals g.collected.literals;
          few = let f = g.collected.few in let q = p.most in omega (arith, one_longer);
          constant_is =
              new_constant ∙ ap (λ v. v +ℤ unbias r.freed) g.collected.constant_is ∙ ap (λ v. constant kind (members kind es) +ℤ v) is.freed_is
              ∙ sym (constant_next kind (members kind es) (entry_of x l)) ∙ ap (constant kind) (sym (members_by true e));
        };
        small = all_small;
        places = p.places;
        seen_is = seen_next seen es x l g.seen_is t.low t.high;
        near = let h = g.near in omega (arith, one_longer, ap nat_abs new_constant, sum_size (unbias c) (unbias r.freed), freed_small);
      }
