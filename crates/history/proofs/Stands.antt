-- An area stands for a book: it is whole, with the book's atoms, merged sentences, level and rows, and these are such as calls leave.
-- Then the area that a call gets is whole just where the counters and the length pass the book's test, and there the table looks at one
-- state, the book's or the area's.
use mathlib.Core.Path.{◌≡◌, refl, sym, ap, ap₂, ◌∙◌, subst}
use mathlib.Core.Bool.{Bool, true, false, not, ◌&&◌}
use mathlib.Core.List.{List, ◌++◌, map}
use Prim.Native.Nat.{ℕ, ◌≤◌}
use native.Mathlib.Omega.{arith}
use borrow.Author.Tests.{eqb-true, eq-eqb, leb-true, le-leb}
use lib.ListN.{length}
use lib.Dec.{eqb, leb}
use Rattle.types.specs.declared.Limits.{Limits}
use Rattle.meaning.specs.Meaning.{Each}
use Rattle.meaning.specs.Merge.{Rule}
use Rattle.book.specs.Rows.{Row}
use Rattle.book.specs.Table.{Judged}
use Rattle.book.specs.Book.{WellFormed, computed, judged_all, rules_of, Book, Counters, need, fits, book_state}
use Rattle.book.specs.Sound.{SoundBook}
use Rattle.book.proofs.Judged.{computed_all}
use Rattle.book.proofs.Keeps.{state_at}
use Rattle.area.specs.Layout.{atoms_of, level_of, rows_of, theory_of, need_of}
use Rattle.area.specs.Whole.{Whole}
use Rattle.whole.specs.Same.{ReadAlike}
use Rattle.whole.proofs.Need.{cut_whole, cut_alike, grown_whole, grown_alike}
use Rattle.calls.specs.Calls.{area_state}
use Rattle.give.proofs.Moves.{rows_count}
use Rattle.history.proofs.Sentences.{need_is}

first_passes : (a b : Bool) → (a && b) ≡ true → a ≡ true
first_passes true b e = refl
first_passes false b e = e

second_passes : (a b : Bool) → (a && b) ≡ true → b ≡ true
second_passes true b e = e
second_passes false b e = cc

pub record Stands (lim : Limits) (b : Book) (w : List ℕ) (c : Counters) : Type 0 where
  pub whole : Whole lim w c
  pub atoms : atoms_of w ≡ b.atoms
  pub theory : theory_of w ≡ rules_of b.sentences
  pub level : level_of w ≡ b.level
  pub rows : rows_of w ≡ b.rows
  pub well : Each (WellFormed b.atoms) b.sentences
  pub sound : SoundBook b

module _ (lim : Limits) (b : Book) where
  module _ (w : List ℕ) (c : Counters) (s : Stands lim b w c) where
    pub needed : need_of w ≡ need b.atoms b.sentences
    needed = need_is w b s.atoms s.theory

    pub whole_fits : (size : ℕ) (d : Counters) → Whole lim w d → need_of w ≤ size → fits b size d ≡ true
    whole_fits size d h l =
        let x = eq-eqb d.length_is (length b.rows) (sym (rows_count lim w d h) ∙ ap {A = List Row} length s.rows) in
        let y = eq-eqb d.level_is b.level (sym h.level_is ∙ s.level) in
        rw (x, y, le-leb (need b.atoms b.sentences) size (omega (arith, needed, l)))

    pub fits_whole : (size : ℕ) (d : Counters) → fits b size d ≡ true → Whole lim w d × (need_of w ≤ size)
    fits_whole size d e =
        let x = eqb d.length_is (length b.rows) in
        let y = eqb d.level_is b.level in
        let f = first_passes (x && y) (leb (need b.atoms b.sentences) size) e in
        let i : c.length_is ≡ d.length_is =
        sym (eqb-true d.length_is (length b.rows) (first_passes x y f) ∙ sym (ap {A = List Row} length s.rows) ∙ rows_count lim w c s.whole) in
        let j : c.level_is ≡ d.level_is = sym (eqb-true d.level_is b.level (second_passes x y f) ∙ sym s.level ∙ s.whole.level_is) in (
          subst (Whole lim w) (ap₂ {A = ℕ} {B = ℕ} {C = Counters} (λ k v. record { length_is = k; level_is = v }) i j) s.whole,
          omega (arith, needed, leb-true (need b.atoms b.sentences) size (second_passes (x && y) (leb (need b.atoms b.sentences) size) e)),
        )

    -- the state that the table looks at
    pub state_is : (size : ℕ) (d : Counters) → fits b size d ≡ true → area_state lim w ≡ book_state lim computed b size d
    state_is size d e =
        let js = ap {A = List Rule} judged_all s.theory ∙ computed_all b.sentences in
        ap₂ {A = ℕ} {B = List Judged} (λ k x. state_at false k lim.levels x (level_of w) (rows_of w)) s.atoms js
        ∙ ap₂ {A = ℕ} {B = List Row} (state_at false b.atoms lim.levels (map computed b.sentences)) s.level s.rows
        ∙ ap {A = Bool} (λ x. state_at (not x) b.atoms lim.levels (map computed b.sentences) b.level b.rows) (sym e)

  -- ---- an area cut at its end, not below its need, stands for the book as before

  stands_alike : (w w' : List ℕ) (c : Counters) → Stands lim b w c → Whole lim w' c → ReadAlike w w' → Stands lim b w' c
  stands_alike w w' c s h a = record {
    whole = h;
    atoms = a.atoms ∙ s.atoms;
    theory = a.theory ∙ s.theory;
    level = a.level ∙ s.level;
    rows = a.rows ∙ s.rows;
    well = s.well;
    sound = s.sound;
  }

  -- longer by words behind it, or cut
  pub stands_grown : (part rest : List ℕ) (c : Counters) → Stands lim b part c → Stands lim b (part ++ rest) c
  stands_grown part rest c s = stands_alike part (part ++ rest) c s (grown_whole lim part rest c s.whole) (grown_alike lim part rest c s.whole)

  pub stands_cut : (part rest : List ℕ) (c : Counters) → Stands lim b (part ++ rest) c → need_of (part ++ rest) ≤ length part → Stands lim b part c
  stands_cut part rest c s room = stands_alike (part ++ rest) part c s (cut_whole lim part rest c s.whole room) (cut_alike lim part rest c s.whole room)
