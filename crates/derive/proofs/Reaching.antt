-- The loop of propagate: at each turn the area is whole, and what is left of the table's run from the present rows comes to the table's
-- run from the first rows. As there are no more rows than atoms, at least one step is left.
use mathlib.Core.Path.{◌≡◌, refl, sym, ap, ◌∙◌, subst}
use mathlib.Core.List.{List, ◌∷◌}
use Prim.Native.Nat.{ℕ, suc, ◌+◌, ◌-◌, ◌≤◌}
use native.Mathlib.Omega.{arith}
use Rattle.types.specs.declared.Limits.{Limits}
use Rattle.numbers.specs.Words.{literal_of}
use Rattle.meaning.specs.Merge.{Rule}
use Rattle.book.specs.Rows.{Row, a_row, trail}
use Rattle.book.specs.Table.{done, Judged, Speech, first_to_speak, run, Outcome}
use Rattle.book.specs.Book.{judged_all, counters_with}
use Rattle.book.proofs.Keeps.{next}
use Rattle.area.specs.Layout.{atoms_of, sentences_of, level_of, rows_from, rows_of, theory_of}
use Rattle.calls.specs.Calls.{Moved}
use Rattle.whole.proofs.Join.{parts}
use Rattle.refresh.proofs.WholeNext.{RenewedWhole}
use Rattle.give.specs.Inner.Trail.{Advanceable, Advanced}
use Rattle.find.specs.declared.Found.{Found}
use Rattle.find.specs.declared.Found.TheVariants.{Nothing, Conflict, Forced}
use Rattle.find.specs.Inner.Find.{spoken_of, Searchable, FoundIs}
use Rattle.derive.specs.Inner.Stopped.{Stopped}
use Rattle.derive.specs.Inner.Settle.{Settleable, Settled}
use Rattle.give.proofs.Needs.{sentences_same}
use Rattle.give.proofs.Moves.{stays, moved_twice, moved_as}
use Rattle.give.proofs.Changes.{renewed_moved}
use Rattle.derive.proofs.Quiet.{settled_whole}
use Rattle.derive.proofs.Forcing.{mark, mark_reason, forced_advanceable, forced_sizes}

-- the level stays, the rows are those reached
abbrev along : List ℕ → List ℕ → Outcome
along w₀ w = record { answer = done; level = level_of w₀; rows = rows_of w }

-- from w₀ with a trail of len₀ rows, the loop has come to w with a trail of len rows
pub record Reached (lim : Limits) (w₀ w : List ℕ) (n S level len₀ len : ℕ) : Type 0 where
  pub searchable : Searchable lim w n S len level
  pub moved : Moved lim w₀ w (counters_with len level) (along w₀ w)
  pub steps : ℕ
  pub left : steps + len ≡ suc n + len₀
  pub run_same : run (judged_all (theory_of w₀)) level (suc (atoms_of w₀)) (rows_of w₀) ≡ run (judged_all (theory_of w₀)) level steps (rows_of w)

-- one step of the table's run, by what is said
run_next : (js : List Judged) (level steps : ℕ) (rs : List Row) (y : Speech) → first_to_speak 1 js (trail rs) ≡ y → run js level (suc steps) rs ≡ next js level steps rs y
unfolding run
run_next js level steps rs y e = ap (next js level steps rs) e

pub reached_first : {lim : Limits} {w : List ℕ} {n S level len : ℕ} → Searchable lim w n S len level → Reached lim w w n S level len len
reached_first {lim} {w} {n} {S} {level} {len} a = record {
  searchable = a;
  moved = stays lim w (counters_with len level) a.whole done;
  steps = suc n;
  left = refl;
  run_same = ap {A = ℕ} (λ k. run (judged_all (theory_of w)) level (suc k) (rows_of w)) a.atoms;
}

pub few_rows : {lim : Limits} {w : List ℕ} {n S len level : ℕ} → Searchable lim w n S len level → len ≤ n
few_rows {lim} {w} {n} {S} {len} {level} a = omega (arith, (parts lim w len level a.whole).header.few, a.atoms)

module _ {lim : Limits} {w₀ w : List ℕ} {n S level len₀ len : ℕ} (r : Reached lim w₀ w n S level len₀ len) where
  abbrev js : List Judged
  js = judged_all (theory_of w₀)

  few : len ≤ n
  few = few_rows r.searchable

  -- what is left, by what is found
  rest_of_run : {x y : Found} → FoundIs w n S x → x ≡ y → run js level (suc (atoms_of w₀)) (rows_of w₀) ≡ next js level (r.steps - 1) (rows_of w) (spoken_of y)
  rest_of_run {x} {y} f q =
      let e : r.steps ≡ suc (r.steps - 1) = omega (arith, r.left, few) in
      r.run_same
      ∙ ap {A = ℕ} (λ k. run js level k (rows_of w)) e
      ∙ run_next js level (r.steps - 1) (rows_of w) (spoken_of y)
      (ap {A = List Rule} (λ rs. first_to_speak 1 (judged_all rs) (trail (rows_of w))) (sym r.moved.theory) ∙ f.speech_is ∙ ap {A = Found} spoken_of q)

  -- ---- a literal put on

  module _ {x : Found} {s l p : ℕ} (f : FoundIs w n S x) (e : x ≡ Forced s l p) (w' : List ℕ)
      (advance : Advanceable lim w n S len level l (mark level s p) → Advanced lim w w' len level l (mark level s p)) where
    a : Advanced lim w w' len level l (mark level s p)
    a = advance (forced_advanceable r.searchable f e)

    put_rows : rows_of w' ≡ a_row (literal_of l) level (suc s) ∷ rows_of w
    put_rows =
        let z = forced_sizes r.searchable f e in
        a.rows ∙ ap {A = ℕ} (λ k. a_row (literal_of l) level k ∷ rows_of w) (mark_reason level s p z.level_is z.sentence)

    pub reached_next : Reached lim w₀ w' n S level len₀ (len + 1)
    reached_next = record {
      searchable = record {
        fitting = r.searchable.fitting;
        whole = a.whole;
        atoms = a.atoms ∙ r.searchable.atoms;
        sentences = sentences_same w w' a.atoms a.theory ∙ r.searchable.sentences;
      };
      moved = moved_as (moved_twice r.moved a) r.moved.level (sym a.rows);
      steps = r.steps - 1;
      left = omega (arith, r.left, few);
      run_same = rest_of_run f e ∙ ap {A = List Row} (run js level (r.steps - 1)) (sym put_rows);
    }

  -- ---- the ends

  pub reached_conflict : {x : Found} {s : ℕ} → FoundIs w n S x → x ≡ Conflict s → Stopped lim w₀ w level len (s + 1)
  reached_conflict {x} {s} f q = record {
    moved = r.moved;
    stop = rest_of_run f q ∙ (let e : suc s ≡ s + 1 = omega arith in ap (λ (k : ℕ). record { sentence = k; rows = rows_of w }) e);
  }

  pub settleable : Settleable w n S
  settleable =
      let a = r.searchable in
      let h = a.whole in
      record {
        atoms = omega (arith, h.theory.atoms_high, a.fitting.atoms, a.atoms);
        sentences = omega (arith, h.theory.sentences, a.fitting.sentences, a.sentences);
        records = omega (arith, h.enough, a.atoms, a.sentences);
      }

  module _ {x : Found} (f : FoundIs w n S x) (e : x ≡ Nothing) (w' : List ℕ) (done : Settled w w' n S) where
    settled : RenewedWhole lim w w w' len level
    settled =
        settled_whole lim w w' len level r.searchable.whole
        (subst (λ (m : ℕ). Settled w w' m (sentences_of w)) (sym r.searchable.atoms) (subst (λ (k : ℕ). Settled w w' n k) (sym r.searchable.sentences) done))
        (f.speech_is ∙ ap {A = Found} spoken_of e)

    pub reached_still : Stopped lim w₀ w' level len 0
    reached_still =
        let q = settled in
        record {
          moved = moved_twice r.moved (renewed_moved (along w₀ w') q (sym r.searchable.whole.level_is ∙ r.moved.level) (sym q.rows));
          stop =
              rest_of_run f e
              ∙ ap (λ (rs : List Row). record { sentence = 0; rows = rs }) (ap {A = ℕ} (rows_from w (atoms_of w)) r.searchable.whole.length_is ∙ sym q.rows);
        }
