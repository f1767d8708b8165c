-- Calls on concrete words: what a contract asks, from facts that compute; and a list of calls, call by call.
use mathlib.Core.Path.{◌≡◌, refl, sym, ap, ◌∙◌}
use mathlib.Core.Bool.{not}
use mathlib.Core.List.{List, [], ◌∷◌, ◌++◌, append-nil}
use Prim.Native.Nat.{ℕ}
use lib.ListN.{length, take, drop, take-append-drop}
use lib.IntN.{ℤ}
use lib.Dec.{T}
use Rattle.types.specs.Limits.{document}
use Rattle.types.specs.declared.Counters as t
use Rattle.meaning.specs.Merge.{Rule}
use Rattle.book.specs.Rows.{Row}
use Rattle.book.specs.Table.{Step, Report, a_step, a_report, refused, Returned, returned_by, list_after, Outcome, reply}
use Rattle.book.specs.Book.{Counters}
use Rattle.area.specs.Layout.{atoms_of, level_of, rows_of, theory_of, need_of}
use Rattle.area.specs.Whole.{Whole}
use Rattle.calls.specs.Calls.{area_state, unmoved, Acts, Reports}
use Rattle.calls.proofs.Acting.{answered_nine, answered_whole, acts_broken, acts_kept, acts_moved}
use Rattle.history.specs.History.{Event, Called, Calls, next}
use Rattle.history_examples.specs.Examples.{counters_at}
use Rattle.history_examples.proofs.Decide.{whole_test, decided}

-- what is read off the words after a call that is not refused, and what it must be
pub record ReadOff : Type 0 where
  pub atoms : ℕ
  pub theory : List Rule
  pub level : ℕ
  pub rows : List Row
  pub size : ℕ
  pub rest : List ℕ

abbrev pub words_show : (w w' : List ℕ) → ReadOff
words_show w w' = record { atoms = atoms_of w'; theory = theory_of w'; level = level_of w'; rows = rows_of w'; size = length w'; rest = drop (need_of w) w' }

abbrev pub must_show : List ℕ → Outcome → ReadOff
must_show w o = record { atoms = atoms_of w; theory = theory_of w; level = o.level; rows = o.rows; size = length w; rest = drop (need_of w) w }

-- ---- contracts

module _ {w : List ℕ} {c : Counters} {x : Step} {p : Returned} where
  -- not refused: the words w' and counters c'
  pub moving : {w' : List ℕ} {c' : Counters} → T (whole_test document w c) → p ≡ returned_by (reply (area_state document w) (a_step x)).answer
      → T (not (unmoved (area_state document w) x)) → T (whole_test document w' c') → words_show w w' ≡ must_show w (reply (area_state document w) (a_step x))
      → Acts document w w' c c' x p
  moving {w'} {c'} h e k h' l = acts_moved document w c x p w' c' (decided document w c h) k e (record {
    whole = decided document w' c' h';
    atoms = ap (λ z. z.atoms) l;
    theory = ap (λ z. z.theory) l;
    level = ap (λ z. z.level) l;
    rows = ap (λ z. z.rows) l;
    size = ap (λ z. z.size) l;
    rest = ap (λ z. z.rest) l;
  })

  -- refused by the table, or with nothing to do
  pub keeping : T (whole_test document w c) → p ≡ returned_by (reply (area_state document w) (a_step x)).answer → T (unmoved (area_state document w) x) → Acts document w w c c x p
  keeping h e k = acts_kept document w c x p (decided document w c h) k e

  -- on words that are not whole
  pub refusing : ¬ (Whole document w c) → p ≡ returned_by (refused 9 0) → Acts document w w c c x p
  refusing n e = acts_broken document w c x p n e

module _ {w : List ℕ} {c : Counters} {x : Report} {p : Returned} {old : List ℤ} where
  pub listing : {new : List ℤ} → T (whole_test document w c) → p ≡ returned_by (reply (area_state document w) (a_report x (length old))).answer
      → new ≡ list_after (reply (area_state document w) (a_report x (length old))).answer old → Reports document w c x old new p
  listing h e l =
      let v = decided document w c h in
      record { answer = answered_whole document w c (a_report x (length old)) p v e; broken = λ n. absurd (n v); written = λ _. l }

  pub refusing_list : ¬ (Whole document w c) → p ≡ returned_by (refused 9 0) → Reports document w c x old old p
  refusing_list n e = record { answer = answered_nine document w c (a_report x (length old)) p n e; broken = λ _. refl; written = λ h. absurd (n h) }

-- ---- lists of calls

module _ {w w₂ : List ℕ} {c c₁ c₂ : t.Counters} {e : Event} {es : List Event} {len level : ℕ} where
  -- a call on all words, which leaves w₁
  pub then : (w₁ : List ℕ) → Called document w c (counters_at len level) w₁ e c₁ → Calls document w₁ c₁ es w₂ c₂ → Calls document w c (e ∷ es) w₂ c₂
  then w₁ s later = next w w₁ [] (sym (append-nil w)) s (sym (append-nil w₁)) later

  -- a call on the first k words, which leaves those of w₁; the others are as they were
  pub then_cut : (k : ℕ) (w₁ : List ℕ) → drop k w₁ ≡ drop k w → Called document (take k w) c (counters_at len level) (take k w₁) e c₁ → Calls document w₁ c₁ es w₂ c₂
      → Calls document w c (e ∷ es) w₂ c₂
  then_cut k w₁ same s later =
      next (take k w) (take k w₁) (drop k w) (sym (take-append-drop k w)) s (sym (take-append-drop k w₁) ∙ ap (λ v. take k w₁ ++ v) same) later
