-- M11 and M12 as lists of calls from an accepted load: each call's contract holds, since its facts compute on the words. So lists of
-- calls with refusals among them exist, and the claim about every list of calls speaks of them.
use mathlib.Core.Path.{◌≡◌, refl, sym, ◌∙◌, ap, subst}
use mathlib.Core.List.{List, [], ◌∷◌, ◌++◌}
use Prim.Native.Nat.{ℕ, ◌+◌}
use lib.ListN.{length, drop, length-append}
use lib.Seq.{drop-append_seam}
use Rattle.types.specs.Limits.{document}
use Rattle.decide.specs.Below.{sum_first}
use Rattle.numbers.specs.Words.{unbias, literal_of}
use Rattle.meaning.specs.Examples.{m4}
use Rattle.meaning.specs.Merge.{turned_all, freed_all, put, collect, nonzero}
use Rattle.meaning.specs.Computed.{gather, standing_of, extreme, first_due, first_said}
use Rattle.book.specs.Rows.{up_to, pick, causes, row_of, numbered, any, comes_from, in_order, flat}
use Rattle.book.specs.Table.{first_to_speak, run, trying, reply}
use Rattle.book.specs.Examples.{ring}
use Rattle.area.specs.Layout.{rows_from, value_word, entries_of, rules_from, entries_before}
use Rattle.whole.specs.Parts.{counters_with}
use Rattle.columns.specs.Columns.{Columns, paired, written_from, sentences_in}
use Rattle.columns.specs.Refusals.{some_entry, both_signs, all_refusals, first_refusal, load_answer}
use Rattle.load.specs.Load.{Loaded, Loads}
use Rattle.load.specs.Examples.{given}
use Rattle.history.specs.History.{by_step, by_report, Calls, none}
use Rattle.history_examples.specs.Examples.{counters_at, sevens, spare, load_done, FromLoad, events, m11_loaded, m11_one, m11_two, m11_opened, m11_derived, m11_against, m11_again, m11_turns, ring_columns, m12_loaded, m12_searched, m12_given, m12_derived, m12_turns}
use Rattle.history_examples.proofs.Decide.{decided, miscounted, cut_short}
use Rattle.history_examples.proofs.Steps.{moving, keeping, refusing, listing, refusing_list, then, then_cut}

-- ---- an accepted load

accepting : {w₀ w : List ℕ} {n : ℕ} {cs : Columns} (size : ℕ) → length w₀ ≡ size → load_done ≡ load_answer document size n cs → Loaded document w₀ w n cs
    → Loads document w₀ w n cs load_done
accepting {n = n} {cs = cs} size e a l =
    record { answer_is = subst (λ k. load_done ≡ load_answer document k n cs) (sym e) a; refused = λ r. absurd (r refl); accepted = λ _. l }

module _ (front : List ℕ) (k : ℕ) (e : length front ≡ k) where
  with_spare : length (front ++ spare) ≡ k + 1
  with_spare = length-append front spare ∙ ap (λ m. m + 1) e

  spare_behind : drop k (front ++ spare) ≡ spare
  spare_behind = subst (λ m. drop m (front ++ spare) ≡ spare) e (drop-append_seam front spare)

-- ---- M11

m11_calls : Calls document m11_loaded (counters_at 0 0) (events m11_turns) m11_again (counters_at 3 0)
unfolding rows_from value_word entries_of rules_from entries_before unbias literal_of gather standing_of extreme first_due first_said up_to pick causes row_of numbered any comes_from in_order flat first_to_speak run reply paired written_from sentences_in sum_first
m11_calls =
    then m11_one (by_step _ _ (counters_at 1 0) (moving tt refl tt tt refl))
    (then m11_one (by_step _ _ (counters_at 1 0) (keeping tt refl tt))
    (then m11_one (by_step _ _ (counters_at 0 0) (refusing (miscounted document _ _ tt) refl))
    (then m11_two (by_step _ _ (counters_at 2 0) (moving tt refl tt tt refl))
    (then m11_opened (by_step _ _ (counters_at 2 1) (moving tt refl tt tt refl))
    (then_cut 24 m11_derived refl (by_step _ _ (counters_at 3 1) (moving tt refl tt tt refl))
    (then m11_derived (by_report _ _ (sevens 9) _ (listing tt refl refl))
    (then m11_derived (by_report _ _ (sevens 4) _ (listing tt refl refl))
    (then m11_derived (by_report _ _ (sevens 1) _ (listing tt refl refl))
    (then_cut 23 m11_derived refl (by_step _ _ (counters_at 3 1) (refusing (cut_short document _ _ tt) refl))
    (then m11_derived (by_step _ _ (counters_at 3 1) (keeping tt refl tt))
    (then m11_two (by_step _ _ (counters_at 2 0) (moving tt refl tt tt refl))
    (then m11_two (by_report _ _ [] _ (listing tt refl refl))
    (then m11_two (by_step _ _ (counters_at 2 0) (keeping tt refl tt))
    (then m11_opened (by_step _ _ (counters_at 2 1) (moving tt refl tt tt refl))
    (then m11_against (by_step _ _ (counters_at 3 1) (moving tt refl tt tt refl))
    (then m11_against (by_step _ _ (counters_at 3 1) (moving tt refl tt tt refl))
    (then m11_against (by_report _ _ (sevens 3) _ (listing tt refl refl))
    (then m11_two (by_step _ _ (counters_at 2 0) (moving tt refl tt tt refl))
    (then m11_again (by_step _ _ (counters_at 3 0) (moving tt refl tt tt refl))
    (then m11_again (by_report _ _ (sevens 9) _ (listing tt refl refl))
    (then m11_again (by_report _ _ (sevens 3) _ (listing tt refl refl))
    none)))))))))))))))))))))

module _ (front : List ℕ) (e : length front ≡ 24) where
  m11_stored : Loaded document (front ++ spare) m11_loaded 3 given
  unfolding rows_from value_word entries_of rules_from entries_before unbias literal_of turned_all freed_all put collect nonzero gather standing_of extreme paired written_from sentences_in sum_first
  m11_stored = record {
    whole = decided document m11_loaded (counters_with 0 0) tt;
    atoms = refl;
    theory = refl;
    rows = refl;
    level = refl;
    size = sym (with_spare front 24 e);
    rest = sym (spare_behind front 24 e);
  }

  pub m11_listed : FromLoad (front ++ spare) m11_loaded 3 given (m4 ∷ []) (events m11_turns) m11_again (counters_at 3 0)
  unfolding paired written_from sentences_in sum_first some_entry both_signs all_refusals first_refusal
  m11_listed = record { loads = accepting 25 (with_spare front 24 e) refl m11_stored; sentences = refl; calls = m11_calls }

-- ---- M12

m12_calls : Calls document m12_loaded (counters_at 0 0) (events m12_turns) m12_derived (counters_at 2 0)
unfolding rows_from value_word entries_of rules_from entries_before unbias literal_of gather standing_of extreme first_due first_said up_to pick causes row_of numbered any comes_from in_order flat first_to_speak run trying reply paired written_from sentences_in sum_first
m12_calls =
    then m12_searched (by_step _ _ (counters_at 2 1) (moving tt refl tt tt refl))
    (then m12_loaded (by_step _ _ (counters_at 0 0) (moving tt refl tt tt refl))
    (then_cut 28 m12_given refl (by_step _ _ (counters_at 1 0) (moving tt refl tt tt refl))
    (then m12_derived (by_step _ _ (counters_at 2 0) (moving tt refl tt tt refl))
    (then_cut 28 m12_derived refl (by_report _ _ (sevens 6) _ (listing tt refl refl))
    (then m12_derived (by_report _ _ (sevens 2) _ (listing tt refl refl))
    (then m12_derived (by_report _ _ (sevens 2) _ (listing tt refl refl))
    (then m12_derived (by_report _ _ (sevens 0) _ (listing tt refl refl))
    (then m12_derived (by_report _ _ (sevens 1) _ (listing tt refl refl))
    (then_cut 27 m12_derived refl (by_report _ _ (sevens 1) _ (refusing_list (cut_short document _ _ tt) refl))
    (then m12_derived (by_report _ _ (sevens 1) _ (listing tt refl refl))
    (then m12_derived (by_report _ _ [] _ (listing tt refl refl))
    (then m12_derived (by_report _ _ [] _ (listing tt refl refl))
    (then m12_derived (by_step _ _ (counters_at 2 0) (moving tt refl tt tt refl))
    none)))))))))))))

module _ (front : List ℕ) (e : length front ≡ 28) where
  m12_stored : Loaded document (front ++ spare) m12_loaded 2 ring_columns
  unfolding rows_from value_word entries_of rules_from entries_before unbias literal_of turned_all freed_all put collect nonzero gather standing_of extreme paired written_from sentences_in sum_first
  m12_stored = record {
    whole = decided document m12_loaded (counters_with 0 0) tt;
    atoms = refl;
    theory = refl;
    rows = refl;
    level = refl;
    size = sym (with_spare front 28 e);
    rest = sym (spare_behind front 28 e);
  }

  pub m12_listed : FromLoad (front ++ spare) m12_loaded 2 ring_columns (ring 1 2 ∷ ring 2 1 ∷ []) (events m12_turns) m12_derived (counters_at 2 0)
  unfolding paired written_from sentences_in sum_first some_entry both_signs all_refusals first_refusal
  m12_listed = record { loads = accepting 29 (with_spare front 28 e) refl m12_stored; sentences = refl; calls = m12_calls }
