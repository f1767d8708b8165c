-- What propagate, bounds and explain_conflict mean on any whole area, by full assignments, wherever they keep their public contracts. The stored
-- rules judge as full assignments do, the sentences that they are of their own as well as the written ones that they are merges of.
use mathlib.Core.Path.{◌≡◌, refl, sym, ap, ◌∙◌, subst}
use mathlib.Core.List.{List, map}
use Rattle.std.specs.Prelude.{Result, Ok}
use Prim.Native.Nat.{ℕ, suc}
use lib.ListN.{length, take}
use lib.IntN.{ℤ}
use Rattle.types.specs.declared.Limits.{Limits}
use Rattle.types.specs.declared.Counters.{Counters}
use Rattle.types.specs.declared.Sentence as number
use Rattle.numbers.specs.Extended.{Extended}
use Rattle.meaning.specs.Meaning.{Sentence, Each}
use Rattle.meaning.specs.Merge.{Rule, as_sentence}
use Rattle.book.specs.Rows.{trail}
use Rattle.book.specs.Table.{bounds, explain_conflict, a_report, bounds_of, listed, reported, list_of, Returned, returned_by, Judged, Outcome, run, propagated, result_of, effect, reply}
use Rattle.book.specs.Book.{judged_all, rules_of, WellFormed}
use Rattle.book.specs.Sound.{JudgesAll}
use Rattle.book.specs.Means.{SaysNothing, FirstConflict, Additions, Bounded, ExplainsConflict}
use Rattle.book.proofs.Judged.{all_judged}
use Rattle.book.proofs.Run.{run_alike}
use Rattle.area.specs.Layout.{atoms_of, level_of, rows_of, theory_of}
use Rattle.area.specs.Whole.{Whole}
use Rattle.whole.proofs.Stored.{all_merged, well_formed, speech_restored}
use Rattle.calls.specs.Calls.{counted, bounds_returned, listed_returned, area_state}
use Rattle.calls.specs.declared.Bounds.{Bounds}
use Rattle.calls.specs.declared.Refusal.{Refusal}
use Rattle.calls.proofs.Effects.{reply_effect, reported_here, taken}
use Rattle.propagate.specs.declared.Propagated.{Propagated}
use Rattle.propagate.specs.declared.Propagated.TheVariants.{Still, Conflict}
use Rattle.propagate.specs.Propagate.{propagated_returned, counters_stopped}
use Rattle.propagate.proofs.Meaning as meaning
use Rattle.reports.proofs.Meaning as reports
use Rattle.explain.proofs.Meaning as explain
use Rattle.dalelead.specs.Public.{Propagates, ReadsBounds, ListsConflict}
use Rattle.dalelead.specs.Stored.{Stores, as_rules, as_written}

module _ (lim : Limits) (w : List ℕ) (c : Counters) (h : Whole lim w (counted c)) where
  -- ---- judges of what the area stores, which run as its rules do

  record Judging (ss : List Sentence) : Type 0 where
    pub judges : List Judged
    pub right : JudgesAll ss judges
    pub alike : run judges (level_of w) (suc (atoms_of w)) (rows_of w) ≡ propagated (area_state lim w)

  judging : {ss : List Sentence} → Stores w ss → Judging ss
  judging as_rules =
      let js = judged_all (rules_of (map as_sentence (theory_of w))) in
      record {
        judges = js;
        right = all_judged (atoms_of w) (map as_sentence (theory_of w)) (well_formed lim w (counted c) h);
        alike = run_alike js (judged_all (theory_of w)) (speech_restored (theory_of w) (all_merged lim w (counted c) h) 1) (level_of w) (suc (atoms_of w)) (rows_of w);
      }
  judging (as_written n ss well same) = record {
    judges = judged_all (rules_of ss);
    right = all_judged n ss well;
    alike = ap {A = List Rule} (λ rs. run (judged_all rs) (level_of w) (suc (atoms_of w)) (rows_of w)) (sym same);
  }

  -- ---- propagate

  module _ (w' : List ℕ) (ss : List Sentence) (stores : Stores w ss) where
    -- at still every sentence is satisfiable and forces no open literal
    pub still_means : (n : ℕ) (c' : Counters) → Propagates lim w w' c (Ok (Still n c')) → Each (SaysNothing (trail (rows_of w'))) ss
    still_means n c' p =
        let j = judging stores in
        meaning.still_means lim w w' (counted c) (counted c') (propagated_returned (Ok (Still n c'))) p.0 h ss j.judges j.right j.alike refl

    -- a conflict's sentence has no agreeing assignment that satisfies it, and every lower-numbered one is silent
    pub clash_means : (k : number.Sentence) (n : ℕ) (c' : Counters) → Propagates lim w w' c (Ok (Conflict k n c')) → FirstConflict ss (trail (rows_of w')) k.0
    clash_means k n c' p =
        let j = judging stores in
        meaning.clash_means lim w w' (counted c) (counted c') (propagated_returned (Ok (Conflict k n c'))) p.0 h ss j.judges j.right j.alike p.1

    -- each row put on is the first open literal that its reason forces, which is satisfiable; lower-numbered sentences are silent
    pub derived_means : (r : Result Propagated Refusal) → Propagates lim w w' c r → Additions ss (level_of w) (rows_of w) (rows_of w')
    derived_means r p =
        let j = judging stores in
        meaning.derived_means lim w w' (counted c) (counted (counters_stopped c r)) (propagated_returned r) p.0 h ss j.judges j.right j.alike

  -- ---- bounds, of written sentences: those of the set as written, constant included

  pub bounds_mean : (n : ℕ) (ss : List Sentence) → Each (WellFormed n) ss → theory_of w ≡ rules_of ss → (k : ℕ) (b : Bounds) → ReadsBounds lim w c k (Ok b)
      → (v : Extended) × (v' : Extended) × (bounds_returned (Ok b) ≡ returned_by (reported (bounds_of v v'))) × Bounded ss (trail (rows_of w)) k v v'
  bounds_mean n ss well same k b a =
      let q = area_state lim w in
      let e : (reply q (a_report (bounds k) 0)).answer ≡ (effect q (a_report (bounds k) 0)).answer =
      ap {A = Outcome} (λ o. o.answer) (reply_effect q (a_report (bounds k) 0) (ap {A = Returned} (λ p. p.code) (sym (a.told h)))) in (
        _,
        _,
        a.told h ∙ ap returned_by e,
        reports.bounds_mean lim w (counted c) h n ss well same k _ _ e,
      )

  -- ---- the explanation of a conflict

  module _ (k : ℕ) (old new : List ℤ) (count : ℕ) (a : ListsConflict lim w c k old new (Ok count)) where
    abbrev ls : List ℤ
    ls = list_of (result_of (area_state lim w) (explain_conflict k))

    here : (reply (area_state lim w) (a_report (explain_conflict k) (length old))).answer ≡ reported (listed ls)
    here = reported_here lim w (counted c) h (explain_conflict k) old new (listed_returned (Ok count)) a refl

    table_means : {ss : List Sentence} → Stores w ss → ExplainsConflict ss (rows_of w) k ls
    table_means as_rules = explain.explain_conflict_means lim w (counted c) h k (length old) ls here
    table_means (as_written n ss well same) = explain.explain_conflict_written lim w (counted c) h ss same k (length old) ls here

    -- a clause that its sentence alone entails, all of whose literals are false on the trail
    pub explain_conflict_means : (ss : List Sentence) → Stores w ss → ExplainsConflict ss (rows_of w) k (take count new)
    explain_conflict_means ss stores =
        subst (ExplainsConflict ss (rows_of w) k) (sym (taken lim w (counted c) h (explain_conflict k) old new (listed_returned (Ok count)) a refl)) (table_means stores)
