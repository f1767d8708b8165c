-- What explain_conflict lists on a whole area: a clause that the sentence alone entails, all of whose literals are false on the trail. A
-- stored rule is a sentence of its own, which the tests judge as full assignments do, and the trail is consistent; where the stored theory is
-- the merge of written sentences, the clause is entailed by the written sentence.
use mathlib.Core.Path.{◌≡◌, refl, sym, ◌∙◌, ap, subst}
use mathlib.Core.Bool.{not}
use mathlib.Core.List.{List, [], ◌∷◌, map}
use Prim.Native.Nat.{ℕ, zero, suc, ◌<◌, ◌≤◌}
use native.Mathlib.Omega.{arith}
use lib.ListN.{length, get_or}
use lib.IntN.{ℤ}
use lib.Dec.{T, leb, leb→le}
use Rattle.types.specs.declared.Limits.{Limits}
use Rattle.meaning.specs.Meaning.{atom, Sentence, Satisfied, Said, silent, conflict, forced, Says}
use Rattle.meaning.specs.Merge.{Rule, rule_of, scope, as_sentence}
use Rattle.meaning.specs.Computed.{first_said}
use Rattle.meaning.proofs.Stored.{satisfied_written, says_stored}
use Rattle.book.specs.Rows.{Row, trail, numbered}
use Rattle.book.specs.Table.{explain_conflict, a_report, listed, reported, no_sentence_judged, is_conflict, reply}
use Rattle.book.specs.Book.{Counters, judged_all, rules_of}
use Rattle.book.specs.Means.{IsNumber, Among, ExplainsConflict}
use Rattle.book.proofs.Tests.{both_told}
use Rattle.book.proofs.Reports.{reported_is}
use Rattle.book.specs.Sound.{BlindOutside}
use Rattle.book.proofs.Blind.{stored_blind}
use Rattle.book.proofs.Explained.{conflict_listed}
use Rattle.area.specs.Layout.{atoms_of, sentences_of, length_of, record_at, rule_at, rows_of, theory_of}
use Rattle.area.specs.Whole.{Whole}
use Rattle.theory_check.proofs.Rules.{rules_length, rules_numbered}
use Rattle.whole.proofs.Gives.{consistent, judged_count, numbered_rule, row_atom_low}
use Rattle.whole.proofs.Stored.{merged}
use Rattle.calls.specs.Calls.{area_state}
use Rattle.causes.proofs.Gives.{scope_numbered}
use Rattle.causes.proofs.Rows.{among_row}

-- ---- sentences by number

is_numbered : (none : Rule) (i : ℕ) (rs : List Rule) → i < length rs → IsNumber (suc i) (map as_sentence rs) (as_sentence (get_or rs i none))
is_numbered none i [] l = let b : ⊥ = omega arith in absurd b
is_numbered none zero (r ∷ rs) l = refl
is_numbered none (suc i) (r ∷ rs) l = is_numbered none i rs (omega arith)

written_number : (k : ℕ) (ss : List Sentence) (x : Sentence) → IsNumber k (map as_sentence (rules_of ss)) x
    → (s : Sentence) × IsNumber k ss s × (as_sentence (rule_of s) ≡ x)
written_number k [] x h = absurd h
written_number zero (s ∷ ss) x h = absurd h
written_number (suc zero) (s ∷ ss) x h = (s, refl, h)
written_number (suc (suc k)) (s ∷ ss) x h = written_number (suc k) ss x h

explains_written : (ss : List Sentence) (rows : List Row) (k : ℕ) (ls : List ℤ)
    → ExplainsConflict (map as_sentence (rules_of ss)) rows k ls → ExplainsConflict ss rows k ls
explains_written ss rows k ls x =
    let y = written_number k ss x.sentence x.number in
    record {
      sentence = y.0;
      number = y.1;
      entailed = λ σ h. x.entailed σ (subst (Satisfied σ) y.2 ((satisfied_written y.0 σ).1 h));
      literals_false = x.literals_false;
    }

-- ---- the list

conflict_passed : (y : Said) → T (not (not (is_conflict y))) → y ≡ conflict
conflict_passed silent h = absurd h
conflict_passed conflict h = refl
conflict_passed (forced l) h = absurd h

module _ (lim : Limits) (w : List ℕ) (c : Counters) (h : Whole lim w c) where
  abbrev n : ℕ
  n = atoms_of w

  abbrev S : ℕ
  S = sentences_of w

  abbrev rule : ℕ → Rule
  rule s = rule_at w n S (record_at n s)

  literals : (l : ℤ) → Among l (trail (rows_of w)) → 1 ≤ atom l
  literals l a = let x = among_row w n l (length_of w) a in subst (λ y. 1 ≤ atom y) x.2 (row_atom_low lim w c h x.0 x.1)

  numbered_sentence : (s : ℕ) → s < S → IsNumber (suc s) (map as_sentence (theory_of w)) (as_sentence (rule s))
  numbered_sentence s l =
      subst (λ r. IsNumber (suc s) (map as_sentence (theory_of w)) (as_sentence r)) (rules_numbered w n S s (rule s) l)
      (is_numbered (rule s) s (theory_of w) (omega (arith, rules_length w n S 0 S)))

  -- of the stored theory, each rule a sentence of its own
  pub explain_conflict_means : (k room : ℕ) (ls : List ℤ) → (reply (area_state lim w) (a_report (explain_conflict k) room)).answer ≡ reported (listed ls)
      → ExplainsConflict (map as_sentence (theory_of w)) (rows_of w) k ls
  explain_conflict_means zero room ls e = absurd (reported_is (area_state lim w) (explain_conflict zero) room (listed ls) e).0.0
  explain_conflict_means (suc s) room ls e =
      let t = trail (rows_of w) in
      let js = judged_all (theory_of w) in
      let agreed = consistent lim w c h in
      let x = reported_is (area_state lim w) (explain_conflict (suc s)) room (listed ls) e in
      let l : s < S = omega (arith, leb→le (suc s) (length js) (both_told (leb 1 (suc s)) (leb (suc s) (length js)) x.0.0).1, judged_count w) in
      let said : first_said (rule s) t ≡ conflict = sym (ap (λ j. j.says t) (numbered_rule w no_sentence_judged s l)) ∙ conflict_passed ((numbered no_sentence_judged (suc s) js).says t) x.0.1.0 in
      subst (ExplainsConflict (map as_sentence (theory_of w)) (rows_of w) (suc s)) (cc x.1)
      (conflict_listed (map as_sentence (theory_of w)) js (rows_of w) agreed literals (suc s) (as_sentence (rule s)) (numbered_sentence s l)
      (subst (λ sc. BlindOutside sc (as_sentence (rule s))) (sym (scope_numbered w s l)) (stored_blind (rule s)))
      (subst (Says (as_sentence (rule s)) t (scope (rule s))) said (says_stored (rule s) (merged lim w c h s l) (h.theory.each s l).rule.head_low t agreed)))

  -- and of the written sentences, where the stored theory is their merge
  pub explain_conflict_written : (ss : List Sentence) → theory_of w ≡ rules_of ss → (k room : ℕ) (ls : List ℤ)
      → (reply (area_state lim w) (a_report (explain_conflict k) room)).answer ≡ reported (listed ls) → ExplainsConflict ss (rows_of w) k ls
  explain_conflict_written ss same k room ls e =
      explains_written ss (rows_of w) k ls (subst (λ rs. ExplainsConflict (map as_sentence rs) (rows_of w) k ls) same (explain_conflict_means k room ls e))
