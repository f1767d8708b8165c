-- What bounds answers on a whole area: the least and the greatest value of that sentence over the full assignments that agree with the
-- trail. The area's rules are the merges of the sentences, which judge as full assignments do, and its trail is consistent.
use mathlib.Core.Path.{◌≡◌, sym, subst}
use mathlib.Core.List.{List}
use Prim.Native.Nat.{ℕ, ◌≤◌}
use lib.ListN.{length}
use lib.Dec.{leb, leb→le}
use Rattle.types.specs.declared.Limits.{Limits}
use Rattle.numbers.specs.Extended.{Extended, up, down}
use Rattle.meaning.specs.Meaning.{Sentence, Furthest, Each}
use Rattle.meaning.specs.Merge.{Rule}
use Rattle.book.specs.Rows.{trail}
use Rattle.book.specs.Table.{bounds, a_report, bounds_of, reported, no_sentence_judged, reply}
use Rattle.book.specs.Book.{Counters, judged_all, rules_of, WellFormed}
use Rattle.book.specs.Sound.{JudgesAll}
use Rattle.book.proofs.Number.{numbered_exists, judges_numbered, judges_length}
use Rattle.book.proofs.Tests.{both_told}
use Rattle.book.proofs.Judged.{all_judged}
use Rattle.book.specs.Means.{Bounded}
use Rattle.book.proofs.Reports.{reported_is}
use Rattle.area.specs.Layout.{rows_of, theory_of}
use Rattle.area.specs.Whole.{Whole}
use Rattle.whole.proofs.Gives.{consistent}
use Rattle.calls.specs.Calls.{area_state}

pub bounds_mean : (lim : Limits) (w : List ℕ) (c : Counters) → Whole lim w c
    → (n : ℕ) (ss : List Sentence) → Each (WellFormed n) ss → theory_of w ≡ rules_of ss
    → (k : ℕ) (v v' : Extended) → (reply (area_state lim w) (a_report (bounds k) 0)).answer ≡ reported (bounds_of v v') → Bounded ss (trail (rows_of w)) k v v'
bounds_mean lim w c h n ss well same k v v' e =
    let t = trail (rows_of w) in
    let js = judged_all (theory_of w) in
    let m : JudgesAll ss js = subst (λ (rs : List Rule). JudgesAll ss (judged_all rs)) (sym same) (all_judged n ss well) in
    let agreed = consistent lim w c h in
    let x = reported_is (area_state lim w) (bounds k) 0 (bounds_of v v') e in
    let i = both_told (leb 1 k) (leb k (length js)) x.0.0 in
    let s = numbered_exists k ss (leb→le 1 k i.0) (subst (λ m. k ≤ m) (sym (judges_length ss js m)) (leb→le k (length js) i.1)) in
    let j = judges_numbered no_sentence_judged k ss js s.0 m s.1 in
    record {
      sentence = s.0;
      number = s.1;
      least = subst (Furthest down s.0 t) (cc x.1) (j.least_is t agreed);
      greatest = subst (Furthest up s.0 t) (cc x.1) (j.greatest_is t agreed);
    }
