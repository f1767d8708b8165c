-- The table's answers to the two reports, for a work area: the tests of the code are those of the table.
use mathlib.Core.Path.{◌≡◌, sym, ◌∙◌, ap}
use mathlib.Core.Bool.{true}
use mathlib.Core.Logic.{◌⊎◌, inl, inr}
use mathlib.Core.List.{List}
use Prim.Native.Nat.{ℕ, suc, ◌*◌, ◌-◌, ◌<◌, ◌≤◌}
use native.Mathlib.Omega.{arith}
use lib.ListN.{length}
use lib.IntN.{ℤ}
use borrow.Author.Tests.{le-leb, lt-leb, lt-ltb, le-ltb}
use Rattle.types.specs.declared.Limits.{Limits}
use Rattle.types.specs.Limits.{Fitting}
use Rattle.numbers.specs.Extended.{Extended}
use Rattle.numbers.specs.Words.{unword}
use Rattle.book.specs.Rows.{trail, numbered, flat}
use Rattle.book.specs.Table.{bounds, list_trail, a_report, bounds_of, listed, refused, reported, Judged, no_sentence_judged, no_sentence, reply}
use Rattle.book.specs.Book.{Counters, judged_by, judged_all}
use Rattle.area.specs.Layout.{atoms_of, sentences_of, length_of, rows_of, record_at, least_at, greatest_at, rule_at, theory_of}
use Rattle.area.specs.Whole.{Whole}
use Rattle.whole.proofs.Gives.{judged_count, numbered_rule, bounds_are}
use Rattle.calls.specs.Calls.{area_state}
use Rattle.reports.proofs.Rows.{rows_size}

module _ (lim : Limits) (w : List ℕ) where
  abbrev n : ℕ
  n = atoms_of w

  abbrev S : ℕ
  S = sentences_of w

  abbrev js : List Judged
  js = judged_all (theory_of w)

  -- ---- bounds

  refused_for : (k : ℕ) → no_sentence (area_state lim w) k ≡ true → (reply (area_state lim w) (a_report (bounds k) 0)).answer ≡ refused 16 0
  unfolding reply
  refused_for k e = rw e

  pub bounds_refused : (k s : ℕ) → s ≡ S → (k ≡ 0) ⊎ (¬ (k ≡ 0) × (s < k)) → (reply (area_state lim w) (a_report (bounds k) 0)).answer ≡ refused 16 0
  bounds_refused k s e (inl z) = refused_for k (rw (lt-leb 1 k (omega arith)))
  bounds_refused k s e (inr (d, h)) = refused_for k (rw (le-leb 1 k (omega arith), lt-leb k (length js) (omega (arith, judged_count w))))

  bounds_numbered : (k : ℕ) → 1 ≤ k → k ≤ S
      → (reply (area_state lim w) (a_report (bounds k) 0)).answer ≡ reported (bounds_of ((numbered no_sentence_judged k js).least (trail (rows_of w))) ((numbered no_sentence_judged k js).greatest (trail (rows_of w))))
  unfolding reply
  bounds_numbered k l h = rw (le-leb 1 k l, le-leb k (length js) (omega (arith, judged_count w)))

  pub bounds_stored : (c : Counters) → Fitting lim → Whole lim w c → (k : ℕ) → 1 ≤ k → k ≤ S
      → (reply (area_state lim w) (a_report (bounds k) 0)).answer ≡ reported (bounds_of (unword (least_at w (record_at n (k - 1)))) (unword (greatest_at w (record_at n (k - 1)))))
  bounds_stored c fit h k l m =
      let b = record_at n (k - 1) in
      let t = trail (rows_of w) in
      let last : k - 1 < S = omega arith in
      let number : k ≡ suc (k - 1) = omega arith in
      let is : numbered no_sentence_judged k js ≡ judged_by (rule_at w n S b) = ap {A = ℕ} (λ m. numbered no_sentence_judged m js) number ∙ numbered_rule w no_sentence_judged (k - 1) last in
      let x = bounds_are lim w c h fit (k - 1) last in
      bounds_numbered k l m
      ∙ ap {A = Judged} (λ j. reported (bounds_of (j.least t) (j.greatest t))) is
      ∙ ap {A = Extended} (λ v. reported (bounds_of v ((judged_by (rule_at w n S b)).greatest t))) (sym x.least)
      ∙ ap {A = Extended} (λ v. reported (bounds_of (unword (least_at w b)) v)) (sym x.greatest)

  -- ---- the trail

  abbrev rows : List ℤ
  rows = flat (rows_of w)

  size : length rows ≡ 3 * length_of w
  size = rows_size w n (length_of w)

  pub trail_short : (room : ℕ) → room < 3 * length_of w → (reply (area_state lim w) (a_report list_trail room)).answer ≡ refused 18 (3 * length_of w)
  unfolding reply
  trail_short room h = rw (lt-ltb room (length rows) (omega (arith, size))) (ap {A = ℕ} (λ m. refused 18 m) size)

  pub trail_listed : (room : ℕ) → 3 * length_of w ≤ room → (reply (area_state lim w) (a_report list_trail room)).answer ≡ reported (listed rows)
  unfolding reply
  trail_listed room h = rw (le-ltb room (length rows) (omega (arith, size)))
