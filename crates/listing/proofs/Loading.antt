-- Load's refusal is printed, and an accepted load leaves the state from which the heads are given.
use mathlib.Core.Path.{◌≡◌, ap, ◌∙◌}
use mathlib.Core.Bool.{false}
use mathlib.Core.List.{List}
use Prim.Native.Nat.{ℕ, ◌+◌, ◌≤◌}
use native.Mathlib.Omega.{arith}
use lib.ListN.{length}
use borrow.Author.Tests.{eq-eqb, ne_eqb}
use Rattle.types.specs.Limits.{document}
use Rattle.types.specs.declared.Counters as t
use Rattle.meaning.specs.Merge.{Rule}
use Rattle.book.specs.Rows.{Row}
use Rattle.book.specs.Table.{State}
use Rattle.book.specs.Book.{judged_all, rules_of}
use Rattle.area.specs.Layout.{level_of, rows_of, theory_of}
use Rattle.calls.specs.Calls.{area_state}
use Rattle.columns.specs.Columns.{Columns, all_written, sentences_in}
use Rattle.columns.specs.Refusals.{load_answer}
use Rattle.columns.specs.declared.Answer.{Answer}
use Rattle.load.specs.Load.{Loaded, Loads}
use Rattle.pages.specs.declared.Page.{Page}
use Rattle.pages.specs.Page.{Puts}
use Rattle.pages.proofs.Laws.{puts_as}
use Rattle.answer_lines.specs.Lines.{refused_line}
use Rattle.listing.specs.Output.{listing, area_words, loaded, judged_sentences, answered}
use Rattle.listing_heads.specs.Heads.{heads_given, HeadsAsked, HeadsGiven}
use Rattle.listing.specs.Inner.Steps.{Answers}

abbrev state : ℕ → List Rule → ℕ → List Row → State
state n rs v rows = record { broken = false; atoms = n; levels = document.levels; sentences = judged_all rs; level = v; rows = rows }

loaded_state : {w w' : List ℕ} {n : ℕ} {xs : Columns} → Loaded document w w' n xs → area_state document w' ≡ loaded n (judged_sentences (all_written xs))
loaded_state {w} {w'} {n} {xs} l =
    ap {A = ℕ} (λ m. state m (theory_of w') (level_of w') (rows_of w')) l.atoms
    ∙ ap {A = List Rule} (λ t. state n t (level_of w') (rows_of w')) l.theory
    ∙ ap {A = ℕ} (λ v. state n (rules_of (sentences_in (all_written xs))) v (rows_of w')) l.level
    ∙ ap {A = List Row} (λ r. state n (rules_of (sentences_in (all_written xs))) 0 r) l.rows

module _ {w w' : List ℕ} (v c : ℕ) {xs : Columns} {a : Answer} (size : length w ≡ area_words) (h : Loads document w w' (v + c) xs a) where
  answered_is : answered v c (judged_sentences (all_written xs)) a
      ≡ answered v c (judged_sentences (all_written xs)) (load_answer document area_words (v + c) xs)
  answered_is = ap (answered v c (judged_sentences (all_written xs))) (h.answer_is ∙ ap (λ (n : ℕ). load_answer document n (v + c) xs) size)

  pub refusal_answered : {p q : Page} → (¬ (a.code ≡ 0)) → Puts p q (refused_line a.code a.sentence.0) → Answers p q v c xs
  refusal_answered d f = puts_as answered_is (rw (ne_eqb a.code 0 d) f)

  pub heads_asked : a.code ≡ 0 → v + c ≤ 1024 → HeadsAsked w' v c
  heads_asked z f = record { whole = (h.accepted z).whole; few = omega arith }

  pub listing_answered : {w'' : List ℕ} {p q : Page} {d : t.Counters} → a.code ≡ 0 → HeadsGiven w' w'' v c d
      → Puts p q (listing (area_state document w'')) → Answers p q v c xs
  listing_answered z g f =
      puts_as answered_is
      (rw (eq-eqb a.code 0 z) (puts_as (ap listing (g.stands.state ∙ ap (λ (q : State). heads_given q v c) (loaded_state (h.accepted z)))) f))
