-- What wholeness gives the calls: reasons are sentences that have the row's atom, the stored bounds are the extremes, an unmarked sentence
-- has nothing to say, the trail is consistent, and words behind the area do not count. Each reads off clauses of wholeness.
use mathlib.Core.Path.{◌≡◌, refl, ◌∙◌, ap}
use mathlib.Core.Bool.{false}
use mathlib.Core.List.{List, [], ◌∷◌, ◌++◌}
use Prim.Native.Nat.{ℕ, zero, suc, ◌+◌, ◌*◌, ◌/◌, ◌%◌, ◌<◌, ◌≤◌}
use native.Mathlib.Omega.{arith}
use lib.ListN.{length, get_or, get_or-append}
use Rattle.types.specs.declared.Limits.{Limits}
use Rattle.types.specs.Limits.{Fitting}
use Rattle.numbers.specs.Extended.{up, down}
use Rattle.numbers.specs.Words.{unword}
use Rattle.meaning.specs.Meaning.{atom, Consistent}
use Rattle.meaning.specs.Merge.{Rule, scope}
use Rattle.book.specs.Rows.{trail, numbered}
use Rattle.book.specs.Table.{Judged}
use Rattle.book.specs.Book.{Counters, judged_by, judged_all}
use Rattle.area.specs.Layout.{word, atoms_of, sentences_of, length_of, literal_at, row_at, place_at, rows_of, record_at, pending_at, rule_at, theory_of, entries_before, need_of}
use Rattle.area.specs.Whole.{Whole}
use Rattle.extremes.specs.Inner.Stored.{EvaluateReady}
use Rattle.trail_check.proofs.Rows.{atom_of, atom_low}
use Rattle.trail_check.proofs.Shown.{once_consistent}
use Rattle.theory_check.proofs.Rules.{rules_length, rules_numbered}
use Rattle.whole.specs.Gives.{ReasonInside, BoundsAre, IsSilent}
use Rattle.whole.proofs.Join.{parts}
use Rattle.whole.proofs.CheckSentences.{ready as readable}
use Rattle.whole.proofs.DeterminedPlaces.{place_in}
use Rattle.whole.proofs.DeterminedWords.{before_same}
use Rattle.whole.proofs.GivesExtremes.{extreme_back}
use Rattle.whole.proofs.GivesSilence.{silence}

-- ---- the judgements by number, of any words

judged_length : (rs : List Rule) → length (judged_all rs) ≡ length rs
judged_length [] = refl
judged_length (r ∷ rs) = ap {A = ℕ} suc (judged_length rs)

judged_number : (d : Judged) (none : Rule) (k : ℕ) (rs : List Rule) → k < length rs → numbered d (suc k) (judged_all rs) ≡ judged_by (get_or rs k none)
unfolding numbered
judged_number d none k [] l = let b : ⊥ = omega arith in absurd b
judged_number d none zero (r ∷ rs) l = refl
judged_number d none (suc k) (r ∷ rs) l = judged_number d none k rs (omega arith)

pub judged_count : (w : List ℕ) → length (judged_all (theory_of w)) ≡ sentences_of w
judged_count w = judged_length (theory_of w) ∙ rules_length w (atoms_of w) (sentences_of w) 0 (sentences_of w)

pub numbered_rule : (w : List ℕ) (d : Judged) (s : ℕ) → s < sentences_of w
    → numbered d (suc s) (judged_all (theory_of w)) ≡ judged_by (rule_at w (atoms_of w) (sentences_of w) (record_at (atoms_of w) s))
numbered_rule w d s l = let n = atoms_of w in let S = sentences_of w in let r = rule_at w n S (record_at n s) in
    judged_number d r s (theory_of w) (omega (arith, rules_length w n S 0 S)) ∙ ap {A = Rule} judged_by (rules_numbered w n S s r l)

-- ---- what wholeness gives

module _ (lim : Limits) (w : List ℕ) (c : Counters) (h : Whole lim w c) where
  abbrev n : ℕ
  n = atoms_of w

  abbrev S : ℕ
  S = sentences_of w

  -- ---- the trail

  pub consistent : Consistent (trail (rows_of w))
  consistent = once_consistent n (rows_of w) h.trail_right.atoms

  pub row_atom_low : (i : ℕ) → i < length_of w → 1 ≤ atom (row_at w n i).literal
  row_atom_low i l = omega (arith, atom_of (literal_at w n i), atom_low w n (length_of w) i l h.trail_right.atoms)

  pub reason_inside : (i s : ℕ) → i < length_of w → (row_at w n i).reason ≡ suc s → ReasonInside w n S i s
  reason_inside i s l e = record {
    sentence = omega (arith, (h.reasons i l).few);
    inside = place_in (scope (rule_at w n S (record_at n s))) (place_at w n i) (atom (row_at w n i).literal) (row_atom_low i l) ((h.reasons i l).derived s e);
  }

  -- ---- the sentences

  -- its words can be evaluated
  pub ready : Fitting lim → (s : ℕ) → s < S → EvaluateReady w n S (record_at n s)
  ready fit s l = let p = parts lim w c.length_is c.level_is h in
      readable (record { fitting = fit; atoms_low = h.theory.atoms_low; atoms_high = h.theory.atoms_high; sentences = h.theory.sentences; places = p.places })
      s l (p.sentences s l).words

  pub bounds_are : Fitting lim → (s : ℕ) → s < S → BoundsAre w n S (record_at n s) (trail (rows_of w))
  bounds_are fit s l = record {
    least = ap {A = ℕ} unword (h.bounds s l).least ∙ extreme_back w n S (record_at n s) (ready fit s l) down (trail (rows_of w));
    greatest = ap {A = ℕ} unword (h.bounds s l).greatest ∙ extreme_back w n S (record_at n s) (ready fit s l) up (trail (rows_of w));
  }

  pub quiet_silent : (s : ℕ) → s < S → pending_at w (record_at n s) ≡ false → IsSilent (rule_at w n S (record_at n s)) (trail (rows_of w))
  quiet_silent s l e = silence (rule_at w n S (record_at n s)) (trail (rows_of w)) (h.quiet s l e)

  -- ---- the need

  -- every word that the need reads stands inside the area
  pub need_stays : (rest : List ℕ) → need_of (w ++ rest) ≡ need_of w
  need_stays rest = let v = w ++ rest in
      let first : word v 0 ≡ word w 0 = get_or-append w rest 0 0 (omega (arith, h.enough, h.theory.atoms_low)) in
      ap {A = ℕ} (λ x. 4 * (x % 65536) + 8 * (x / 65536 % 65536) + 2 * entries_before v (x % 65536) (x / 65536 % 65536)) first
      ∙ ap {A = ℕ} (λ x. 4 * n + 8 * S + 2 * x)
      (before_same v w n n S (λ s l. ap {A = ℕ} (λ x. x % 65536) (get_or-append w rest 0 (record_at n s + 7) (omega (arith, h.enough)))))
