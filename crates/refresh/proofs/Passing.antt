-- The loop over the sentences: those passed are refreshed, and the words of the others are as they were, so that the next one can still be
-- evaluated, with the same rule and over the same values.
use mathlib.Core.Path.{◌≡◌, refl, sym, ap, ◌∙◌, subst}
use mathlib.Core.Logic.{◌⊎◌, inl, inr, ⊎_elim}
use mathlib.Core.List.{List}
use Prim.Native.Nat.{ℕ, ◌+◌, ◌<◌, ◌≤◌}
use native.Mathlib.Omega.{arith}
use native.Mathlib.Nat.{eq-or-lt_of_le}
use lib.Dec.{leb}
use Rattle.types.specs.declared.Limits.{Limits}
use Rattle.numbers.specs.Extended.{up, down}
use Rattle.numbers.specs.Words.{word as word_of}
use Rattle.meaning.specs.Meaning.{Each}
use Rattle.meaning.specs.Merge.{Rule, scope}
use Rattle.meaning.specs.Computed.{extreme}
use Rattle.area.specs.Layout.{word, record_at, rule_at}
use Rattle.extremes.specs.declared.Extremes.{Extremes}
use Rattle.extremes.specs.Inner.Stored.{ExtremesAre}
use Rattle.extremes.proofs.Stored.{widened}
use Rattle.theory_check.specs.Theory.{SentenceOk}
use Rattle.theory_check.proofs.Places.{placed}
use Rattle.whole.specs.Same.{SameRecord}
use Rattle.whole.proofs.Frame.{same_record, record_through, SameEntries, entries_behind, rule_same, sentence_same}
use Rattle.whole.proofs.Trails.{shows_stay}
use Rattle.refresh.specs.Inner.Refresh.{Refreshable, Untouched, AsBefore, Renewed, SentenceRefreshed, RefreshedTo}
use Rattle.refresh.specs.Inner.One.{TouchReady, OneRefreshed}

pub none_passed : {w : List ℕ} {n S : ℕ} {touched : List ℕ} → RefreshedTo w w n S touched 0
none_passed = record { size = refl; front = λ i l. refl; behind = λ i l. refl; each = λ k l. absurd (omega arith) }

-- ---- a sentence that was refreshed, after its words are left alone

module _ (w w' w'' : List ℕ) (n S b : ℕ) (touched : List ℕ) (same : (i : ℕ) → b ≤ i → i < b + 8 → word w'' i ≡ word w' i) where
  stays : (j : ℕ) → j < 8 → word w'' (b + j) ≡ word w' (b + j)
  stays j h = same (b + j) (omega arith) (omega arith)

  refreshed_stays : SentenceRefreshed w w' n S b touched → SentenceRefreshed w w'' n S b touched
  refreshed_stays p = record { same = record_through w w' w'' b p.same (same_record w' w'' b same p.same.tag_low); how = go p.how }
    where
      go : (Untouched w n S b touched × AsBefore w w' b) ⊎ Renewed w w' n S b → (Untouched w n S b touched × AsBefore w w'' b) ⊎ Renewed w w'' n S b
      go (inl q) =
          inl (
            q.0,
            record { tag = stays 1 (omega arith) ∙ q.1.tag; least = stays 4 (omega arith) ∙ q.1.least; greatest = stays 5 (omega arith) ∙ q.1.greatest },
          )
      go (inr q) =
          inr (record {
            marked = ap {A = ℕ} (leb 16) (stays 1 (omega arith)) ∙ q.marked;
            extremes = record {
              least_is = λ t sh. stays 4 (omega arith) ∙ q.extremes.least_is t sh;
              greatest_is = λ t sh. stays 5 (omega arith) ∙ q.extremes.greatest_is t sh;
            };
          })

-- ---- the next sentence, whose words are those of the start

module _ {lim : Limits} {w w' : List ℕ} {n S : ℕ} {touched : List ℕ} {s : ℕ}
    (ready : Refreshable lim w n S touched) (p : RefreshedTo w w' n S touched s) (next : s < S) where
  abbrev b : ℕ
  b = record_at n s

  same : SameRecord w w' b
  same = same_record w w' b (λ i l h. p.behind i l) (ready.each s next).tag

  entries : SameEntries w w' n S b
  entries = entries_behind w w' n S b p.size (λ i h. p.behind i (omega arith))

  rule_stays : rule_at w' n S b ≡ rule_at w n S b
  rule_stays = rule_same w w' n S b same entries

  pub next_touchable : TouchReady w' n S b touched
  next_touchable =
      let q = placed lim w n S s ready.places next in
      let o : SentenceOk lim w' n S b = sentence_same w w' n S b same entries lim (ready.each s next) in
      let size = p.size in
      let before = same.before in
      let counts = same.counts in
      record {
        sentence = record {
          atoms_low = ready.atoms_low;
          atoms_high = omega (arith, ready.atoms_high, ready.fitting.atoms);
          sentences = omega (arith, ready.sentences, ready.fitting.sentences);
          values = omega (arith, q.own);
          own = omega (arith, q.own);
          entries = omega (arith, q.room, q.merged);
          merged = omega (arith, q.few, q.merged, ready.fitting.each);
          kind = o.kind;
          rule = widened ready.fitting o.rule;
        };
        tag = o.tag;
        table = ready.table;
      }

  extremes_stay : (r : Extremes) → ExtremesAre w' n S b r → ExtremesAre w n S b r
  extremes_stay r e = record {
    least_is = λ t sh. e.least_is t (shows_stay w w' n p.front t sh) ∙ ap {A = Rule} (λ x. word_of (extreme down x t)) rule_stays;
    greatest_is = λ t sh. e.greatest_is t (shows_stay w w' n p.front t sh) ∙ ap {A = Rule} (λ x. word_of (extreme up x t)) rule_stays;
  }

  module _ {w'' : List ℕ} (one : OneRefreshed w' w'' n S b touched) where
    here : SentenceRefreshed w w'' n S b touched
    here = record { same = record_through w w' w'' b same one.refreshed.same; how = go one.refreshed.how }
      where
        go : (Untouched w' n S b touched × AsBefore w' w'' b) ⊎ Renewed w' w'' n S b → (Untouched w n S b touched × AsBefore w w'' b) ⊎ Renewed w w'' n S b
        go (inl q) =
            inl (
              subst (λ (r : Rule). Each (λ a. word touched a ≡ 0) (scope r)) rule_stays q.0,
              record {
                tag = q.1.tag ∙ p.behind (b + 1) (omega arith);
                least = q.1.least ∙ p.behind (b + 4) (omega arith);
                greatest = q.1.greatest ∙ p.behind (b + 5) (omega arith);
              },
            )
        go (inr q) = inr (record { marked = q.marked; extremes = extremes_stay _ q.extremes })

    pub one_passed : RefreshedTo w w'' n S touched (s + 1)
    one_passed = record {
      size = one.size ∙ p.size;
      front = λ i l. one.below i (omega arith) ∙ p.front i l;
      behind = λ i l. one.behind i (omega arith) ∙ p.behind i (omega arith);
      each = λ k l. ⊎_elim
          (λ (e : k ≡ s). subst (λ (j : ℕ). SentenceRefreshed w w'' n S (record_at n j) touched) (sym e) here)
          (λ (m : k < s). refreshed_stays w w' w'' n S (record_at n k) touched (λ i h u. one.below i (omega arith)) (p.each k m))
          (eq-or-lt_of_le (omega arith));
    }
