-- From a whole area to the next: where only the trail's words changed, and rightly, and every atom whose value changed is touched,
-- refreshing leaves a whole area, of the same theory and the new rows.
use mathlib.Core.Path.{◌≡◌, sym, ap, ap₂, ◌∙◌, subst}
use mathlib.Core.Logic.{◌⊎◌, inl, inr}
use mathlib.Core.List.{List}
use Prim.Native.Nat.{ℕ, ◌+◌, ◌*◌, ◌/◌, ◌%◌, ◌<◌, ◌≤◌}
use native.Mathlib.Omega.{arith}
use lib.ListN.{length, drop}
use lib.IntN.{ℤ}
use Rattle.types.specs.declared.Limits.{Limits}
use Rattle.types.specs.Limits.{Fitting}
use Rattle.meaning.specs.Meaning.{Each}
use Rattle.meaning.specs.Merge.{Rule, scope}
use Rattle.meaning.specs.Computed.{standing_of}
use Rattle.book.specs.Rows.{Row, trail}
use Rattle.book.specs.Book.{Counters}
use Rattle.area.specs.Layout.{word, atoms_of, sentences_of, level_of, rows_from, rows_of, record_at, rules_from, theory_of, entries_before, need_of}
use Rattle.area.specs.Whole.{Whole, Reasoned}
use Rattle.trail_check.specs.Trail.{HeaderOk, TrailOk}
use Rattle.trail_check.proofs.Shown.{shows}
use Rattle.whole.specs.Parts.{counters_with, Matching, SentenceRight, Parts}
use Rattle.whole.proofs.Join.{parts, joined_at}
use Rattle.whole.proofs.Frame.{drop_same, same_record, record_through}
use Rattle.whole.proofs.Theories.{SameTheory, theory_behind, rule_stays, sentence_stays, rules_stay, before_stays, places_stay}
use Rattle.whole.proofs.Trails.{header_stays, rows_stay, trail_stays, reason_stays}
use Rattle.refresh.specs.Inner.Refresh.{Refreshable, Untouched, AsBefore, Renewed, Refreshed}
use Rattle.refresh.proofs.Matching.{untouched_matches, renewed_matches}

-- w has a right trail in place of that of w₀; an atom that is not touched stands as it stood
pub record TrailChanged (lim : Limits) (w₀ w : List ℕ) (len level : ℕ) (touched : List ℕ) : Type 0 where
  pub size : length w ≡ length w₀
  pub atoms : atoms_of w ≡ atoms_of w₀
  pub sentences : sentences_of w ≡ sentences_of w₀
  pub rest : (i : ℕ) → 4 * atoms_of w₀ ≤ i → word w i ≡ word w₀ i
  pub header : HeaderOk lim w len level
  pub trail_ok : TrailOk w (atoms_of w₀) len level
  pub reasons : (i : ℕ) → i < len → Reasoned w (atoms_of w₀) (sentences_of w₀) i
  pub standings : (a : ℕ) → 1 ≤ a → a ≤ atoms_of w₀ → word touched a ≡ 0
      → standing_of (trail (rows_of w₀)) a ≡ standing_of (trail (rows_from w (atoms_of w₀) len)) a

-- w' is whole, with the theory of w₀ and the rows of w
pub record RenewedWhole (lim : Limits) (w₀ w w' : List ℕ) (len level : ℕ) : Type 0 where
  pub whole : Whole lim w' (counters_with len level)
  pub atoms : atoms_of w' ≡ atoms_of w₀
  pub sentences : sentences_of w' ≡ sentences_of w₀
  pub theory : theory_of w' ≡ theory_of w₀
  pub rows : rows_of w' ≡ rows_from w (atoms_of w₀) len
  pub level_is : level_of w' ≡ level
  pub need : need_of w' ≡ need_of w₀
  pub size : length w' ≡ length w₀
  pub rest : drop (need_of w₀) w' ≡ drop (need_of w₀) w₀

-- ---- a whole area whose words behind the trail stay: its theory is the same and can be refreshed

module _ (lim : Limits) (w₀ w : List ℕ) (c₀ : Counters) (whole : Whole lim w₀ c₀) (size : length w ≡ length w₀)
    (rest : (i : ℕ) → 4 * atoms_of w₀ ≤ i → word w i ≡ word w₀ i) where
  before : Parts lim w₀ c₀.length_is c₀.level_is
  before = parts lim w₀ c₀.length_is c₀.level_is whole

  theory_kept : SameTheory w₀ w (atoms_of w₀) (sentences_of w₀)
  theory_kept =
      theory_behind size
      (λ s h. same_record w₀ w (record_at (atoms_of w₀) s) (λ i l u. rest i (omega arith)) (before.sentences s h).words.tag)
      (λ i l. rest i (omega arith))

  pub refreshable : Fitting lim → (touched : List ℕ) → length touched ≡ 4097 → Refreshable lim w (atoms_of w₀) (sentences_of w₀) touched
  refreshable fitting touched table = record {
    fitting = fitting;
    atoms_low = whole.theory.atoms_low;
    atoms_high = whole.theory.atoms_high;
    sentences = whole.theory.sentences;
    places = places_stay theory_kept lim (omega (arith, before.places.room)) before.places;
    each = λ s h. sentence_stays theory_kept lim s h (before.sentences s h).words;
    table = table;
  }

-- ---- and refreshed

module _ (lim : Limits) (w₀ w w' : List ℕ) (c₀ : Counters) (len level : ℕ) (touched : List ℕ)
    (whole : Whole lim w₀ c₀) (changed : TrailChanged lim w₀ w len level touched) (done : Refreshed w w' (atoms_of w₀) (sentences_of w₀) touched) where
  abbrev n : ℕ
  n = atoms_of w₀

  abbrev S : ℕ
  S = sentences_of w₀

  old_parts : Parts lim w₀ c₀.length_is c₀.level_is
  old_parts = before lim w₀ w c₀ whole changed.size changed.rest

  first : word w' 0 ≡ word w 0
  first = done.front 0 (omega (arith, whole.theory.atoms_low))

  few : len ≤ n
  few = omega (arith, changed.header.few, changed.atoms)

  -- ---- the theory stays: from w₀ to w all its words, and from w to w' what each record says

  same_first : SameTheory w₀ w n S
  same_first = theory_kept lim w₀ w c₀ whole changed.size changed.rest

  same_next : SameTheory w w' n S
  same_next = theory_behind done.size (λ s h. (done.each s h).same) done.behind

  size : length w' ≡ length w₀
  size = done.size ∙ changed.size

  behind : (i : ℕ) → 4 * n + 8 * S ≤ i → word w' i ≡ word w₀ i
  behind i l = done.behind i l ∙ changed.rest i (omega arith)

  same : SameTheory w₀ w' n S
  same = theory_behind size (λ s h. record_through w₀ w w' (record_at n s) (same_first.records s h) (done.each s h).same) behind

  -- ---- each sentence matches the new trail

  abbrev new : List ℤ
  new = trail (rows_from w n len)

  as_before : (s : ℕ) → AsBefore w w' (record_at n s) → AsBefore w₀ w' (record_at n s)
  as_before s a = record {
    tag = a.tag ∙ changed.rest (record_at n s + 1) (omega arith);
    least = a.least ∙ changed.rest (record_at n s + 4) (omega arith);
    greatest = a.greatest ∙ changed.rest (record_at n s + 5) (omega arith);
  }

  matches : (s : ℕ) → s < S → Matching w' n S (record_at n s) new
  matches s h = go (done.each s h).how
    where
      go : (Untouched w n S (record_at n s) touched × AsBefore w w' (record_at n s)) ⊎ Renewed w w' n S (record_at n s) → Matching w' n S (record_at n s) new
      go (inl p) =
          untouched_matches n touched (trail (rows_of w₀)) new changed.standings lim w₀ w' S (record_at n s) (rule_stays same s h) (old_parts.sentences s h).words.rule
          (subst (λ (r : Rule). Each (λ a. word touched a ≡ 0) (scope r)) (rule_stays same_first s h) p.0) (as_before s p.1)
          (record { bounds = whole.bounds s h; quiet = whole.quiet s h })
      go (inr r) = renewed_matches w w' n S (record_at n s) new (rule_stays same_next s h) (shows changed.trail_ok) r

  rows_new : rows_from w' n len ≡ rows_from w n len
  rows_new = rows_stay w w' n done.front len few

  -- ---- word 0

  atoms_new : atoms_of w' ≡ n
  atoms_new = ap {A = ℕ} (λ x. x % 65536) first ∙ changed.atoms

  sentences_new : sentences_of w' ≡ S
  sentences_new = ap {A = ℕ} (λ x. x / 65536 % 65536) first ∙ changed.sentences

  header_new : HeaderOk lim w' len level
  header_new = header_stays lim w w' len level (omega (arith, done.size, changed.header.records)) first changed.header

  pub renewed_whole : RenewedWhole lim w₀ w w' len level
  renewed_whole = record {
    whole =
        joined_at lim w' len level n S atoms_new sentences_new header_new
        (record {
          trail_ok = trail_stays w w' n done.front len level few changed.trail_ok;
          places = places_stay same lim (omega (arith, size, old_parts.places.room)) old_parts.places;
          sentences = λ s h. subst (λ (rs : List Row). SentenceRight lim w' n S (record_at n s) (trail rs)) (sym rows_new)
              (record { words = sentence_stays same lim s h (old_parts.sentences s h).words; matching = matches s h });
          reasons = λ i l. reason_stays w w' n done.front S i same_next (omega arith) (changed.reasons i l);
        });
    atoms = atoms_new;
    sentences = sentences_new;
    theory = ap₂ {A = ℕ} {B = ℕ} (λ m k. rules_from w' m k 0 k) atoms_new sentences_new ∙ rules_stay same 0 S (omega arith);
    rows = ap₂ {A = ℕ} {B = ℕ} (rows_from w') atoms_new header_new.length_is ∙ rows_new;
    level_is = header_new.level_is;
    need =
        ap₂ {A = ℕ} {B = ℕ} (λ m k. 4 * m + 8 * k + 2 * entries_before w' m k) atoms_new sentences_new
        ∙ ap {A = ℕ} (λ x. 4 * n + 8 * S + 2 * x) (before_stays same S (omega arith));
    size = size;
    rest = drop_same w₀ w' (need_of w₀) size (λ i l. behind i (omega arith));
  }
