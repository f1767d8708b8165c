-- What is found forced can be put on: its atom is open and in the sentence's scope, so an atom of the area; and the mark's fields are the
-- level, the sentence's number and its place.
use mathlib.Core.Path.{◌≡◌, refl, sym, ap, ◌∙◌, subst}
use mathlib.Core.Bool.{Bool, true, false, cond}
use mathlib.Core.Logic.{⊎_elim}
use mathlib.Core.List.{List}
use Prim.Native.Nat.{ℕ, suc, ◌+◌, ◌*◌, ◌/◌, ◌%◌, ◌<◌, ◌≤◌}
use native.Mathlib.Omega.{arith}
use lib.ListN.{get_or}
use lib.Dec.{eqb}
use borrow.Author.Tests.{eqb-true}
use Rattle.types.specs.declared.Limits.{Limits}
use Rattle.types.specs.Limits.{Fitting}
use Rattle.numbers.specs.Words.{literal_of}
use Rattle.numbers.proofs.Words.{cases}
use Rattle.meaning.specs.Meaning.{entry_atom, Each}
use Rattle.meaning.specs.Merge.{Rule, scope}
use Rattle.meaning.specs.Computed.{free, fixed, standing_of}
use Rattle.meaning.proofs.Gather.{each_map}
use Rattle.meaning.proofs.Members.{places_each}
use Rattle.book.specs.Rows.{trail}
use Rattle.book.proofs.Number.{in_each}
use Rattle.area.specs.Layout.{atoms_of, sentences_of, value_at, rows_from, rows_of, record_at, merged_at, rule_at, theory_of}
use Rattle.area.specs.Whole.{EntryWhole, RuleWhole, Whole}
use Rattle.trail_check.proofs.Rows.{atom_of}
use Rattle.trail_check.proofs.Shown.{shows}
use Rattle.theory_check.proofs.Places.{placed}
use Rattle.theory_check.proofs.Scope.{scope_past}
use Rattle.whole.specs.Parts.{counters_with}
use Rattle.whole.proofs.Join.{parts}
use Rattle.whole.proofs.DeterminedPlaces.{place_in}
use Rattle.give.specs.Inner.Trail.{Advanceable}
use Rattle.find.specs.declared.Found.{Found}
use Rattle.find.specs.declared.Found.TheVariants.{Forced}
use Rattle.find.specs.Inner.Find.{spoken_of, Searchable, FoundIs}
use Rattle.find.specs.Inner.Asked.{FindReady}
use Rattle.find.proofs.Sentences.{carried}
use Rattle.derive.proofs.Heard.{derived_open}

-- ---- the mark

abbrev pub mark : ℕ → ℕ → ℕ → ℕ
mark level s p = level + 65536 * (s + 1) + 4294967296 * p

module _ (level s p : ℕ) (low : level < 65536) (few : s + 1 < 65536) where
  mark_level : mark level s p % 65536 ≡ level
  mark_level = omega arith

  upper : mark level s p / 65536 ≡ s + 1 + 65536 * p
  upper = omega arith

  pub mark_reason : mark level s p / 65536 % 65536 ≡ suc s
  mark_reason = ap {A = ℕ} (λ x. x % 65536) upper ∙ omega arith

  mark_place : mark level s p / 4294967296 ≡ p
  mark_place = omega arith

-- the mark fits a word
pub record Sizes (level s p : ℕ) : Type 0 where
  pub level_is : level < 65536
  pub sentence : s + 1 < 65536
  pub place : p ≤ 4096

-- ---- the atom

-- a value word that shows an open atom is 0
free_word : (v : ℕ) → cond (eqb v 0) free (fixed (eqb (v % 2) 1)) ≡ free → v ≡ 0
free_word v e = go (eqb v 0) (eqb-true v 0) e
  where
    go : (b : Bool) → (b ≡ true → v ≡ 0) → cond b free (fixed (eqb (v % 2) 1)) ≡ free → v ≡ 0
    go true f e = f refl
    go false f e = let z : ◌≡◌ {A = ℕ} 0 1 = cc in let b : ⊥ = omega arith in absurd b

scope_within : {lim : Limits} {n : ℕ} {r : Rule} → RuleWhole lim n r → Each (λ a. a ≤ n) (scope r)
scope_within {lim} {n} {r} h = (
  h.head_high,
  places_each (λ a. a ≤ n) r.set.entries (each_map (EntryWhole n r.head r.kind r.written) (λ e. entry_atom e ≤ n) r.set.entries (λ e x. x.atom_high) h.entries),
)

module _ (lim : Limits) (w : List ℕ) (len level : ℕ) (fit : Fitting lim) (h : Whole lim w (counters_with len level)) {x : Found} {s l p : ℕ} (e : x ≡ Forced s l p)
    (f : FoundIs w (atoms_of w) (sentences_of w) x) where
  abbrev n : ℕ
  n = atoms_of w

  abbrev S : ℕ
  S = sentences_of w

  abbrev rule : Rule
  rule = rule_at w n S (record_at n s)

  inside : s < S
  inside = f.inside s l p e

  low : 2 ≤ l
  low = f.literal_low s l p e

  at_place : get_or (scope rule) p 0 ≡ l / 2
  at_place = f.place s l p e

  high : l / 2 ≤ n
  high = in_each (λ a. a ≤ n) (l / 2) (scope rule) (place_in (scope rule) p (l / 2) (omega (arith, low)) at_place) (scope_within (h.theory.each s inside).rule)

  open_atom : value_at w n (l / 2) ≡ 0
  open_atom =
      free_word (value_at w n (l / 2))
      (sym (shows (parts lim w len level h).trail_ok (l / 2) (omega (arith, low)) high)
      ∙ ap {A = ℕ} (λ k. standing_of (trail (rows_from w n k)) (l / 2)) (sym h.length_is)
      ∙ ap {A = ℕ} (standing_of (trail (rows_of w))) (sym (atom_of l))
      ∙ derived_open (trail (rows_of w)) (theory_of w) (suc s) (literal_of l) (f.speech_is ∙ ap {A = Found} spoken_of e))

  -- past the merged entries stands no atom
  place_few : p ≤ 4096
  place_few =
      let q = placed lim w n S s (parts lim w len level h).places inside in
      let few : merged_at w (record_at n s) ≤ 4096 = omega (arith, q.few, q.merged, fit.each) in
      ⊎_elim
      (λ (m : merged_at w (record_at n s) + 1 ≤ p).
      let z : 0 ≡ l / 2 = sym (scope_past w n S (record_at n s) (omega (arith, q.room, q.merged)) p (omega arith)) ∙ at_place in omega (arith, low))
      (λ (m : p < merged_at w (record_at n s) + 1). omega (arith, few))
      (cases p (merged_at w (record_at n s) + 1))

  level_low : level < 65536
  level_low = omega (arith, h.level_is, h.level_limit, fit.levels)

  few : s + 1 < 65536
  few = omega (arith, inside, h.theory.sentences, fit.sentences)

  advanceable : Advanceable lim w n S len level l (mark level s p)
  advanceable =
      let r = mark_reason level s p level_low few in
      let k = mark_place level s p level_low few in
      record {
        fitting = fit;
        whole = h;
        atoms = refl;
        sentences = refl;
        puttable = record { low = low; high = high; free_atom = open_atom };
        level_is = mark_level level s p level_low few;
        few = omega (arith, r, inside);
        given = λ z. absurd (let b : 0 ≡ suc s = sym z ∙ r in omega arith);
        derived = λ i e.
            let q : s ≡ i = let b : suc s ≡ suc i = sym r ∙ e in omega arith in
            subst (λ (j : ℕ). get_or (scope (rule_at w n S (record_at n j))) (mark level s p / 4294967296) 0 ≡ l / 2) q
            (ap {A = ℕ} (λ x. get_or (scope rule) x 0) k ∙ at_place);
      }

  sizes : Sizes level s p
  sizes = record { level_is = level_low; sentence = few; place = place_few }

module _ {lim : Limits} {w : List ℕ} {n S len level : ℕ} (a : Searchable lim w n S len level) {x : Found} {s l p : ℕ} (f : FoundIs w n S x) (e : x ≡ Forced s l p) where
  asked : FindReady w n S
  asked = record { lim = lim; len = len; level = level; searchable = a }

  pub forced_advanceable : Advanceable lim w n S len level l (mark level s p)
  forced_advanceable =
      carried asked (λ n S. FoundIs w n S x → Advanceable lim w n S len level l (mark level s p)) (advanceable lim w len level a.fitting a.whole e) f

  pub forced_sizes : Sizes level s p
  forced_sizes = carried asked (λ n S. FoundIs w n S x → Sizes level s p) (sizes lim w len level a.fitting a.whole e) f
