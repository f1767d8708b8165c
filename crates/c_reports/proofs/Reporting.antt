-- The ways out of a report: what the library's call says on the paper is the one number, and where bounds are read the lent words hold their marks
-- and numbers.
use mathlib.Core.Path.{◌≡◌, refl, sym, ap, ap₂, ◌∙◌, subst}
use mathlib.Core.Bool.{Bool, not, ◌||◌}
use mathlib.Core.List.{List, [], ◌∷◌}
use mathlib.Core.Logic.{⊎_elim}
use Prim.Native.Nat.{ℕ, suc, ◌<◌, ◌≤◌}
use native.Mathlib.Omega.{arith}
use lib.ListN.{length}
use lib.IntN.{ℤ, pos}
use lib.Dec.{T, eqb, ltb}
use borrow.Author.Tests.{eq-eqb, ne_eqb, lt-ltb, le-ltb}
use Rattle.std.specs.Prelude.{Result, Ok, Err}
use Rattle.types.specs.declared.Limits.{Limits}
use Rattle.book.specs.Table.{Report, bounds, a_report, Returned, returned_by, State, Outcome, reply}
use Rattle.book.specs.Book.{Counters}
use Rattle.area.specs.Whole.{Whole}
use Rattle.calls.specs.Calls.{area_state, bounds_returned, listed_returned, Answered, Reports}
use Rattle.calls.specs.Refusals.{code_of, value_of}
use Rattle.calls.specs.declared.Bounds.{Bounds}
use Rattle.calls.specs.declared.Refusal.{Refusal}
use Rattle.calls.specs.declared.Refusal.TheVariants.{TooShort}
use Rattle.c_interface.specs.Interface.{packed, told, refuses, fronted, bound_words, ReportsBounds, ReportsList}
use Rattle.c_interface.specs.Inner.Numbers.{value_in, number_in, readied, number_of, stopped}
use Rattle.c_interface.proofs.Numbers.{refused_number, short_number, done_number, refusal_coded, ready_ok, ready_err}
use Rattle.c_interface.proofs.Telling.{Plain, told_number, refuses_stopped}
use Rattle.c_reports.proofs.Sizes.{reply_by, settled}

-- the words that the paper's numbers make
abbrev pub paper_words : Returned → List ℤ
paper_words p = pos p.least_mark ∷ p.least ∷ pos p.greatest_mark ∷ p.greatest ∷ []

coded : {A : Type 0} {k : ℕ} → suc k ≡ 0 → A
coded e = let b : ⊥ = omega arith in absurd b

module _ (q : State) (k : ℕ) where
  abbrev o : Outcome
  o = reply q (a_report (bounds k) 0)

  words_are : (returned_by o.answer).code ≡ 0 → paper_words (returned_by o.answer) ≡ bound_words o.answer
  words_are =
      reply_by (λ y. (returned_by y.answer).code ≡ 0 → paper_words (returned_by y.answer) ≡ bound_words y.answer) q (a_report (bounds k) 0) (λ e. coded e)
      ((λ e. coded e), ((λ e. coded e), tt)) (λ _. refl)

  plain : Plain o.answer
  plain = reply_by (λ y. Plain y.answer) q (a_report (bounds k) 0) (λ e. coded e) ((λ e. coded e), ((λ e. coded e), tt)) tt

-- no refusal of the bounds comes with a value
valueless : (q : State) (k : ℕ) → (returned_by (reply q (a_report (bounds k) 0)).answer).value ≡ 0
valueless q k = reply_by (λ y. (returned_by y.answer).value ≡ 0) q (a_report (bounds k) 0) refl (refl, (refl, tt)) refl

module _ {lim : Limits} {w : List ℕ} {c : Counters} {k : ℕ} (found : Result Bounds Refusal) (a : Answered lim w c (a_report (bounds k) 0) (bounds_returned found)) (out : List ℤ) where
  abbrev q : State
  q = area_state lim w

  abbrev room : ℕ
  room = length out

  value_small : (bounds_returned found).value ≤ 0
  value_small =
      settled lim w c (bounds_returned found).value 0 (λ g. omega (arith, ap (λ (y : Returned). y.value) (a.told g), valueless q k))
      (λ b. omega (arith, ap (λ (y : Returned). y.value) (a.broken b)))

  -- the answer in one number, and what is refused, by the numbers of the call
  telling : Whole lim w c → number_of (bounds_returned found) 4 room ≡ told (reply q (a_report (bounds k) 0)).answer 4 room
  telling g = ap (λ (y : Returned). number_of y 4 room) (a.told g) ∙ sym (told_number 4 room (reply q (a_report (bounds k) 0)).answer (plain q k))

  refusing : Whole lim w c → refuses (reply q (a_report (bounds k) 0)).answer 4 room ≡ (not (eqb (bounds_returned found).code 0) || ltb room 4)
  refusing g = refuses_stopped 4 room (reply q (a_report (bounds k) 0)).answer (plain q k) ∙ ap (λ (y : Returned). stopped y 4 room) (sym (a.told g))

  module _ (passed : (bounds_returned found).code ≡ 0) where
    whole_only : ¬ (¬ (Whole lim w c))
    whole_only b = omega (arith, ap (λ (y : Returned). y.code) (a.broken b))

    bounds_short : room < 4 → ReportsBounds lim w c (bounds k) out out (packed 18 4)
    bounds_short h = record {
      broken = λ b. absurd (whole_only b);
      answer = λ g. short_number (bounds_returned found).code (bounds_returned found).value 4 room (bounds_returned found).sentence passed h ∙ telling g;
      kept = λ _ _. refl;
      written = λ g n.
          absurd (subst (λ (b : Bool). T (not b))
          (refusing g ∙ ap₂ {A = Bool} {B = Bool} (λ b d. not b || d) (eq-eqb (bounds_returned found).code 0 passed) (lt-ltb room 4 h)) n);
    }

    bounds_done : {out' : List ℤ} → 4 ≤ room → out' ≡ fronted (paper_words (bounds_returned found)) out → (bounds_returned found).sentence ≡ 0
        → ReportsBounds lim w c (bounds k) out out' (packed 0 0)
    bounds_done h f z = record {
      broken = λ b. absurd (whole_only b);
      answer = λ g.
          ap (packed 0) (sym z) ∙ done_number (bounds_returned found).code (bounds_returned found).value 4 room (bounds_returned found).sentence passed h ∙ telling g;
      kept = λ g t.
          absurd (subst T (refusing g ∙ ap₂ {A = Bool} {B = Bool} (λ b d. not b || d) (eq-eqb (bounds_returned found).code 0 passed) (le-ltb room 4 h)) t);
      written = λ g _.
          f ∙ ap {A = List ℤ} (λ xs. fronted xs out) (ap paper_words (a.told g) ∙ words_are q k (ap (λ (y : Returned). y.code) (sym (a.told g)) ∙ passed));
    }

  bounds_refused : ¬ ((bounds_returned found).code ≡ 0) → ReportsBounds lim w c (bounds k) out out (packed (bounds_returned found).code (bounds_returned found).value)
  bounds_refused d = record {
    broken = λ b. (ap (λ (y : Returned). packed y.code y.value) (a.broken b), refl);
    answer = λ g. refused_number (bounds_returned found).code (bounds_returned found).value 4 room (bounds_returned found).sentence d ∙ telling g;
    kept = λ _ _. refl;
    written = λ g n. absurd (subst (λ (b : Bool). T (not b)) (refusing g ∙ ap {A = Bool} (λ b. not b || ltb room 4) (ne_eqb (bounds_returned found).code 0 d)) n);
  }

-- ---- what `ready` answers of the bounds

module _ {lim : Limits} {w : List ℕ} {c : Counters} {k : ℕ} (found : Result Bounds Refusal) (a : Answered lim w c (a_report (bounds k) 0) (bounds_returned found)) (out : List ℤ) where
  pub ready_refused : (e : Refusal) → Err e ≡ readied found 4 (length out)
      → ReportsBounds lim w c (bounds k) out out (packed (code_of e) (value_of e)) × (value_of e < 4294967296)
  ready_refused e answered = ⊎_elim refusal few (ready_err 4 (length out) found e answered)
    where
      refusal : found ≡ Err e → ReportsBounds lim w c (bounds k) out out (packed (code_of e) (value_of e)) × (value_of e < 4294967296)
      refusal is =
          let here : Answered lim w c (a_report (bounds k) 0) (bounds_returned (Err e)) = subst (λ r. Answered lim w c (a_report (bounds k) 0) (bounds_returned r)) is a in
          (bounds_refused (Err e) here out (λ z. let b : ⊥ = omega (arith, refusal_coded e, z) in b), omega (arith, value_small (Err e) here out))

      few : (b : Bounds) × (found ≡ Ok b) × (e ≡ TooShort 4) × (length out < 4)
          → ReportsBounds lim w c (bounds k) out out (packed (code_of e) (value_of e)) × (value_of e < 4294967296)
      few h =
          let here : Answered lim w c (a_report (bounds k) 0) (bounds_returned (Ok h.0)) = subst (λ r. Answered lim w c (a_report (bounds k) 0) (bounds_returned r)) h.1 a in
          subst (λ e. ReportsBounds lim w c (bounds k) out out (packed (code_of e) (value_of e)) × (value_of e < 4294967296)) (sym h.2)
          (bounds_short (Ok h.0) here out refl h.3, omega arith)

  pub ready_done : {out' : List ℤ} (b : Bounds) → Ok b ≡ readied found 4 (length out) → out' ≡ fronted (paper_words (bounds_returned (Ok b))) out
      → ReportsBounds lim w c (bounds k) out out' 0
  ready_done b answered f =
      let h = ready_ok 4 (length out) found b answered in
      let here : Answered lim w c (a_report (bounds k) 0) (bounds_returned (Ok b)) = subst (λ r. Answered lim w c (a_report (bounds k) 0) (bounds_returned r)) h.0 a in
      bounds_done (Ok b) here out refl h.1 f refl

-- ---- lists

pub listed_value : (r : Result ℕ Refusal) → value_in r ≡ (listed_returned r).value
listed_value (Ok n) = refl
listed_value (Err e) = refl

listed_number : (r : Result ℕ Refusal) → number_in r ≡ packed (listed_returned r).code (listed_returned r).value
listed_number (Ok n) = refl
listed_number (Err e) = refl

pub lists : {lim : Limits} {w : List ℕ} {c : Counters} {x : Report} {old new : List ℤ} (r : Result ℕ Refusal) → Reports lim w c x old new (listed_returned r)
    → ReportsList lim w c x old new (number_in r)
lists r a = record {
  broken = λ b. (listed_number r ∙ ap (λ (y : Returned). packed y.code y.value) (a.answer.broken b), a.broken b);
  answer = λ g. listed_number r ∙ ap (λ (y : Returned). packed y.code y.value) (a.answer.told g);
  written = a.written;
}
