-- The ways out of a call that changes the area and hands back numbers: the area is not whole, the call is refused, the lent words are too
-- few, or it is done and hands back what the outcome says, since the counters after a call are those of its outcome.
use mathlib.Core.Path.{◌≡◌, refl, sym, ap, ap₂, ◌∙◌, subst}
use mathlib.Core.Bool.{Bool, true, false, not, cond, ◌||◌}
use mathlib.Core.List.{List, [], ◌∷◌}
use Prim.Native.Nat.{ℕ, zero, suc, ◌<◌, ◌≤◌}
use native.Mathlib.Omega.{arith}
use lib.ListN.{length}
use lib.Dec.{T, eqb, leb, ltb}
use borrow.Author.Tests.{eqb-true, eqb-false, eq-eqb, lt-ltb, le-ltb}
use Rattle.std.specs.Prelude.{Result, Ok, Err}
use Rattle.types.specs.declared.Limits.{Limits}
use Rattle.decide.proofs.Below.{or_right}
use Rattle.meaning.specs.Meaning.{atom}
use Rattle.book.specs.Rows.{Row, any}
use Rattle.book.specs.Table.{Step, give, open_level, take_back, propagate, search, a_step, Answer, refused, Returned, returned_by, State, propagated, no_atom, on_trail, Outcome, unchanged, ended, put_on, step_effect, reply}
use Rattle.book.specs.Book.{Counters}
use Rattle.book.proofs.Making.{ended_value}
use Rattle.area.specs.Layout.{atoms_of, length_of, level_of, rows_of}
use Rattle.area.specs.Whole.{Whole}
use Rattle.whole.specs.Parts.{counters_with}
use Rattle.calls.specs.declared.Refusal.{Refusal}
use Rattle.calls.specs.Refusals.{code_of, value_of, code_in}
use Rattle.calls.specs.Calls.{area_state, refused_returned, is_refusal, idle, unmoved, Moved, Acts}
use Rattle.trail_check.proofs.Rows.{rows_length}
use Rattle.trail.proofs.Rows.{up_to_all}
use Rattle.give.specs.Inner.Refused.{refusal_code}
use Rattle.give.proofs.Refused.{replied}
use Rattle.c_interface.specs.Interface.{packed, told, refuses, fronted, next_counted, Changes}
use Rattle.c_interface.specs.Inner.Numbers.{readied, one_number, number_of, stopped}
use Rattle.c_interface.proofs.Numbers.{passes, short_only, refused_number, short_number, done_number, refusal_coded, refusal_number, ready_number, ready_small}
use Rattle.c_interface.proofs.Telling.{Plain, told_number, refuses_stopped}

-- ---- an effect is no refusal

abbrev Accepted : Answer → Type 0
Accepted a = ((returned_by a).code ≡ 0) × ((is_refusal a ≡ false) × Plain a)

ended_accepted : (k n : ℕ) → Accepted (ended k n)
ended_accepted zero n = (refl, (refl, tt))
ended_accepted (suc k) n = (refl, (refl, tt))

accepted : (q : State) (x : Step) → Accepted (step_effect q x).answer
accepted q (give l) = (refl, (refl, tt))
accepted q open_level = (refl, (refl, tt))
accepted q (take_back k) = (refl, (refl, tt))
accepted q propagate = ended_accepted (propagated q).sentence (put_on q)
accepted q (search ls) = (refl, (refl, tt))

-- the counters after an outcome
abbrev after : Outcome → Counters
after o = counters_with (length o.rows) o.level

opposed : {A : Type 0} → false ≡ true → A
opposed e = absurd (subst (λ (b : Bool). T (not b)) e tt)

module _ (lim : Limits) (w : List ℕ) (c : Counters) (x : Step) (h : Whole lim w c) where
  abbrev q : State
  q = area_state lim w

  -- to the current level
  stayed : (y : Step) → idle q y ≡ true → after (step_effect q y) ≡ c
  stayed (give l) e = opposed e
  stayed open_level e = opposed e
  stayed (take_back k) e =
      let same : k ≡ level_of w = eqb-true k (level_of w) e in
      ap₂ {A = ℕ} {B = ℕ} counters_with
      (ap {A = List Row} length (up_to_all (level_of w) k (rows_of w) (omega arith) h.rising) ∙ rows_length w (atoms_of w) (length_of w) ∙ h.length_is)
      (same ∙ h.level_is)
  stayed propagate e = opposed e
  stayed (search ls) e = opposed e

  module _ (z : refusal_code lim w x ≡ 0) where
    effects : reply q (a_step x) ≡ step_effect q x
    effects = (replied lim w x).passes z

    -- no refusal, so it keeps the words only where it is idle
    keeps_idle : unmoved q x ≡ idle q x
    keeps_idle = ap {A = Bool} (λ b. b || idle q x) (ap (λ (o : Outcome). is_refusal o.answer) effects ∙ (accepted q x).1.0)

    counts : {w' : List ℕ} {c' : Counters} {p : Returned} → Acts lim w w' c c' x p → c' ≡ after (reply q (a_step x))
    counts {w'} {c'} a = go (idle q x) refl
      where
        go : (b : Bool) → idle q x ≡ b → c' ≡ after (reply q (a_step x))
        go true e = (a.kept h (subst T (sym (keeps_idle ∙ e)) tt)).1 ∙ sym (stayed x e) ∙ ap after (sym effects)
        go false e =
            let m = a.moved h (subst (λ (b : Bool). T (not b)) (sym (keeps_idle ∙ e)) tt) in
            ap₂ {A = ℕ} {B = ℕ} counters_with (sym m.whole.length_is ∙ sym (rows_length w' (atoms_of w') (length_of w')) ∙ ap {A = List Row} length m.rows)
            (sym m.whole.level_is ∙ m.level)

-- ---- codes are small

small_either : (b : Bool) {m n : ℕ} → m < 18 → n < 18 → cond b m n < 18
small_either true f g = f
small_either false f g = g

code_small : (lim : Limits) (w : List ℕ) (x : Step) → refusal_code lim w x < 18
code_small lim w (give l) = small_either (no_atom (area_state lim w) l) (omega arith) (small_either (on_trail (area_state lim w) (atom l)) (omega arith) (omega arith))
code_small lim w open_level = small_either (leb lim.levels (level_of w)) (omega arith) (omega arith)
code_small lim w (take_back k) = small_either (ltb (level_of w) k) (omega arith) (omega arith)
code_small lim w propagate = omega arith
code_small lim w (search ls) = small_either (any (no_atom (area_state lim w)) ls) (omega arith) (omega arith)

-- ---- it is whole, and the refusal is asked for

abbrev outcome : Limits → List ℕ → Step → Outcome
outcome lim w x = reply (area_state lim w) (a_step x)

abbrev numbers : Limits → List ℕ → Step → Returned
numbers lim w x = returned_by (outcome lim w x).answer

-- a refusal has a code, and an effect is no list
plain : (lim : Limits) (w : List ℕ) (x : Step) → Plain (outcome lim w x).answer
plain lim w x = go (eqb (refusal_code lim w x) 0) refl
  where
    go : (b : Bool) → eqb (refusal_code lim w x) 0 ≡ b → Plain (outcome lim w x).answer
    go true t =
        subst (λ (o : Outcome). Plain o.answer) (sym ((replied lim w x).passes (eqb-true (refusal_code lim w x) 0 t))) (accepted (area_state lim w) x).1.1
    go false t =
        let d : ¬ (refusal_code lim w x ≡ 0) = eqb-false (refusal_code lim w x) 0 t in
        subst (λ (o : Outcome). Plain o.answer) (sym ((replied lim w x).refuses d)) d

-- of what is handed back
abbrev size : Limits → List ℕ → Step → (Outcome → List ℕ) → ℕ
size lim w x handed = length (handed (outcome lim w x))

-- r is the number of the call's refusal, of code k, or of too few lent words
record Asked (lim : Limits) (w : List ℕ) (c : Counters) (x : Step) (handed : Outcome → List ℕ) (out : List ℕ) (k r : ℕ) : Type 0 where
  whole : Whole lim w c
  code : k ≡ refusal_code lim w x
  number : r ≡ one_number k 0 (size lim w x handed) (length out) 0

module _ {lim : Limits} {w : List ℕ} {c : Counters} {x : Step} {handed : Outcome → List ℕ} {out : List ℕ} {k r : ℕ}
    (asked : Asked lim w c x handed out k r) where
  -- the answer in one number, and whether it is refused, by the paper's numbers
  telling : told (outcome lim w x).answer (size lim w x handed) (length out) ≡ number_of (numbers lim w x) (size lim w x handed) (length out)
  telling = told_number (size lim w x handed) (length out) (outcome lim w x).answer (plain lim w x)

  stopping : refuses (outcome lim w x).answer (size lim w x handed) (length out) ≡ stopped (numbers lim w x) (size lim w x handed) (length out)
  stopping = refuses_stopped (size lim w x handed) (length out) (outcome lim w x).answer (plain lim w x)

  passed_code : k ≡ 0 → (numbers lim w x).code ≡ 0
  passed_code z = ap (λ (y : Outcome). (returned_by y.answer).code) (effects lim w c x asked.whole (sym asked.code ∙ z)) ∙ (accepted (area_state lim w) x).0

  changes_early : ¬ (r ≡ 0) → Changes lim w w c x handed out out r
  changes_early d = go (eqb k 0) refl
    where
      go : (b : Bool) → eqb k 0 ≡ b → Changes lim w w c x handed out out r
      go true t =
          let z = eqb-true k 0 t in
          let few = short_only k 0 (size lim w x handed) (length out) (λ e. d (asked.number ∙ e)) z in
          let told = lt-ltb (length out) (size lim w x handed) few in
          record {
            broken = λ b. absurd (b asked.whole);
            answer = λ _.
                let p = numbers lim w x in
                asked.number ∙ sym (short_number k 0 (size lim w x handed) (length out) 0 z few)
                ∙ short_number p.code p.value (size lim w x handed) (length out) p.sentence (passed_code z) few ∙ sym telling;
            kept = λ _ _. (refl, refl);
            written = λ _ s.
                absurd (subst (λ (b : Bool). T (not b)) (or_right (is_refusal (outcome lim w x).answer) (ltb (length out) (size lim w x handed)) told) s);
            idle = λ _ _. refl;
            moved = λ _ _ s. absurd (subst (λ (b : Bool). T (not b)) told s);
          }
      go false t =
          let e : outcome lim w x ≡ unchanged (area_state lim w) (refused k 0) =
          (replied lim w x).refuses (λ z. eqb-false k 0 t (asked.code ∙ z)) ∙ ap {A = ℕ} (λ j. unchanged (area_state lim w) (refused j 0)) (sym asked.code) in
          record {
            broken = λ b. absurd (b asked.whole);
            answer = λ _.
                asked.number ∙ sym (refused_number k 0 (size lim w x handed) (length out) 0 (eqb-false k 0 t))
                ∙ ap (λ (y : Outcome). told y.answer (size lim w x handed) (length out)) (sym e);
            kept = λ _ _. (refl, refl);
            written = λ _ s. absurd (subst (λ (y : Outcome). T (not (refuses y.answer (size lim w x handed) (length out)))) e s);
            idle = λ _ _. refl;
            moved = λ _ s _. absurd (subst (λ (y : Outcome). T (not (is_refusal y.answer || idle (area_state lim w) x))) e s);
          }

  module _ (zero : r ≡ 0) where
    passed : refusal_code lim w x ≡ 0
    passed = sym asked.code ∙ (passes k 0 (size lim w x handed) (length out) (sym asked.number ∙ zero)).0

    enough : size lim w x handed ≤ length out
    enough = (passes k 0 (size lim w x handed) (length out) (sym asked.number ∙ zero)).1

    -- `given` is what the code hands back: by the counters after the call and the numbers of its answer
    changes_done : {w' : List ℕ} {c' : Counters} {y : Returned} {out' : List ℕ} {s : ℕ} (given : Counters → Returned → List ℕ)
        → given (after (outcome lim w x)) (numbers lim w x) ≡ handed (outcome lim w x) → Acts lim w w' c c' x y → out' ≡ fronted (given c' y) out
        → s ≡ packed 0 y.sentence → Changes lim w w' c x handed out out' s
    changes_done {w'} {c'} {y} given same a front e =
        let is = a.answer.told asked.whole in
        let pass = passed_code (asked.code ∙ passed) in
        record {
          broken = λ b. absurd (b asked.whole);
          answer = λ _.
              let p = numbers lim w x in
              e ∙ ap (λ (u : Returned). packed 0 u.sentence) is ∙ done_number p.code p.value (size lim w x handed) (length out) p.sentence pass enough ∙ sym telling;
          kept = λ _ t.
              absurd (subst T (stopping ∙ ap₂ {A = Bool} {B = Bool} (λ u v. not u || v) (eq-eqb (numbers lim w x).code 0 pass) (le-ltb (length out) (size lim w x handed) enough)) t);
          written = λ _ _.
              front ∙ ap₂ {A = Counters} {B = Returned} (λ d u. fronted (given d u) out) (counts lim w c x asked.whole passed a) is
              ∙ ap {A = List ℕ} (λ ns. fronted ns out) same;
          idle = λ g t. (a.kept g t).0;
          moved = λ g t _. subst (λ (d : Counters). Moved lim w w' d (outcome lim w x)) (counts lim w c x asked.whole passed a) (a.moved g t);
        }

-- ---- what `ready` answers, of what was asked for on a whole area

pub record Found (lim : Limits) (w : List ℕ) (c : Counters) (x : Step) (A : Type 0) (found : Result A Refusal) : Type 0 where
  pub whole : Whole lim w c
  pub code : code_in found ≡ refusal_code lim w x

-- and of whatever else it is given, where that has the same code
pub asked_for : {lim : Limits} {w : List ℕ} {c : Counters} {x : Step} {A B : Type 0} {found : Result A Refusal} {asked : Result B Refusal}
    → Found lim w c x A found → code_in asked ≡ code_in found → Found lim w c x B asked
asked_for f same = record { whole = f.whole; code = same ∙ f.code }

module _ {lim : Limits} {w : List ℕ} {c : Counters} {x : Step} {A : Type 0} {found : Result A Refusal} (f : Found lim w c x A found) (handed : Outcome → List ℕ) (out : List ℕ) where
  asked : Asked lim w c x handed out (code_in found) (refusal_number (size lim w x handed) (length out) (readied found (size lim w x handed) (length out)))
  asked = record {
    whole = f.whole;
    code = f.code;
    number = ready_number (size lim w x handed) (length out) found (omega (arith, f.code, code_small lim w x));
  }

  pub ready_refused : (e : Refusal) → Err e ≡ readied found (size lim w x handed) (length out) → Changes lim w w c x handed out out (packed (code_of e) (value_of e))
  ready_refused e q =
      let n = ap {A = Result A Refusal} (refusal_number (size lim w x handed) (length out)) q in
      subst (λ r. Changes lim w w c x handed out out r) (sym n)
      (changes_early asked (λ z. let b : ⊥ = omega (arith, n, z, refusal_coded e) in b))

  pub ready_few : size lim w x handed ≤ 4 → (e : Refusal) → Err e ≡ readied found (size lim w x handed) (length out) → value_of e < 4294967296
  ready_few l e q = omega (arith, l, ready_small (size lim w x handed) (length out) found e (omega (arith, f.code, code_small lim w x)) q)

  module _ {a : A} (q : Ok a ≡ readied found (size lim w x handed) (length out)) where
    nothing : refusal_number (size lim w x handed) (length out) (readied found (size lim w x handed) (length out)) ≡ 0
    nothing = ap {A = Result A Refusal} (refusal_number (size lim w x handed) (length out)) (sym q)

    pub ready_passed : refusal_code lim w x ≡ 0
    ready_passed = passed asked nothing

    -- the call itself is then not refused
    pub ready_never : {w' : List ℕ} {c' : Counters} (e : Refusal) → Acts lim w w' c c' x (refused_returned e) → ⊥
    ready_never e acts =
        let z = ap (λ (p : Returned). p.code) (acts.answer.told f.whole) ∙ passed_code asked (f.code ∙ ready_passed) in
        omega (arith, z, refusal_coded e)

    pub ready_done : {w' : List ℕ} {c' : Counters} {y : Returned} {out' : List ℕ} {s : ℕ} (given : Counters → Returned → List ℕ)
        → given (after (outcome lim w x)) (numbers lim w x) ≡ handed (outcome lim w x) → Acts lim w w' c c' x y → out' ≡ fronted (given c' y) out
        → s ≡ packed 0 y.sentence → Changes lim w w' c x handed out out' s
    ready_done given same acts front e = changes_done asked nothing given same acts front e

-- ---- what is handed back, by the counters after the call and the answer's numbers

abbrev pub two_words : Counters → Returned → List ℕ
two_words c p = c.length_is ∷ c.level_is ∷ []

abbrev pub three_words : Counters → Returned → List ℕ
three_words c p = c.length_is ∷ c.level_is ∷ p.value ∷ []

abbrev pub four_words : Counters → Returned → List ℕ
four_words c p = c.length_is ∷ c.level_is ∷ p.value ∷ p.gone ∷ []

-- propagate's value is how many rows came on
pub counted_words : (lim : Limits) (w : List ℕ)
    → three_words (after (outcome lim w propagate)) (numbers lim w propagate) ≡ next_counted w (outcome lim w propagate)
counted_words lim w =
    subst (λ (o : Outcome). three_words (after o) (returned_by o.answer) ≡ next_counted w o) (sym ((replied lim w propagate).passes refl))
    (ap {A = ℕ} (λ n. length (propagated (area_state lim w)).rows ∷ level_of w ∷ n ∷ [])
    (ended_value (propagated (area_state lim w)).sentence (put_on (area_state lim w))))
