-- Words that pass the test of wholeness are whole, clause by clause: only this direction. A check is a test with what its passing shows, so
-- that each clause stands here once, with its test. And two ways of not being whole: counters that are not the stored ones, too few words.
use mathlib.Core.Path.{◌≡◌, sym, subst}
use mathlib.Core.Bool.{Bool, true, false, not, cond, ◌&&◌}
use mathlib.Core.List.{List, [], ◌∷◌}
use Prim.Native.Nat.{ℕ, zero, suc, ◌+◌, ◌*◌, ◌<◌, ◌≤◌, ◌%◌}
use native.Mathlib.Omega.{arith}
use lib.ListN.{length, get_or}
use lib.IntN.{ℤ, pos, nat_abs}
use lib.Signed.{le_z}
use lib.Dec.{T, T_not, eqb, eqb_refl, eqb→eq, leb, leb→le, le→leb, ltb, ltb→lt}
use Rattle.types.specs.declared.Limits.{Limits}
use Rattle.numbers.specs.Extended.{up, down}
use Rattle.numbers.specs.Words.{word as word_of}
use Rattle.meaning.specs.Meaning.{atom, Entry, entry_atom, Kind, sum, product, count, maximum, minimum, same, mixes, multiplied, Each, silent}
use Rattle.meaning.specs.Merge.{Rule, scope}
use Rattle.meaning.specs.Computed.{extreme, first_said}
use Rattle.meaning.proofs.Checks.{every, same_said}
use Rattle.meaning.proofs.Tests.{every_is, same_said_is}
use Rattle.meaning.proofs.Verdicts.{and_first, and_second}
use Rattle.meaning.proofs.Members.{same→eq}
use Rattle.book.specs.Rows.{Row, trail}
use Rattle.book.specs.Book.{Counters}
use Rattle.area.specs.Layout.{word, atoms_of, sentences_of, length_of, level_of, value_at, literal_at, cause_at, row_at, place_at, rows_from, value_word, record_at, tag_at, pending_at, least_at, greatest_at, before_at, written_at, merged_at, entry_at, rule_at, entries_before, need_of}
use Rattle.area.specs.Whole.{Whole, SumWeight, WeightWhole, EntryWhole, DistinctAtoms, weights_of, RuleWhole, AtomsOnce, Rising, Reasoned}
use Rattle.trail_check.specs.Trail.{HeaderOk, TrailOk}
use Rattle.theory_check.specs.Theory.{PlaceOk, PlacesOk, SentenceOk}
use Rattle.whole.specs.Parts.{Matching}
use Rattle.whole.proofs.Join.{joined}

-- ---- checks

pub record Check (P : Type 0) : Type 0 where
  pub test : Bool
  pub right : T test → P

abbrev by : {P : Type 0} (b : Bool) → (T b → P) → Check P
by b f = record { test = b; right = f }

abbrev via : {P Q : Type 0} → Check P → (P → Q) → Check Q
via p f = by p.test (λ t. f (p.right t))

abbrev both : {P Q : Type 0} → Check P → Check Q → Check (P × Q)
both p q = by (p.test && q.test) (λ t. (p.right (and_first p.test q.test t), q.right (and_second p.test q.test t)))

pub asked : {P : Type 0} (b : Bool) (p : Check P) → T (cond b p.test true) → T b → P
asked true p h t = p.right h
asked false p h t = absurd t

-- where a test holds
abbrev where_so : {P : Type 0} (b : Bool) → Check P → Check (T b → P)
where_so b p = by (cond b p.test true) (asked b p)

abbrev le : (a b : ℕ) → Check (a ≤ b)
le a b = by (leb a b) (leb→le a b)

abbrev eq : (a b : ℕ) → Check (a ≡ b)
eq a b = by (eqb a b) (eqb→eq a b)

pub differs : (m n : ℕ) → T (not (eqb m n)) → ¬ (m ≡ n)
differs m n t e = T_not (eqb m n) t (subst (λ x. T (eqb m x)) e (eqb_refl m))

abbrev other : (a b : ℕ) → Check (¬ (a ≡ b))
other a b = by (not (eqb a b)) (differs a b)

module _ {A : Type 0} {P : A → Type 0} (f : (x : A) → Check (P x)) where
  abbrev each : (xs : List A) → Check (Each P xs)
  each xs = by (every (λ x. (f x).test) xs) (every_is (λ x. (f x).test) P (λ x t. (f x).right t) xs)

abbrev each_below : ℕ → (ℕ → Bool) → Bool
each_below zero p = true
each_below (suc k) p = each_below k p && p k

pub at_each : (k : ℕ) (p : ℕ → Bool) → T (each_below k p) → (i : ℕ) → i < k → T (p i)
at_each zero p h i l = absurd (omega arith)
at_each (suc k) p h i l =
    go (eqb i k) (λ t. subst (λ x. T (p x)) (sym (eqb→eq i k t)) (and_second (each_below k p) (p k) h))
    (λ t. let d = differs i k t in at_each k p (and_first (each_below k p) (p k) h) i (omega arith))
  where
    go : (b : Bool) → (T b → T (p i)) → (T (not b) → T (p i)) → T (p i)
    go true y z = y tt
    go false y z = z tt

module _ {P : ℕ → Type 0} (k : ℕ) (f : (i : ℕ) → Check (P i)) where
  abbrev below : Check ((i : ℕ) → i < k → P i)
  below = by (each_below k (λ i. (f i).test)) (λ t i l. (f i).right (at_each k (λ i. (f i).test) t i l))

-- from number k on, those below n are 0
abbrev zeros : (f : ℕ → ℕ) (k n : ℕ) → Check ((i : ℕ) → k ≤ i → i < n → f i ≡ 0)
zeros f k n = via (below n (λ i. where_so (leb k i) (eq (f i) 0))) (λ e i l u. e i u (le→leb k i l))

-- ---- word 0, and the trail

abbrev header_ok : (lim : Limits) (w : List ℕ) (len level : ℕ) → Check (HeaderOk lim w len level)
header_ok lim w len level =
    via (both (both (both (le 1 (atoms_of w)) (le (atoms_of w) lim.atoms))
    (both (le (sentences_of w) lim.sentences) (le (4 * atoms_of w + 8 * sentences_of w) (length w))))
    (both (both (eq (length_of w) len) (eq (level_of w) level)) (both (le (level_of w) lim.levels) (le len (atoms_of w)))))
    (λ e. record {
      atoms_low = e.0.0.0;
      atoms_high = e.0.0.1;
      sentences = e.0.1.0;
      records = e.0.1.1;
      length_is = e.1.0.0;
      level_is = e.1.0.1;
      level_limit = e.1.1.0;
      few = e.1.1.1;
    })

-- each row is of an atom, which the rows before it have not
abbrev atoms_once : (n : ℕ) (rows : List Row) → Check (AtomsOnce n rows)
atoms_once n [] = by true (λ _. tt)
atoms_once n (r ∷ rs) =
    let a = atom r.literal in
    via (both (both (le 1 a) (both (le a n) (each (λ (x : Row). other (atom x.literal) a) rs))) (atoms_once n rs)) (λ e. ((e.0.0, e.0.1.0, e.0.1.1), e.1))

abbrev rising : (v : ℕ) (rows : List Row) → Check (Rising v rows)
rising v [] = by true (λ _. tt)
rising v (r ∷ rs) = both (le r.level v) (rising r.level rs)

pub values_are : (w : List ℕ) (n : ℕ) (rows : List Row) → ((i : ℕ) → i < n → value_at w n (suc i) ≡ value_word rows (suc i))
    → (a : ℕ) → 1 ≤ a → a ≤ n → value_at w n a ≡ value_word rows a
values_are w n rows h zero l u = absurd (omega arith)
values_are w n rows h (suc i) l u = h i (omega arith)

abbrev trail_is_ok : (w : List ℕ) (n len level : ℕ) → Check (TrailOk w n len level)
trail_is_ok w n len level =
    let rows = rows_from w n len in
    via (both (both (atoms_once n rows) (both (below n (λ i. eq (value_at w n (suc i)) (value_word rows (suc i)))) (rising level rows)))
    (both (zeros (word w) 1 n) (both (zeros (literal_at w n) len n) (zeros (cause_at w n) len n))))
    (λ e. record { atoms = e.0.0; values = values_are w n rows e.0.1.0; rising = e.0.1.1; front = e.1.0; literals = e.1.1.0; marks = e.1.1.1 })

-- ---- the stored theory

abbrev place_ok : (lim : Limits) (w : List ℕ) (n s : ℕ) → Check (PlaceOk lim w n s)
place_ok lim w n s =
    let b = record_at n s in
    via (both (eq (before_at w b) (entries_before w n s)) (both (le (written_at w b) lim.each) (le (merged_at w b) (written_at w b))))
    (λ e. record { place = e.0; few = e.1.0; merged = e.1.1 })

abbrev places_ok : (lim : Limits) (w : List ℕ) (n S : ℕ) → Check (PlacesOk lim w n S)
places_ok lim w n S =
    via (both (below S (place_ok lim w n)) (both (le (entries_before w n S) lim.entries) (le (4 * n + 8 * S + 2 * entries_before w n S) (length w))))
    (λ e. record { each = e.0; entries = e.1.0; room = e.1.1 })

abbrev added : (written : ℕ) (e : Entry) → Check (SumWeight written e)
added written e =
    via (both (by (same e.literal (pos (entry_atom e))) (same→eq e.literal (pos (entry_atom e))))
    (both (by (not (same e.weight (pos 0))) (λ t. t)) (le (nat_abs e.weight) (1000000000 * written))))
    (λ c. record { itself = c.0; something = λ q. T_not (same e.weight (pos 0)) c.1.0 (subst (λ z. T (same z (pos 0))) (sym q) tt); size = c.1.1 })

abbrev weight_whole : (k : Kind) (written : ℕ) (e : Entry) → Check (WeightWhole k written e)
weight_whole sum written e = added written e
weight_whole product written e =
    via (both (by (le_z (pos 1) e.weight) (λ t. t)) (le (nat_abs e.weight) 1000000000000000000)) (λ c. record { low = c.0; high = c.1 })
weight_whole count written e = added written e
weight_whole maximum written e = le (nat_abs e.weight) 1000000000
weight_whole minimum written e = le (nat_abs e.weight) 1000000000

abbrev entry_whole : (n head : ℕ) (k : Kind) (written : ℕ) (e : Entry) → Check (EntryWhole n head k written e)
entry_whole n head k written e =
    via (both (both (le 1 (entry_atom e)) (le (entry_atom e) n)) (both (weight_whole k written e) (other (entry_atom e) head)))
    (λ c. record { atom_low = c.0.0; atom_high = c.0.1; weighs = c.1.0; other = c.1.1 })

abbrev once : (es : List Entry) → Check (DistinctAtoms es)
once [] = by true (λ _. tt)
once (e ∷ es) = both (each (λ (x : Entry). other (entry_atom x) (entry_atom e)) es) (once es)

abbrev product_test : Kind → List Entry → Bool
product_test sum es = true
product_test product es = le_z (multiplied (weights_of es)) (pos 1000000000000000000)
product_test count es = true
product_test maximum es = true
product_test minimum es = true

abbrev rule_whole : (lim : Limits) (n : ℕ) (r : Rule) → Check (RuleWhole lim n r)
rule_whole lim n r =
    via (both (both (both (le r.written lim.each) (le 1 r.head)) (both (le r.head n) (le (nat_abs r.bound) 1000000000000000000)))
    (both (both (le (nat_abs r.set.constant) (1000000000 * r.written)) (each (entry_whole n r.head r.kind r.written) r.set.entries))
    (both (once r.set.entries) (by (product_test r.kind r.set.entries) (λ t. t)))))
    (λ c. record {
      few = c.0.0.0;
      head_low = c.0.0.1;
      head_high = c.0.1.0;
      bound = c.0.1.1;
      constant = c.1.0.0;
      entries = c.1.0.1;
      once = c.1.1.0;
      product = λ q. subst (λ k. T (product_test k r.set.entries)) q c.1.1.1;
    })

abbrev sentence_ok : (lim : Limits) (w : List ℕ) (n S b : ℕ) → Check (SentenceOk lim w n S b)
sentence_ok lim w n S b =
    via (both (both (le (tag_at w b % 8) 4) (by (ltb (tag_at w b) 32) (ltb→lt (tag_at w b) 32)))
    (both (rule_whole lim n (rule_at w n S b)) (both (where_so (not (mixes (rule_at w n S b).kind)) (eq (word w (b + 3)) 0))
    (zeros (λ i. word w (entry_at w n S b + i)) (2 * merged_at w b) (2 * written_at w b)))))
    (λ c. record { kind = c.0.0; tag = c.0.1; rule = c.1.0; constant = c.1.1.0; unused = c.1.1.1 })

-- ---- bounds, silence and reasons

abbrev matching : (w : List ℕ) (n S b : ℕ) (t : List ℤ) → Check (Matching w n S b t)
matching w n S b t =
    let r = rule_at w n S b in
    via (both (eq (least_at w b) (word_of (extreme down r t))) (both (eq (greatest_at w b) (word_of (extreme up r t)))
    (where_so (not (pending_at w b)) (by (same_said (first_said r t) silent) (same_said_is (first_said r t) silent)))))
    (λ c. record { bounds = record { least = c.0; greatest = c.1.0 }; quiet = λ q. c.1.1 (subst (λ x. T (not x)) (sym q) tt) })

-- a row of atom a with place j in its reason, whose number comes first: 0 has place 0, and a sentence has the atom at the place
abbrev reason_test : ℕ → List ℕ → ℕ → ℕ → ℕ → ℕ → Bool
reason_test zero w n S j a = eqb j 0
reason_test (suc s) w n S j a = eqb (get_or (scope (rule_at w n S (record_at n s))) j 0) a

abbrev reasoned : (w : List ℕ) (n S i : ℕ) → Check (Reasoned w n S i)
reasoned w n S i =
    let r = row_at w n i in
    let j = place_at w n i in
    via (both (le r.reason S) (by (reason_test r.reason w n S j (atom r.literal)) (λ t. t)))
    (λ c. record {
      few = c.0;
      given = λ q. eqb→eq j 0 (subst (λ k. T (reason_test k w n S j (atom r.literal))) q c.1);
      derived = λ s q.
          eqb→eq (get_or (scope (rule_at w n S (record_at n s))) j 0) (atom r.literal) (subst (λ k. T (reason_test k w n S j (atom r.literal))) q c.1);
    })

-- ---- whole

abbrev whole : (lim : Limits) (w : List ℕ) (c : Counters) → Check (Whole lim w c)
whole lim w c =
    let n = atoms_of w in
    let S = sentences_of w in
    let t = trail (rows_from w n c.length_is) in
    via (both (both (header_ok lim w c.length_is c.level_is) (trail_is_ok w n c.length_is c.level_is))
    (both (places_ok lim w n S) (both (below S (λ s. both (sentence_ok lim w n S (record_at n s)) (matching w n S (record_at n s) t)))
    (below c.length_is (reasoned w n S)))))
    (λ e. joined lim w c.length_is c.level_is (record {
      header = e.0.0;
      trail_ok = e.0.1;
      places = e.1.0;
      sentences = λ s l. let x = e.1.1.0 s l in record { words = x.0; matching = x.1 };
      reasons = e.1.1.1;
    }))

abbrev pub whole_test : Limits → List ℕ → Counters → Bool
whole_test lim w c = (whole lim w c).test

pub decided : (lim : Limits) (w : List ℕ) (c : Counters) → T (whole_test lim w c) → Whole lim w c
decided lim w c h = (whole lim w c).right h

-- ---- not whole

pub miscounted : (lim : Limits) (w : List ℕ) (c : Counters) → T (not (eqb (length_of w) c.length_is)) → ¬ (Whole lim w c)
miscounted lim w c t h = differs (length_of w) c.length_is t h.length_is

pub cut_short : (lim : Limits) (w : List ℕ) (c : Counters) → T (ltb (length w) (need_of w)) → ¬ (Whole lim w c)
cut_short lim w c t h = let e = h.enough in let l = ltb→lt (length w) (need_of w) t in omega arith
