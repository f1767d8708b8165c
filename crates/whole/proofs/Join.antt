-- Wholeness is the conjunction of what the parts of the check decide: word 0, the trail, the places, the sentences, the reasons.
-- Both directions only regroup clauses; the trail's length is the one that word 0 stores.
use mathlib.Core.Path.{◌≡◌, sym, subst}
use mathlib.Core.List.{List}
use Prim.Native.Nat.{ℕ, ◌<◌, ◌≤◌}
use native.Mathlib.Omega.{arith}
use Rattle.types.specs.declared.Limits.{Limits}
use Rattle.meaning.specs.Meaning.{silent}
use Rattle.meaning.specs.Computed.{first_said}
use Rattle.book.specs.Rows.{trail}
use Rattle.area.specs.Layout.{atoms_of, sentences_of, length_of, level_of, value_at, value_word, rows_from, record_at, rule_at}
use Rattle.area.specs.Whole.{Whole, AtomsOnce, Rising, BoundsMatch}
use Rattle.trail_check.specs.Trail.{HeaderOk}
use Rattle.trail_check.proofs.Few.{few_places}
use Rattle.whole.specs.Parts.{counters_with, Parts, PartsHeld}

module _ (lim : Limits) (w : List ℕ) (len level : ℕ) where
  abbrev n : ℕ
  n = atoms_of w

  abbrev S : ℕ
  S = sentences_of w

  -- ---- the parts make it whole

  pub joined : Parts lim w len level → Whole lim w (counters_with len level)
  joined p = let h = p.header in let t = p.trail_ok in let same : length_of w ≡ len = h.length_is in record {
    enough = p.places.room;
    theory = record {
      atoms_low = h.atoms_low;
      atoms_high = h.atoms_high;
      sentences = h.sentences;
      entries = p.places.entries;
      each = λ s i. let o = (p.sentences s i).words in
          record { kind = o.kind; tag = o.tag; place = (p.places.each s i).place; merged = (p.places.each s i).merged; rule = o.rule };
    };
    trail_right = record {
      atoms = subst (λ k. AtomsOnce n (rows_from w n k)) (sym same) t.atoms;
      values = λ a l u. subst (λ k. value_at w n a ≡ value_word (rows_from w n k) a) (sym same) (t.values a l u);
    };
    rising = subst (λ k. Rising (level_of w) (rows_from w n k)) (sym same) (subst (λ v. Rising v (rows_from w n len)) (sym h.level_is) t.rising);
    level_limit = h.level_limit;
    reasons = λ i l. p.reasons i (subst (λ k. i < k) same l);
    bounds = λ s i. subst (λ k. BoundsMatch w n S (record_at n s) (trail (rows_from w n k))) (sym same) (p.sentences s i).matching.bounds;
    length_is = same;
    level_is = h.level_is;
    unused = record {
      front = t.front;
      literals = λ i l u. t.literals i (subst (λ k. k ≤ i) same l) u;
      marks = λ i l u. t.marks i (subst (λ k. k ≤ i) same l) u;
      constants = λ s i m. (p.sentences s i).words.constant m;
      entries = λ s j i l u. (p.sentences s i).words.unused j l u;
    };
    quiet = λ s i m. subst (λ k. first_said (rule_at w n S (record_at n s)) (trail (rows_from w n k)) ≡ silent) (sym same) ((p.sentences s i).matching.quiet m);
  }

  -- ---- and wholeness gives the parts

  pub parts : Whole lim w (counters_with len level) → Parts lim w len level
  parts h = let same : length_of w ≡ len = h.length_is in
      let once : AtomsOnce n (rows_from w n len) = subst (λ k. AtomsOnce n (rows_from w n k)) same h.trail_right.atoms in record {
        header = omega (arith, few_places w n len once);
        trail_ok = record {
          atoms = once;
          values = λ a l u. subst (λ k. value_at w n a ≡ value_word (rows_from w n k) a) same (h.trail_right.values a l u);
          rising = subst (λ v. Rising v (rows_from w n len)) h.level_is (subst (λ k. Rising (level_of w) (rows_from w n k)) same h.rising);
          front = h.unused.front;
          literals = λ i l u. h.unused.literals i (subst (λ k. k ≤ i) (sym same) l) u;
          marks = λ i l u. h.unused.marks i (subst (λ k. k ≤ i) (sym same) l) u;
        };
        places = record {
          each = λ s i. let x = h.theory.each s i in record { place = x.place; few = x.rule.few; merged = x.merged };
          entries = h.theory.entries;
          room = h.enough;
        };
        sentences = λ s i. let x = h.theory.each s i in record {
          words = record { kind = x.kind; tag = x.tag; rule = x.rule; constant = λ m. h.unused.constants s i m; unused = λ j l u. h.unused.entries s j i l u };
          matching = record {
            bounds = subst (λ k. BoundsMatch w n S (record_at n s) (trail (rows_from w n k))) same (h.bounds s i);
            quiet = λ m. subst (λ k. first_said (rule_at w n S (record_at n s)) (trail (rows_from w n k)) ≡ silent) same (h.quiet s i m);
          };
        };
        reasons = λ i l. h.reasons i (subst (λ k. i < k) (sym same) l);
      }

-- ---- the parts behind word 0, at any numbers of atoms and sentences

pub joined_at : (lim : Limits) (w : List ℕ) (len level n S : ℕ) → atoms_of w ≡ n → sentences_of w ≡ S → HeaderOk lim w len level → PartsHeld lim w n S len level
    → Whole lim w (counters_with len level)
joined_at lim w len level n S e f h p = let q : PartsHeld lim w (atoms_of w) (sentences_of w) len level = rw (e, f) p in
    joined lim w len level (record { header = h; trail_ok = q.trail_ok; places = q.places; sentences = q.sentences; reasons = q.reasons })

pub parts_at : (lim : Limits) (w : List ℕ) (len level n S : ℕ) → atoms_of w ≡ n → sentences_of w ≡ S → Whole lim w (counters_with len level) → PartsHeld lim w n S len level
parts_at lim w len level n S e f h = let p = parts lim w len level h in
    rw (← e, ← f) (record { trail_ok = p.trail_ok; places = p.places; sentences = p.sentences; reasons = p.reasons })
