-- The second pass. The first m entries are those of the first k that have a weight other than 0, and the words from entry k on are as they
-- were; so entry k is dropped, or written behind the m.
use mathlib.Core.Path.{◌≡◌, refl, sym, ap, ◌∙◌}
use mathlib.Core.Bool.{true, false, cond}
use mathlib.Core.List.{List, [], ◌∷◌, ◌++◌}
use mathlib.Core.Logic.{⊎_elim}
use Prim.Native.Nat.{ℕ, ◌+◌, ◌*◌, ◌≤◌, ◌<◌}
use native.Mathlib.Omega.{arith}
use native.Mathlib.Numerals.{add-one}
use native.Mathlib.Nat.{eq-or-lt_of_le}
use lib.IntN.{pos}
use lib.ListN.{length, set, length-set}
use lib.Seq.{get_or-set_same, get_or-set_other}
use Rattle.numbers.specs.Words.{half, unbias}
use Rattle.numbers.proofs.Words.{unbias_zero, unbias_one}
use Rattle.meaning.specs.Meaning.{same}
use Rattle.meaning.specs.Merge.{nonzero}
use Rattle.meaning.proofs.Members.{same→eq, eq→same}
use Rattle.meaning.proofs.Orders.{is_true, is_false}
use Rattle.area.specs.Layout.{word, entry_of}
use Rattle.gather.specs.Inner.Gather.{first_entries, Literals}
use Rattle.merge.specs.Inner.Into.{Sifted}
use Rattle.gather.proofs.Prefix.{nonzero_next}
use Rattle.gather.proofs.Held.{entries_none, entries_next, entries_added}

pub record Sifting (before part : List ℕ) (k m : ℕ) : Type 0 where
  pub sifted : Sifted before part k m
  pub ahead : (j : ℕ) → 2 * k ≤ j → word part j ≡ word before j

pub sift_none : (before : List ℕ) → Sifting before before 0 0
unfolding nonzero
sift_none before = record {
  sifted = record { entries = entries_none before ∙ sym (ap nonzero (entries_none before)); literals = λ h i g. absurd (omega arith); few = omega arith };
  ahead = λ j h. refl;
}

module _ {before part : List ℕ} {k m : ℕ} (s : Sifting before part k m) (room : 2 * k + 1 < length before) where
  one_more : nonzero (first_entries before (k + 1)) ≡ cond (same (unbias (word before (2 * k))) (pos 0)) (nonzero (first_entries before k))
      (nonzero (first_entries before k) ++ (entry_of (word before (2 * k)) (word before (2 * k + 1)) ∷ []))
  one_more = ap (λ n. nonzero (first_entries before n)) (add-one k) ∙ ap nonzero (entries_next before k room)
      ∙ nonzero_next (first_entries before k) (entry_of (word before (2 * k)) (word before (2 * k + 1)))

  weight_same : word part (2 * k) ≡ word before (2 * k)
  weight_same = s.ahead (2 * k) (omega arith)

  literal_same : word part (2 * k + 1) ≡ word before (2 * k + 1)
  literal_same = s.ahead (2 * k + 1) (omega arith)

  pub sift_drop : word part (2 * k) ≡ half → Sifting before part (k + 1) m
  sift_drop e =
      let z : same (unbias (word before (2 * k))) (pos 0) ≡ true = is_true (eq→same (unbias (word before (2 * k))) (pos 0) (ap unbias (sym weight_same ∙ e) ∙ unbias_zero)) in
      record {
        sifted = record {
          entries = s.sifted.entries ∙ sym (one_more ∙ rw z);
          literals = λ h. s.sifted.literals (λ i g. h i (omega arith));
          few = let f = s.sifted.few in omega arith;
        };
        ahead = λ j h. s.ahead j (omega arith);
      }

  module _ (size : length part ≡ length before) (kept : word part (2 * k) ≡ half → ⊥) where
    abbrev moved : List ℕ
    moved = set (set part (2 * m) (word part (2 * k))) (2 * m + 1) (word part (2 * k + 1))

    last_literal : word moved (2 * m + 1) ≡ word before (2 * k + 1)
    last_literal =
        get_or-set_same (set part (2 * m) (word part (2 * k))) (2 * m + 1) (word part (2 * k + 1)) 0 (let f = s.sifted.few in omega (arith, length-set part (2 * m) (word part (2 * k))))
        ∙ literal_same

    other : (j : ℕ) → (j ≡ 2 * m → ⊥) → (j ≡ 2 * m + 1 → ⊥) → word moved j ≡ word part j
    other j d e = get_or-set_other (set part (2 * m) (word part (2 * k))) (2 * m + 1) j (word part (2 * k + 1)) 0 e ∙ get_or-set_other part (2 * m) j (word part (2 * k)) 0 d

    kept_entries : first_entries moved (m + 1) ≡ nonzero (first_entries before (k + 1))
    kept_entries =
        let z : same (unbias (word before (2 * k))) (pos 0) ≡ false =
        is_false (λ t. kept (weight_same ∙ unbias_one (word before (2 * k)) half (same→eq (unbias (word before (2 * k))) (pos 0) t ∙ sym unbias_zero))) in
        ap (first_entries moved) (add-one m) ∙ entries_added part m (word part (2 * k)) (word part (2 * k + 1)) (let f = s.sifted.few in omega arith)
        ∙ ap (λ es. es ++ (entry_of (word part (2 * k)) (word part (2 * k + 1)) ∷ [])) s.sifted.entries
        ∙ ap (λ x. nonzero (first_entries before k) ++ (entry_of x (word part (2 * k + 1)) ∷ [])) weight_same
        ∙ ap (λ x. nonzero (first_entries before k) ++ (entry_of (word before (2 * k)) x ∷ [])) literal_same ∙ sym (one_more ∙ rw z)

    kept_literals : Literals before (k + 1) → Literals moved (m + 1)
    kept_literals h i g = ⊎_elim {A = i ≡ m} {B = i < m} (λ (e : i ≡ m). rw (e, last_literal) (h k (omega arith)))
        (λ (q : i < m). let w : word moved (2 * i + 1) ≡ word part (2 * i + 1) = other (2 * i + 1) (λ z. omega arith) (λ z. omega arith) in
        rw w (s.sifted.literals (λ j f. h j (omega arith)) i q)) (eq-or-lt_of_le (omega arith))

    pub sift_keep : Sifting before (set (set part (2 * m) (word part (2 * k))) (2 * m + 1) (word part (2 * k + 1))) (k + 1) (m + 1)
    sift_keep = record {
      sifted = record { entries = kept_entries; literals = kept_literals; few = let f = s.sifted.few in omega arith };
      ahead = λ j h. other j (λ e. let f = s.sifted.few in omega arith) (λ e. let f = s.sifted.few in omega arith) ∙ s.ahead j (omega arith);
    }
