-- Wholeness determines the words of a sentence: each number, kind, side and literal has one word, and unused words are 0. So two lists
-- that hold the same rule at the same place, with the same bounds and mark, have the same words there.
use mathlib.Core.Path.{◌≡◌, refl, sym, ap, ◌∙◌, subst}
use mathlib.Core.Bool.{not}
use mathlib.Core.List.{List}
use mathlib.Core.Logic.{⊎_elim}
use Prim.Native.Nat.{ℕ, zero, suc, ◌+◌, ◌*◌, ◌/◌, ◌%◌, ◌<◌, ◌≤◌}
use native.Mathlib.Omega.{arith}
use lib.ListN.{length, get_or}
use lib.IntN.{ℤ, pos}
use lib.Dec.{T, leb}
use borrow.Author.Tests.{leb-true, leb-false, le-leb, lt-leb}
use Rattle.types.specs.declared.Limits.{Limits}
use Rattle.numbers.specs.Words.{literal_word, literal_of}
use Rattle.numbers.proofs.Words.{cases, unbias_one, literal_word_of}
use Rattle.meaning.specs.Meaning.{Entry, Kind, sum, product, count, maximum, minimum, Side, lower, upper, mixes}
use Rattle.meaning.specs.Merge.{Rule}
use Rattle.area.specs.Layout.{word, tag_at, pending_at, least_at, greatest_at, before_at, written_at, merged_at, kind_of, side_of, constant_of, entry_at, rule_at}
use Rattle.theory_check.specs.Theory.{SentenceOk}
use Rattle.entries_check.specs.Inner.Entries.{stored_entry}
use Rattle.theory_check.proofs.Listing.{entries_length, entry_is}
use Rattle.theory_check.proofs.Sentences.{literals_low}

-- a whole sentence, inside the area with its room
pub record Inside (lim : Limits) (w : List ℕ) (n S b : ℕ) : Type 0 where
  pub whole : SentenceOk lim w n S b
  pub merged : merged_at w b ≤ written_at w b
  pub room : entry_at w n S b + 2 * written_at w b ≤ length w

-- the same rule at the same place, with the same bounds and mark
pub record Alike (w w' : List ℕ) (n S b : ℕ) : Type 0 where
  pub rule : rule_at w n S b ≡ rule_at w' n S b
  pub place : before_at w b ≡ before_at w' b
  pub pending : pending_at w b ≡ pending_at w' b
  pub least : least_at w b ≡ least_at w' b
  pub greatest : greatest_at w b ≡ greatest_at w' b

-- the same words, in its record and in its room
pub record SameWords (w w' : List ℕ) (n S b : ℕ) : Type 0 where
  pub merged : merged_at w b ≡ merged_at w' b
  pub own : (i : ℕ) → i < 8 → word w (b + i) ≡ word w' (b + i)
  pub entries : (i : ℕ) → i < 2 * written_at w b → word w (entry_at w n S b + i) ≡ word w' (entry_at w n S b + i)

-- ---- one word each

kind_word : Kind → ℕ
kind_word sum = 0
kind_word product = 1
kind_word count = 2
kind_word maximum = 3
kind_word minimum = 4

kind_back : (t : ℕ) → t ≤ 4 → kind_word (kind_of t) ≡ t
unfolding kind_word
kind_back zero h = refl
kind_back (suc zero) h = refl
kind_back (suc (suc zero)) h = refl
kind_back (suc (suc (suc zero))) h = refl
kind_back (suc (suc (suc (suc zero)))) h = refl
kind_back (suc (suc (suc (suc (suc t))))) h = let b : ⊥ = omega arith in absurd b

side_word : Side → ℕ
side_word lower = 0
side_word upper = 1

side_back : (t : ℕ) → t ≤ 1 → side_word (side_of t) ≡ t
unfolding side_word
side_back zero h = refl
side_back (suc zero) h = refl
side_back (suc (suc t)) h = let b : ⊥ = omega arith in absurd b

constant_one : (k : Kind) (x y : ℕ) → constant_of k x ≡ constant_of k y → (T (not (mixes k)) → x ≡ 0) → (T (not (mixes k)) → y ≡ 0) → x ≡ y
constant_one sum x y e p q = unbias_one x y e
constant_one product x y e p q = p tt ∙ sym (q tt)
constant_one count x y e p q = unbias_one x y e
constant_one maximum x y e p q = p tt ∙ sym (q tt)
constant_one minimum x y e p q = p tt ∙ sym (q tt)

tag_one : (s t : ℕ) → s < 32 → t < 32 → s % 8 ≡ t % 8 → s / 8 % 2 ≡ t / 8 % 2 → leb 16 s ≡ leb 16 t → s ≡ t
tag_one s t a b p q e = ⊎_elim
    (λ (h : 16 ≤ s). let g : 16 ≤ t = leb-true 16 t (sym e ∙ le-leb 16 s h) in omega arith)
    (λ (h : s < 16). let g : t < 16 = leb-false 16 t (sym e ∙ lt-leb 16 s h) in omega arith) (cases s 16)

literal_one : (x y : ℕ) → 2 ≤ x → 2 ≤ y → literal_of x ≡ literal_of y → x ≡ y
literal_one x y a b e = sym (literal_word_of x a) ∙ ap {A = ℤ} literal_word e ∙ literal_word_of y b

eight : (P : ℕ → Type 0) → P 0 → P 1 → P 2 → P 3 → P 4 → P 5 → P 6 → P 7 → (i : ℕ) → i < 8 → P i
eight P a b c d e f g h zero l = a
eight P a b c d e f g h (suc zero) l = b
eight P a b c d e f g h (suc (suc zero)) l = c
eight P a b c d e f g h (suc (suc (suc zero))) l = d
eight P a b c d e f g h (suc (suc (suc (suc zero)))) l = e
eight P a b c d e f g h (suc (suc (suc (suc (suc zero))))) l = f
eight P a b c d e f g h (suc (suc (suc (suc (suc (suc zero)))))) l = g
eight P a b c d e f g h (suc (suc (suc (suc (suc (suc (suc zero))))))) l = h
eight P a b c d e f g h (suc (suc (suc (suc (suc (suc (suc (suc i)))))))) l = let x : ⊥ = omega arith in absurd x

-- ---- the two lists

module _ (lim : Limits) (w w' : List ℕ) (n S b : ℕ) (p : Inside lim w n S b) (p' : Inside lim w' n S b) (a : Alike w w' n S b) where
  same_start : entry_at w n S b ≡ entry_at w' n S b
  same_start = ap {A = ℕ} (λ k. 4 * n + 8 * S + 2 * k) a.place

  same_written : written_at w b ≡ written_at w' b
  same_written = ap {A = Rule} (λ r. r.written) a.rule

  same_merged : merged_at w b ≡ merged_at w' b
  same_merged = sym (entries_length w (entry_at w n S b) (merged_at w b) (omega (arith, p.room, p.merged)))
      ∙ ap {A = Rule} (λ r. length r.set.entries) a.rule
      ∙ entries_length w' (entry_at w' n S b) (merged_at w' b) (omega (arith, p'.room, p'.merged))

  none : Entry
  none = record { weight = pos 0; literal = pos 0 }

  same_entry : (i : ℕ) → i < merged_at w b → stored_entry w (entry_at w n S b) i ≡ stored_entry w' (entry_at w' n S b) i
  same_entry i l = sym (entry_is w (entry_at w n S b) (merged_at w b) i none (omega (arith, p.room, p.merged)) l)
      ∙ ap {A = Rule} (λ r. get_or r.set.entries i none) a.rule
      ∙ entry_is w' (entry_at w' n S b) (merged_at w' b) i none (omega (arith, p'.room, p'.merged)) (omega (arith, same_merged))

  -- a word of the room, at the same distance from the start
  abbrev Same : ℕ → Type 0
  Same i = word w (entry_at w n S b + i) ≡ word w' (entry_at w' n S b + i)

  same_weight : (i : ℕ) → i < merged_at w b → Same (2 * i)
  same_weight i l = unbias_one (word w (entry_at w n S b + 2 * i)) (word w' (entry_at w' n S b + 2 * i)) (ap {A = Entry} (λ e. e.weight) (same_entry i l))

  same_literal : (i : ℕ) → i < merged_at w b → Same (2 * i + 1)
  same_literal i l = let x : entry_at w n S b + (2 * i + 1) ≡ entry_at w n S b + 2 * i + 1 = omega arith in
      let y : entry_at w' n S b + 2 * i + 1 ≡ entry_at w' n S b + (2 * i + 1) = omega arith in ap {A = ℕ} (word w) x
      ∙ literal_one (word w (entry_at w n S b + 2 * i + 1)) (word w' (entry_at w' n S b + 2 * i + 1))
      (literals_low lim w n S b (omega (arith, p.room, p.merged)) p.whole i l)
      (literals_low lim w' n S b (omega (arith, p'.room, p'.merged)) p'.whole i (omega (arith, same_merged)))
      (ap {A = Entry} (λ e. e.literal) (same_entry i l)) ∙ ap {A = ℕ} (word w') y

  same_used : (i : ℕ) → i < 2 * merged_at w b → Same i
  same_used i l = ⊎_elim
      (λ (h : 1 ≤ i % 2). let e : 2 * (i / 2) + 1 ≡ i = omega arith in subst Same e (same_literal (i / 2) (omega arith)))
      (λ (h : i % 2 < 1). let e : 2 * (i / 2) ≡ i = omega arith in subst Same e (same_weight (i / 2) (omega arith))) (cases (i % 2) 1)

  same_room : (i : ℕ) → i < 2 * written_at w b → Same i
  same_room i l = ⊎_elim
      (λ (h : 2 * merged_at w b ≤ i). p.whole.unused i h l ∙ sym (p'.whole.unused i (omega (arith, same_merged)) (omega (arith, same_written))))
      (λ (h : i < 2 * merged_at w b). same_used i h) (cases i (2 * merged_at w b))

  same_kind : tag_at w b % 8 ≡ tag_at w' b % 8
  same_kind =
      sym (kind_back (tag_at w b % 8) p.whole.kind) ∙ ap {A = Rule} (λ r. kind_word r.kind) a.rule ∙ kind_back (tag_at w' b % 8) p'.whole.kind

  same_side : tag_at w b / 8 % 2 ≡ tag_at w' b / 8 % 2
  same_side =
      sym (side_back (tag_at w b / 8 % 2) (omega arith)) ∙ ap {A = Rule} (λ r. side_word r.side) a.rule ∙ side_back (tag_at w' b / 8 % 2) (omega arith)

  same_constant : word w (b + 3) ≡ word w' (b + 3)
  same_constant = constant_one (kind_of (tag_at w b % 8)) (word w (b + 3)) (word w' (b + 3))
      (subst (λ (m : ℕ). constant_of (kind_of (tag_at w b % 8)) (word w (b + 3)) ≡ constant_of (kind_of m) (word w' (b + 3))) (sym same_kind)
      (ap {A = Rule} (λ r. r.set.constant) a.rule)) p.whole.constant
      (subst (λ (m : ℕ). T (not (mixes (kind_of m))) → word w' (b + 3) ≡ 0) (sym same_kind) p'.whole.constant)

  same_counts : word w (b + 7) ≡ word w' (b + 7)
  same_counts = omega (arith, same_written, same_merged)

  pub same_sentence : SameWords w w' n S b
  same_sentence = record {
    merged = same_merged;
    own = eight (λ i. word w (b + i) ≡ word w' (b + i))
        (let e : b + 0 ≡ b = omega arith in ap {A = ℕ} (word w) e ∙ ap {A = Rule} (λ r. r.head) a.rule ∙ sym (ap {A = ℕ} (word w') e))
        (tag_one (tag_at w b) (tag_at w' b) p.whole.tag p'.whole.tag same_kind same_side a.pending)
        (unbias_one (word w (b + 2)) (word w' (b + 2)) (ap {A = Rule} (λ r. r.bound) a.rule)) same_constant a.least a.greatest a.place
        same_counts;
    entries = λ i l. same_room i l ∙ ap {A = ℕ} (λ k. word w' (k + i)) (sym same_start);
  }
